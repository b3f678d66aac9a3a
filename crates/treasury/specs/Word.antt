-- What a word over a database file is answered: as the request that it spells, and it is said whether the reply is a
-- refusal (own rules; docs/RULES.md, "The program").
use Rattle.std.specs.Prelude.{◌≡◌, ℕ, Bool, false, List, [], ◌∷◌, ◌++◌, Result}
use Rattle.sqlite.specs.Store.{Ghosts}
use Rattle.book_core.specs.declared.refusal.Refusal.{Refusal}
use Rattle.treasury_state.specs.Federation.{Federation}
use Rattle.treasury_core.specs.declared.command.Answer.{Answer}
use Rattle.treasury_core.specs.Run.{Turn}
use Rattle.treasury_store.specs.Treasury.{Treasury}
use Rattle.treasury_requests.specs.declared.request.Spelled.{Spelled}
use Rattle.treasury_api.specs.Step.{Standing}
use Rattle.treasury_api.specs.OneRequest.{AnswersRequest, RepliesOn, is_refusal, command_of}

-- the request of a word is answered with a text, and leads on; it is said whether the reply is a refusal
abbrev pub AnswersWord : Standing → Spelled → List ℕ → Bool → Standing → Type 0
AnswersWord s request said fails t =
    (reply : Result Answer Refusal) × (AnswersRequest s request said reply t × (fails ≡ is_refusal reply))

-- a word over a file: its request, what is said to it, and whether that is a refusal
pub record Told : Type 0 where
  pub request : Spelled
  pub text : List ℕ
  pub refused : Bool

-- Words over a file, one after another: each is answered by the state that the one before it left there.
abbrev pub AreTold : Federation → List Told → Federation → Type 0
AreTold f [] end = end ≡ f
AreTold f (w ∷ ws) end = (mid : Standing)
    × AnswersWord (record { now = f; failed = false }) w.request w.text w.refused mid × AreTold mid.now ws end

-- the commands among words that are answered so, with their replies, in order
abbrev pub turns_of_words : (f : Federation) (words : List Told) (end : Federation) → AreTold f words end → List Turn
turns_of_words f [] end told = []
turns_of_words f (w ∷ ws) end (mid, (reply, (answers, refused)), rest) =
    command_of answers ++ turns_of_words mid.now ws end rest

-- what the request of a word makes of a treasury
abbrev pub SaysTo : {S : Type 0} → Ghosts S → Treasury S → Spelled → List ℕ → Bool → Treasury S → Type 0
SaysTo g old request text refused new = RepliesOn g old request text (λ reply. refused ≡ is_refusal reply) new
