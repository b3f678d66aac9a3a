-- What one request is answered that is no line of a run: a word over a file, a call from a network (own rules;
-- docs/RULES.md, "The program"). It is answered as the line of `run` that has it, but a report has no `ok` after its
-- lines.
use Rattle.std.specs.Prelude.{◌≡◌, ℕ, Bool, true, false, List, Result, Ok, Err}
use Rattle.sqlite.specs.Store.{Ghosts}
use Rattle.sqlite.specs.Held.{state}
use Rattle.book_core.specs.declared.refusal.Refusal.{Refusal}
use Rattle.treasury_state.specs.Federation.{Federation}
use Rattle.treasury_core.specs.declared.command.Answer.{Answer}
use Rattle.treasury_core.specs.Run.{Turn}
use Rattle.treasury_store.specs.Treasury.{Treasury, IsTreasuryOf}
use Rattle.treasury_requests.specs.declared.request.Spelled.{Spelled}
use Rattle.treasury_api.specs.declared.asking.Asked.{Asked}
use Rattle.treasury_api.specs.declared.asking.Asked.TheVariants.{Command, DryRun, Report}
use Rattle.treasury_requests.specs.Request.{HasDayNumbers}
use Rattle.treasury_api.specs.Asked.{AsksOf}
use Rattle.treasury_api.specs.Report.{report_text}
use Rattle.treasury_api.specs.Step.{Standing, MayReplyAsked, next, reply_text}
use Rattle.treasury_api.specs.History.{command_if}
use Rattle.treasury_api.specs.Replied.{standing, OfAnyState}
use Rattle.treasury_tables.specs.Kept.{IsFaithful}

-- the text of a reply to one request
abbrev pub request_text : Federation → Result Asked Refusal → Result Answer Refusal → List ℕ
request_text f (Ok (Command c)) r = reply_text f (Ok (Command c)) r
request_text f (Ok (DryRun c)) r = reply_text f (Ok (DryRun c)) r
request_text f (Ok (Report report)) (Ok answer) = report_text f report
request_text f (Ok (Report report)) (Err refusal) = reply_text f (Ok (Report report)) (Err refusal)
request_text f (Err refused) r = reply_text f (Err refused) r

-- the reply is a refusal
abbrev pub is_refusal : Result Answer Refusal → Bool
is_refusal (Ok answer) = false
is_refusal (Err refusal) = true

-- The request is answered by this reply, and leads on: by what it asks, what may be replied to that, and what the reply
-- leaves. Of what is asked and replied holds what `Says` has it, as that a text is the reply's. How else the reply is
-- told, as by an exit status or by a status of HTTP, is for the reader of it to say.
pub record AnswersAs (s : Standing) (request : Spelled) (Says : Result Asked Refusal → Result Answer Refusal → Type 0)
    (reply : Result Answer Refusal) (t : Standing) : Type 0 where
  pub asked : Result Asked Refusal
  pub days : HasDayNumbers request.request
  pub asks : AsksOf s.failed s.now request asked
  pub replies : MayReplyAsked s asked reply
  pub text : Says asked reply
  pub left : t ≡ next s asked reply

-- the same with the text of the reply
abbrev pub AnswersRequest : Standing → Spelled → List ℕ → Result Answer Refusal → Standing → Type 0
AnswersRequest s request said reply t =
    AnswersAs s request (λ (asked : Result Asked Refusal) (r : Result Answer Refusal). said
    ≡ request_text s.now asked r)
    reply t

-- the command of a request that is answered so, with its reply; none where it is answered 41, or where a dry run or a
-- report is asked for, or nothing
abbrev pub command_of : {s : Standing} {request : Spelled} {Says : Result Asked Refusal → Result Answer Refusal
    → Type 0}
    {reply : Result Answer Refusal} {t : Standing} → AnswersAs s request Says reply t → List Turn
command_of {reply = reply} answers = command_if answers.asked reply

-- What a request makes of a treasury: of whichever state it is, while the disk returns what was written, the request is
-- answered by a reply, of which holds what `Says` has it in that state, and which is told as `Tells` has it; and the
-- treasury is of the state where that leads.
pub record RepliesAs {S : Type 0} (g : Ghosts S) (old : Treasury S) (request : Spelled)
    (Says : Federation → Result Asked Refusal → Result Answer Refusal → Type 0)
    (Tells : Result Answer Refusal → Type 0) (new : Treasury S) : Type 0 where
  pub clean : IsFaithful g new.store.conn → IsFaithful g old.store.conn
  pub answers : OfAnyState g old new (λ f. (end : Federation) × (IsTreasuryOf g new end
      × ((reply : Result Answer Refusal)
      × (AnswersAs (standing old f) request (Says f) reply (standing new end) × Tells reply))))

-- the same with the text of the reply
abbrev pub RepliesOn : {S : Type 0} → Ghosts S → Treasury S → Spelled → List ℕ → (Result Answer Refusal → Type 0)
    → Treasury S → Type 0
RepliesOn g old request said Tells new =
    RepliesAs g old request
    (λ (f : Federation) (asked : Result Asked Refusal) (r : Result Answer Refusal). said ≡ request_text f asked r)
    Tells new
