-- Three lists of turns that are not those of the calls: a command stands in front that nobody called for; refused
-- commands are left out; another command is refused in place of each that was. Each is a run that leads to the same
-- state and keeps the books, so that a law of some run would admit it.
use Rattle.std.proofs.Common.{◌≡◌, ◌∙◌, ◌≢◌, ◌≤◌, ◌<◌, ◌⊎◌, ℕ, suc, List, [], ◌∷◌, ◌++◌, length, Result, Ok, Err}
use Rattle.std.proofs.Common.{Some, None, refl, sym, ap, inl, inr, true≢false, arith}
use Rattle.std.specs.Prelude.{IsTrue, codes}
use Rattle.money_core.specs.declared.cause.Cause.TheVariants.{OutOfMemory}
use Rattle.book_core.specs.declared.refusal.Refusal.{Refusal}
use Rattle.book_core.specs.declared.refusal.Refusal.TheVariants.{Plain}
use Rattle.http_request.specs.declared.call.Form.TheVariants as form
use Rattle.http_request.specs.declared.call.Call.TheVariants.{Command as CalledCommand}
use Rattle.treasury_state.specs.Federation.{Federation}
use Rattle.treasury_state.specs.Good.{IsGoodState}
use Rattle.treasury_core.specs.declared.command.Answer.{Answer}
use Rattle.treasury_core.specs.declared.command.Command.{Command as AnyCommand}
use Rattle.treasury_core.specs.declared.command.Command.TheVariants as cmd
use Rattle.treasury_core.specs.Fits.{Fits}
use Rattle.treasury_core.specs.Step.{after}
use Rattle.treasury_core.specs.Run.{Turn, Replies}
use Rattle.treasury_laws.proofs.HeadlineLemmas.{keeps_books}
use Rattle.treasury_api.specs.declared.asking.Asked.TheVariants.{Command}
use Rattle.treasury_requests.specs.declared.request.Request.TheVariants.{Branch}
use Rattle.treasury_requests.specs.Request.{spelled, in_earnest}
use Rattle.treasury_api.specs.Answer.{answer_text}
use Rattle.treasury_api.specs.Step.{Standing, at_first, next}
use Rattle.treasury_api.specs.History.{KeepBooksTo}
use Rattle.treasury_api.specs.OneRequest.{is_refusal}
use Rattle.treasury_api.specs.Web.{AnsweredCall, AreServed, turns_of_calls}
use Rattle.treasury_api.proofs.OneRequestLemmas.{IsRunTo}
use Rattle.treasury_api.proofs.WebLemmas.{calls_run}

-- turns that a law of some run admits, and that are not the turns of the calls
pub record AreWrong (start : Standing) (calls : List AnsweredCall) (end : Standing) (served : AreServed start calls end)
    (turns : List Turn) : Type 0 where
  pub admitted : KeepBooksTo start.now turns end.now
  pub other : turns ≢ turns_of_calls start calls end served

-- a run keeps the books
keep_books_to : (f : Federation) (turns : List Turn) (end : Federation) → IsGoodState f → IsRunTo f turns end
    → KeepBooksTo f turns end
keep_books_to f turns end good run = (run.0, run.1, keeps_books f turns good run.0)

-- ---- a command in front that nobody called for

-- a command that is refused with 40
abbrev pub unasked : Turn
unasked = record { command = cmd.Branch []; reply = Err (Plain OutOfMemory) }

run-unasked : (f : Federation) (turns : List Turn) (end : Federation) → IsRunTo f turns end
    → IsRunTo f (unasked ∷ turns) end
run-unasked f turns end run = ((tt, inr refl, run.0), run.1)

-- a list is not itself with one more in front
longer : (t : Turn) (ts : List Turn) → t ∷ ts ≡ ts → ⊥
longer t ts same = let sizes : suc (length ts) ≡ length ts = ap length same in omega (arith, sizes)

pub unasked_in_front : (start : Standing) (calls : List AnsweredCall) (end : Standing)
    (served : AreServed start calls end)
    → IsGoodState start.now
    → AreWrong start calls end served (unasked ∷ turns_of_calls start calls end served)
unasked_in_front start calls end served good =
    let turns = turns_of_calls start calls end served in
    record {
      admitted = keep_books_to start.now (unasked ∷ turns) end.now good
          (run-unasked start.now turns end.now (calls_run start calls end served));
      other = longer unasked turns;
    }

-- ---- refused commands left out

abbrev pub if_accepted : AnyCommand → Result Answer Refusal → List Turn
if_accepted c (Ok a) = record { command = c; reply = Ok a } ∷ []
if_accepted c (Err e) = []

abbrev pub without_refused : List Turn → List Turn
without_refused [] = []
without_refused (t ∷ ts) = if_accepted t.command t.reply ++ without_refused ts

-- one of the turns is refused
abbrev pub HasRefused : List Turn → Type 0
HasRefused [] = ⊥
HasRefused (t ∷ ts) = IsTrue (is_refusal t.reply) ⊎ HasRefused ts

run-without : (f : Federation) (turns : List Turn) (end : Federation) → IsRunTo f turns end
    → IsRunTo f (without_refused turns) end
run-without f [] end run = run
run-without f (t ∷ ts) end ((fits, replied, rest), is) =
    with_reply t.command t.reply fits replied (run-without (after f t.command t.reply) ts end (rest, is))
  where
    with_reply : (c : AnyCommand) (r : Result Answer Refusal) → Fits f.styles c → Replies f c r
        → IsRunTo (after f c r) (without_refused ts) end → IsRunTo f (if_accepted c r ++ without_refused ts) end
    with_reply c (Ok a) fits replied run = ((fits, replied, run.0), run.1)
    with_reply c (Err e) fits replied run = run

not_more : (c : AnyCommand) (r : Result Answer Refusal) (rest : List Turn) (n : ℕ) → length rest ≤ n
    → length (if_accepted c r ++ rest) ≤ suc n
not_more c (Ok a) rest n most = let more : suc (length rest) ≤ suc n = omega (arith, most) in more
not_more c (Err e) rest n most = let same : length rest ≤ suc n = omega (arith, most) in same

fewer_by : (c : AnyCommand) (r : Result Answer Refusal) (rest : List Turn) (n : ℕ) → IsTrue (is_refusal r)
    → length rest ≤ n
    → length (if_accepted c r ++ rest) < suc n
fewer_by c (Ok a) rest n never most = absurd (true≢false (sym never))
fewer_by c (Err e) rest n refused most = let less : length rest < suc n = omega (arith, most) in less

fewer_behind : (c : AnyCommand) (r : Result Answer Refusal) (rest : List Turn) (n : ℕ) → length rest < n
    → length (if_accepted c r ++ rest) < suc n
fewer_behind c (Ok a) rest n fewer = let less : suc (length rest) < suc n = omega (arith, fewer) in less
fewer_behind c (Err e) rest n fewer = let less : length rest < suc n = omega (arith, fewer) in less

at_most : (ts : List Turn) → length (without_refused ts) ≤ length ts
at_most [] = let none : 0 ≤ 0 = omega arith in none
at_most (t ∷ ts) = not_more t.command t.reply (without_refused ts) (length ts) (at_most ts)

fewer : (ts : List Turn) → HasRefused ts → length (without_refused ts) < length ts
fewer [] none = absurd none
fewer (t ∷ ts) (inl refused) = fewer_by t.command t.reply (without_refused ts) (length ts) refused (at_most ts)
fewer (t ∷ ts) (inr behind) = fewer_behind t.command t.reply (without_refused ts) (length ts) (fewer ts behind)

not_without : (ts : List Turn) → HasRefused ts → without_refused ts ≡ ts → ⊥
not_without ts has same =
    let less = fewer ts has in
    let sizes : length (without_refused ts) ≡ length ts = ap length same in omega (arith, less, sizes)

pub refused_left_out : (start : Standing) (calls : List AnsweredCall) (end : Standing)
    (served : AreServed start calls end)
    → IsGoodState start.now → HasRefused (turns_of_calls start calls end served)
    → AreWrong start calls end served (without_refused (turns_of_calls start calls end served))
refused_left_out start calls end served good has =
    let turns = turns_of_calls start calls end served in
    record {
      admitted = keep_books_to start.now (without_refused turns) end.now good
          (run-without start.now turns end.now (calls_run start calls end served));
      other = not_without turns has;
    }

-- ---- another command refused in place of each that was

abbrev pub unasked_if : AnyCommand → Result Answer Refusal → Turn
unasked_if c (Ok a) = record { command = c; reply = Ok a }
unasked_if c (Err e) = unasked

abbrev pub others_refused : List Turn → List Turn
others_refused [] = []
others_refused (t ∷ ts) = unasked_if t.command t.reply ∷ others_refused ts

-- one of the turns is refused, and is not the other one
abbrev pub HasOther : List Turn → Type 0
HasOther [] = ⊥
HasOther (t ∷ ts) = (IsTrue (is_refusal t.reply) × (t ≢ unasked)) ⊎ HasOther ts

run-others : (f : Federation) (turns : List Turn) (end : Federation) → IsRunTo f turns end
    → IsRunTo f (others_refused turns) end
run-others f [] end run = run
run-others f (t ∷ ts) end ((fits, replied, rest), is) =
    with_reply t.command t.reply fits replied (run-others (after f t.command t.reply) ts end (rest, is))
  where
    with_reply : (c : AnyCommand) (r : Result Answer Refusal) → Fits f.styles c → Replies f c r
        → IsRunTo (after f c r) (others_refused ts) end → IsRunTo f (unasked_if c r ∷ others_refused ts) end
    with_reply c (Ok a) fits replied run = ((fits, replied, run.0), run.1)
    with_reply c (Err e) fits replied run = ((tt, inr refl, run.0), run.1)

abbrev first_turn : List Turn → Turn
first_turn [] = unasked
first_turn (t ∷ ts) = t

abbrev later_turns : List Turn → List Turn
later_turns [] = []
later_turns (t ∷ ts) = ts

is_unasked : (c : AnyCommand) (r : Result Answer Refusal) → IsTrue (is_refusal r) → unasked_if c r ≡ unasked
is_unasked c (Ok a) never = absurd (true≢false (sym never))
is_unasked c (Err e) refused = refl

not_others : (ts : List Turn) → HasOther ts → others_refused ts ≡ ts → ⊥
not_others [] none same = absurd none
not_others (t ∷ ts) (inl (refused, other)) same =
    let first : unasked_if t.command t.reply ≡ t = ap first_turn same in
    other (sym first ∙ is_unasked t.command t.reply refused)
not_others (t ∷ ts) (inr behind) same = not_others ts behind (ap later_turns same)

pub others_in_place : (start : Standing) (calls : List AnsweredCall) (end : Standing)
    (served : AreServed start calls end)
    → IsGoodState start.now → HasOther (turns_of_calls start calls end served)
    → AreWrong start calls end served (others_refused (turns_of_calls start calls end served))
others_in_place start calls end served good has =
    let turns = turns_of_calls start calls end served in
    record {
      admitted = keep_books_to start.now (others_refused turns) end.now good
          (run-others start.now turns end.now (calls_run start calls end served));
      other = not_others turns has;
    }

-- ---- one call of which all three are wrong

-- over nothing a branch is called for, and memory runs out
abbrev pub refused_call : List ℕ → AnsweredCall
refused_call body =
    record {
      form = form.Text;
      call = CalledCommand None body;
      status = 503;
      body = answer_text [] (Err (Plain OutOfMemory));
    }

abbrev pub end_of_call : Standing
end_of_call = next at_first (Ok (Command (cmd.Branch (codes "north")))) (Err (Plain OutOfMemory))

abbrev pub is_served : (body : List ℕ) → spelled body ≡ Some (in_earnest (Branch (codes "north")))
    → AreServed at_first (refused_call body ∷ []) end_of_call
is_served body spells = (
  end_of_call,
  inr (
    in_earnest (Branch (codes "north")),
    spells,
    (
      Err (Plain OutOfMemory),
      (
        record {
          asked = Ok (Command (cmd.Branch (codes "north")));
          days = tt;
          asks = (Ok (Command (cmd.Branch (codes "north"))), (refl, refl));
          replies = inr (inl refl);
          text = refl;
          left = refl;
        },
        refl,
      ),
    ),
  ),
  refl,
)

-- its one turn is the command that was called for, refused with 40: it is refused, and not the other command
pub one_turn : (body : List ℕ) (spells : spelled body ≡ Some (in_earnest (Branch (codes "north"))))
    → turns_of_calls at_first (refused_call body ∷ []) end_of_call (is_served body spells)
    ≡ record { command = cmd.Branch (codes "north"); reply = Err (Plain OutOfMemory) } ∷ []
one_turn body spells = refl

abbrev name_size : AnyCommand → ℕ
name_size (cmd.Branch name) = length name
name_size _ = 0

pub one_is_wrong : (body : List ℕ) (spells : spelled body ≡ Some (in_earnest (Branch (codes "north"))))
    → HasRefused (turns_of_calls at_first (refused_call body ∷ []) end_of_call (is_served body spells))
    × HasOther (turns_of_calls at_first (refused_call body ∷ []) end_of_call (is_served body spells))
one_is_wrong body spells = (inl refl, inl (refl, λ same. named (ap (λ (t : Turn). name_size t.command) same)))
  where
    named : ◌≡◌ {A = ℕ} 5 0 → ⊥
    named never = omega (arith, never)
