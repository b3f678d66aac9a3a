-- What a treasury answers to what is asked of it (own rules; docs/RULES.md, "Runs").
use Rattle.std.specs.Prelude.{◌≡◌, ◌⊎◌, ⊤, ℕ, Bool, false, ◌||◌, List, [], ◌++◌, Some, Result, Ok, Err, IfErr, IsTrue}
use Rattle.std.specs.Prelude.{MatchResult}
use Rattle.sqlite.specs.Store.{Ghosts}
use Rattle.sqlite.specs.Held.{state}
use Rattle.money_core.specs.declared.style.Style.{Style}
use Rattle.money_core.specs.declared.cause.Cause.TheVariants.{OutOfMemory}
use Rattle.book_core.specs.declared.refusal.Refusal.{Refusal}
use Rattle.book_core.specs.declared.refusal.Refusal.TheVariants.{Plain}
use Rattle.treasury_state.specs.Federation.{Federation}
use Rattle.treasury_core.specs.declared.command.Answer.{Answer}
use Rattle.treasury_tables.specs.Kept.{ShutsByFault, IsFaithful}
use Rattle.treasury_store.specs.Treasury.{Treasury, IsTreasuryOf, IsListedRefusal, is_failure}
use Rattle.treasury_requests.specs.declared.request.Spelled.{Spelled}
use Rattle.treasury_api.specs.declared.asking.Asked.{Asked}
use Rattle.treasury_api.specs.declared.asking.Asked.TheVariants.{Command, DryRun, Report}
use Rattle.http_request.specs.declared.call.Form.{Form}
use Rattle.http_request.specs.declared.call.Form.TheVariants as form
use Rattle.treasury_api.specs.Asked.{AsksOf}
use Rattle.treasury_api.specs.Report.{report_in}
use Rattle.treasury_api.specs.Answer.{answer_text, IsPrintableRefusal}
use Rattle.treasury_api.specs.Step.{Standing, MayReplyAsked, Answers, after_asked}
use Rattle.treasury_api.specs.Left.{FailsWith, LeavesReply}

-- said of whichever state the treasury was of before a call, as long as the disk returned what was written
abbrev pub OfAnyState : {S : Type 0} → Ghosts S → Treasury S → Treasury S → (Federation → Type 0) → Type 0
OfAnyState g old new Says = IsFaithful g new.store.conn → (f : Federation) → IsTreasuryOf g old f → Says f

-- where a run on a treasury stands
abbrev pub standing : {S : Type 0} → Treasury S → Federation → Standing
standing t f = record { now = f; failed = t.store.failed }

-- what is answered to what is asked, but for the line that ends a report; a report is answered in a form
abbrev pub body_of : Form → Federation → Result Asked Refusal → Answer → List ℕ
body_of form f (Ok (Command c)) answer = answer_text f.styles (Ok answer)
body_of form f (Ok (DryRun c)) answer = answer_text f.styles (Ok answer)
body_of form f (Ok (Report report)) answer = report_in form f report
body_of form f (Err refusal) answer = []

-- What is asked is replied to: the treasury is of the state after the reply, and the answer stands after what was
-- written before; nothing does where the reply is a refusal. `failed` is whether a call of the database had failed.
pub record IsRepliedIn {S T : Type 0} (form : Form) (g : Ghosts S) (failed : Bool) (new : Treasury S) (f : Federation)
    (asked : Result Asked Refusal) (result : Result T Refusal) (before written : List ℕ) : Type 0 where
  pub reply : Result Answer Refusal
  pub replies : MayReplyAsked (record { now = f; failed = failed }) asked reply
  pub of : IsTreasuryOf g new (after_asked f asked reply)
  pub left : new.store.failed ≡ (failed || is_failure reply)
  pub text : MatchResult result
      (λ _. (answer : Answer) × ((reply ≡ Ok answer) × (written ≡ before ++ body_of form f asked answer)))
      (λ refusal. (reply ≡ Err refusal) × (written ≡ before))

-- the same as text
abbrev pub IsReplied : {S T : Type 0} → Ghosts S → Bool → Treasury S → Federation → Result Asked Refusal
    → Result T Refusal → List ℕ → List ℕ → Type 0
IsReplied g failed new f asked result before written = IsRepliedIn form.Text g failed new f asked result before written

-- a request on a treasury of a state: it asks something, and that is replied to
abbrev pub IsAnsweredIn : {S T : Type 0} → Form → Ghosts S → Bool → Treasury S → Federation → Spelled
    → Result T Refusal → List ℕ → List ℕ → Type 0
IsAnsweredIn form g failed new f request result before written =
    (asked : Result Asked Refusal) × (AsksOf failed f request asked
    × IsRepliedIn form g failed new f asked result before written)

-- the same as text
abbrev pub IsAnswered : {S T : Type 0} → Ghosts S → Bool → Treasury S → Federation → Spelled → Result T Refusal → List ℕ
    → List ℕ → Type 0
IsAnswered g failed new f request result before written =
    IsAnsweredIn form.Text g failed new f request result before written

-- a refusal can be printed: it is plain, or the state in memory has the commodities that it names
abbrev pub IsPrintableIn : {S : Type 0} → Treasury S → Refusal → Type 0
IsPrintableIn t (Plain cause) = ⊤
IsPrintableIn t refusal = (s : Federation) × ((t.held ≡ Some s) × IsPrintableRefusal s.styles refusal)

-- What is said of a refusal whatever the disk returned, and whatever the tables are: on a treasury on which no call has
-- failed it is one of those that are listed, and a call fails just where it is 41; and it can be printed.
pub record RefusesInAnyCase {S T : Type 0} (old new : Treasury S) (r : Result T Refusal) : Type 0 where
  pub listed : old.store.failed ≡ false → IfErr r IsListedRefusal
  pub fails : old.store.failed ≡ false → FailsWith r new.store.failed
  pub printable : IfErr r (IsPrintableIn new)

-- the line of a refusal, or that of 40 in place of one that is not plain
abbrev pub IsLineIn : List Style → Refusal → List ℕ → Type 0
IsLineIn styles (Plain cause) text = text ≡ answer_text [] (Err (Plain cause))
IsLineIn styles refusal text =
    (text ≡ answer_text [] (Err (Plain OutOfMemory))) ⊎ (text ≡ answer_text styles (Err refusal))

-- the same on a treasury: under the commodities of the state in memory
abbrev pub IsLineOf : {S : Type 0} → Treasury S → Refusal → List ℕ → Type 0
IsLineOf t (Plain cause) text = text ≡ answer_text [] (Err (Plain cause))
IsLineOf t refusal text = (s : Federation) × ((t.held ≡ Some s) × IsLineIn s.styles refusal text)

-- What a line makes of a treasury: of whichever state it is, it is answered as a run's line is, and the treasury is of
-- the state where the run then stands; the database stays open, and leaves what it may, as the reply to the line says.
-- Only a fault of the disk shuts it, and after a call that failed a line changes nothing.
pub record Serves {S : Type 0} (g : Ghosts S) (old : Treasury S) (line text : List ℕ) (new : Treasury S) : Type 0 where
  pub answers : OfAnyState g old new (λ f. (end : Federation) × (IsTreasuryOf g new end
      × ((a : Answers (standing old f) line text (standing new end)) × LeavesReply g old new f a.asked a.reply)))
  pub shuts : ShutsByFault g old.store.conn new.store.conn
  pub closed : IsTrue old.store.failed → new ≡ old
