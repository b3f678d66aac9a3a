-- Mirrors code: how a treasury serves the lines of a run.
use Rattle.std.specs.Prelude.{◌≡◌, ◌⊎◌, ⊤, ℕ, if◌then◌else◌, List, [], ◌++◌, Some, Result, Ok, Err, MatchResult}
use Rattle.money_core.specs.declared.style.Style.{Style}
use Rattle.money_core.specs.declared.cause.Cause.TheVariants.{OutOfMemory}
use Rattle.book_core.specs.declared.refusal.Refusal.{Refusal}
use Rattle.book_core.specs.declared.refusal.Refusal.TheVariants.{Plain}
use Rattle.treasury_state.specs.Federation.{Federation}
use Rattle.treasury_state.specs.Good.{IsGoodState}
use Rattle.treasury_core.specs.declared.command.Answer.{Answer}
use Rattle.treasury_core.specs.declared.command.Answer.TheVariants.{Done}
use Rattle.treasury_core.specs.declared.command.Command.{Command as AnyCommand}
use Rattle.treasury_core.specs.Fits.{Fits}
use Rattle.treasury_core.specs.Run.{Replies as Steps}
use Rattle.treasury_store.specs.Treasury.{Treasury}
use Rattle.treasury_requests.specs.declared.request.Request.{Request}
use Rattle.treasury_requests.specs.Request.{is_report}
use Rattle.treasury_api.specs.declared.asking.Asked.{Asked}
use Rattle.treasury_api.specs.declared.asking.Asked.TheVariants.{Command, DryRun, Report}
use Rattle.treasury_api.specs.Answer.{answer_text, IsPrintableRefusal}

-- what is asked can be answered: its command fits the commodities, its refusal can be printed
abbrev pub IsReady : List Style → Result Asked Refusal → Type 0
IsReady styles (Ok (Command c)) = Fits styles c
IsReady styles (Ok (DryRun c)) = Fits styles c
IsReady styles (Ok (Report report)) = ⊤
IsReady styles (Err refusal) = IsPrintableRefusal styles refusal

-- what is asked is what is meant, or want of memory
abbrev pub OrMemory : (Result Asked Refusal → Type 0) → Result Asked Refusal → Type 0
OrMemory Meant asked = (asked ≡ Err (Plain OutOfMemory)) ⊎ Meant asked

-- What a command would be answered in a state, the reply of its step or 40: the line of one that is no refusal stands
-- after what was written before, and nothing does where it is refused.
abbrev pub IsForeseen : {T : Type 0} → Federation → AnyCommand → Result T Refusal → List ℕ → List ℕ → Type 0
IsForeseen f c result before written =
    (reply : Result Answer Refusal) × (Steps f c reply × MatchResult result
    (λ _. (answer : Answer) × ((reply ≡ Ok answer) × (written ≡ before ++ answer_text f.styles (Ok answer))))
    (λ refusal. (reply ≡ Err refusal) × (written ≡ before)))

-- a state in memory that is good, and that the command fits
abbrev pub IsHeldFor : {S : Type 0} → Treasury S → AnyCommand → Type 0
IsHeldFor t c = (s : Federation) × ((t.held ≡ Some s) × (Fits s.styles c × IsGoodState s))

-- the line that ends a report; other answers have theirs
abbrev pub end_of_report : Request → List ℕ
end_of_report request = if is_report request then answer_text [] (Ok Done) else []
