-- The line that answers a command (own rule; docs/FORMATS.md, "Answer lines").
use Rattle.std.specs.Prelude.{ℕ, List, [], ◌++◌, ⊤, Result, Ok, Err, codes, decimal}
use Rattle.money_core.specs.declared.style.Style.{Style}
use Rattle.money_core.specs.declared.cause.Cause.{Cause}
use Rattle.money_core.specs.declared.cause.Cause.TheVariants.{OutOfMemory, ClaimFailed as ClaimCause}
use Rattle.money_core.specs.Cause.{cause_number, cause_name}
use Rattle.money_core.specs.AmountText.{printed_in, IsDeclared}
use Rattle.journal_lines.specs.Date.{printed_date, IsDayNumber}
use Rattle.book_core.specs.declared.place.Place.{Place}
use Rattle.book_core.specs.declared.refusal.Failure.{Failure}
use Rattle.book_core.specs.declared.refusal.Refusal.{Refusal}
use Rattle.book_core.specs.declared.refusal.Refusal.TheVariants.{Plain, Text, ClaimFailed}
use Rattle.treasury_core.specs.declared.command.Answer.{Answer}
use Rattle.treasury_core.specs.declared.command.Answer.TheVariants.{Done, Entered, Repeated}

-- the number and the name of a refusal
abbrev pub refused_text : Cause → List ℕ
refused_text cause = codes "refused " ++ decimal (cause_number cause) ++ codes " " ++ cause_name cause

-- the line of the journal that has the fault; want of memory is no fault of a line
abbrev pub at_line_text : Cause → ℕ → List ℕ
at_line_text OutOfMemory line = []
at_line_text _ line = codes " line " ++ decimal line

-- where a leg stands
abbrev pub place_text : Place → List ℕ
place_text place =
    codes " at " ++ printed_date place.day ++ codes " entry " ++ decimal place.entry ++ codes " leg "
    ++ decimal place.leg

-- the balance that an assertion states, and the one that was found
abbrev pub difference_text : List Style → Failure → List ℕ
difference_text styles failure =
    codes ": asserted " ++ printed_in styles failure.unit failure.asserted
    ++ codes ", found " ++ printed_in styles failure.unit failure.found

-- what a refusal is answered with
abbrev pub refusal_text : List Style → Refusal → List ℕ
refusal_text styles (Plain cause) = refused_text cause
refusal_text styles (Text fault) = refused_text fault.cause ++ at_line_text fault.cause fault.line
refusal_text styles (ClaimFailed failure) =
    refused_text ClaimCause ++ place_text failure.place ++ difference_text styles failure

-- what a command is answered with that is not refused
abbrev pub done_text : Answer → List ℕ
done_text Done = codes "ok"
done_text (Entered new repeated) = codes "ok " ++ decimal new ++ codes " new, " ++ decimal repeated ++ codes " repeated"
done_text Repeated = codes "repeated"

-- the line of an answer, with the line feed that ends it
unfoldable pub answer_text : List Style → Result Answer Refusal → List ℕ
answer_text styles (Ok answer) = done_text answer ++ codes "\n"
answer_text styles (Err refusal) = refusal_text styles refusal ++ codes "\n"

-- a failed assertion has a date and amounts that are printed
pub record IsPrintableFailure (styles : List Style) (failure : Failure) : Type 0 where
  pub day : IsDayNumber failure.place.day
  pub asserted : IsDeclared styles failure.unit failure.asserted
  pub found : IsDeclared styles failure.unit failure.found

-- the refusal can be printed: its failed assertion, if it has one
abbrev pub IsPrintableRefusal : List Style → Refusal → Type 0
IsPrintableRefusal styles (Plain cause) = ⊤
IsPrintableRefusal styles (Text fault) = ⊤
IsPrintableRefusal styles (ClaimFailed failure) = IsPrintableFailure styles failure

-- the answer can be printed: its refusal, if it is one
abbrev pub IsPrintableAnswer : List Style → Result Answer Refusal → Type 0
IsPrintableAnswer styles (Ok answer) = ⊤
IsPrintableAnswer styles (Err refusal) = IsPrintableRefusal styles refusal

-- the answer is no text fault and no failed assertion
abbrev pub IsPlainAnswer : Result Answer Refusal → Type 0
IsPlainAnswer (Ok answer) = ⊤
IsPlainAnswer (Err (Plain cause)) = ⊤
IsPlainAnswer (Err (Text fault)) = ⊥
IsPlainAnswer (Err (ClaimFailed failure)) = ⊥
