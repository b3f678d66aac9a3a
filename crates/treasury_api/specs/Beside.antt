-- What is said beside an answer: messages, by their kinds and what they name, of which the lines are printed (own rule;
-- docs/RULES.md, "Explanations" and "Notes"). Where memory runs out before all is said, the sentence of a refusal
-- stands alone, and there are no notes; where it runs out while lines are printed, the first ones are.
use Rattle.std.specs.Prelude.{◌≡◌, ◌⊎◌, ℕ, Bool, true, false, List, [], ◌∷◌, ◌++◌, codes}
use Rattle.std.specs.Prelude.{Option, Some, None, Ok, IsTrue}
use Rattle.money_core.specs.declared.cause.Cause.{Cause}
use Rattle.book_core.specs.declared.refusal.Refusal.{Refusal}
use Rattle.journal_format.specs.declared.txn.Located.{Located}
use Rattle.treasury_state.specs.declared.delta.Addition.{Addition}
use Rattle.treasury_state.specs.Federation.{Federation}
use Rattle.treasury_core.specs.declared.command.Command.{Command}
use Rattle.treasury_core.specs.Step.{delta, reply}
use Rattle.treasury_requests.specs.declared.request.Request.{Request}
use Rattle.treasury_requests.specs.declared.request.Spelled.{Spelled}
use Rattle.treasury_messages.specs.Said.{Said}
use Rattle.treasury_messages.specs.Sentence.{sentence_said}
use Rattle.treasury_messages.specs.Printed.{IsFirstTextOf}
use Rattle.treasury_reasons.specs.Told.{ExplainsRefusal}
use Rattle.treasury_reasons.specs.Failure.{journal_asked}
use Rattle.treasury_reasons.specs.Uneven.{IsReadImport}
use Rattle.import_notes.specs.declared.import.BranchBefore.{BranchBefore as HeldOfBranch}
use Rattle.import_notes.specs.ImportNotes.{entered_notes, IsEnteredAhead}
use Rattle.treasury_notes.specs.declared.notes.HeldBefore.{HeldBefore}
use Rattle.treasury_notes.specs.RequestNotes.{request_notes}
use Rattle.import_notes.specs.OtherBranch.{AreAllPrintable}
use Rattle.treasury_notes.specs.DryRun.{records_added, import_dry_run, dry_run_said}
use Rattle.treasury_api.specs.declared.telling.Grounds.{Grounds}
use Rattle.treasury_api.specs.declared.asking.Asked.TheVariants.{DryRun}
use Rattle.treasury_api.specs.Asked.{SpelledAsks}
use Rattle.treasury_api.specs.WebReply.{cause_of}
use Rattle.treasury_api.specs.JsonReply.{done_json, refused_json}

-- why a request is refused in a state
abbrev pub IsReason : Federation → Request → List ℕ → Refusal → List ℕ → Type 0
IsReason f request source refusal text =
    (said : List Said)
    × (ExplainsRefusal f request source refusal said ⊎ (said ≡ sentence_said (cause_of refusal) ∷ []))
    × IsFirstTextOf said text

-- the notes of a request that was answered, and no refusal: the state is the one after it, and that was held before
pub record AreNotesAfter (f : Federation) (request : Request) (source : List ℕ) (before : HeldBefore)
    (said : List Said) : Type 0 where
  pub entered : (held : HeldOfBranch) (name journal : List ℕ) (list : List Located) → before.branch ≡ Some held
      → IsReadImport f.styles request name journal list → said ≡ entered_notes f name source journal held list
  pub others : journal_asked request ≡ None → said ≡ request_notes f request before

-- what is said of a request that would add this
pub record AreNotesOf (f : Federation) (request : Request) (source : List ℕ) (additions : List Addition)
    (said : List Said) : Type 0 where
  pub entered : (name journal : List ℕ) (list : List Located)
      → IsEnteredAhead f request name journal (records_added additions) list
      → said ≡ import_dry_run f name source journal (records_added additions) list
  pub others : journal_asked request ≡ None → AreAllPrintable f.styles (records_added additions)
      → said ≡ dry_run_said f request additions

-- what an answered dry run would add: what its command would, in the state that memory holds
abbrev pub IsAddedAhead : Option Federation → Spelled → Option (List Addition) → Type 0
IsAddedAhead held request added =
    (f : Federation) × (held ≡ Some f) × (c : Command) × SpelledAsks f request (Ok (DryRun c))
    × (added ≡ Some (delta f c (reply f c)))

-- what is noted: of a dry run by what it would add, of another request by what was held before it
abbrev pub AreNotesBy : Bool → Federation → Request → List ℕ → Grounds → List Said → Type 0
AreNotesBy true f request source grounds said =
    (added : List Addition) × (grounds.added ≡ Some added) × AreNotesOf f request source added said
AreNotesBy false f request source grounds said =
    (before : HeldBefore) × (grounds.held ≡ Some before) × AreNotesAfter f request source before said

-- the notes beside an answer, or nothing
abbrev pub IsNoted : Federation → Spelled → List ℕ → Grounds → List ℕ → Type 0
IsNoted f request source grounds text =
    (said : List Said) × (AreNotesBy request.terms.is_dry_run f request.request source grounds said ⊎ (said ≡ []))
    × IsFirstTextOf said text

-- the reason of a refusal, or the notes; nothing is said where the state is not in memory
abbrev pub IsReasonOrNotes : Option Federation → Spelled → List ℕ → Grounds → Option Refusal → List ℕ → Type 0
IsReasonOrNotes None request source grounds refusal text = text ≡ []
IsReasonOrNotes (Some f) request source grounds (Some refusal) text = IsReason f request.request source refusal text
IsReasonOrNotes (Some f) request source grounds None text = IsNoted f request source grounds text

-- with the last line of what is said of a dry run, if there is memory for it
abbrev pub IsEnded : Spelled → List ℕ → List ℕ → Type 0
IsEnded request said text =
    (text ≡ said)
    ⊎ (IsTrue request.terms.is_dry_run × (text ≡ said ++ codes "treasury: a dry run: nothing was entered\n"))

abbrev pub IsSaidBeside : Option Federation → Spelled → List ℕ → Grounds → Option Refusal → List ℕ → Type 0
IsSaidBeside f request source grounds refusal text =
    (said : List ℕ) × IsReasonOrNotes f request source grounds refusal said × IsEnded request said text

-- the object of an answer that is no refusal, in which that is noted, or nothing
abbrev pub IsJsonNoted : List ℕ → List ℕ → Option ℕ → List ℕ → Type 0
IsJsonNoted line noted entries body =
    (body ≡ done_json line noted entries) ⊎ (body ≡ done_json line [] entries)

-- the object of a refusal, in which that is told, or nothing
abbrev pub IsJsonTold : List ℕ → Cause → List ℕ → Option ℕ → List ℕ → Type 0
IsJsonTold line cause told entries body =
    (body ≡ refused_json line cause told entries) ⊎ (body ≡ refused_json line cause [] entries)
