use Rattle.std.proofs.Common.{◌≡◌, ◌&&◌, ℕ, List, take}
use Rattle.std.specs.Prelude.{is_some, not}
use Rattle.std.specs.HashMap.{get_by_text}
use Rattle.std.specs.List.{list_any}
use Rattle.import_notes.specs.NewAccount.{has_leg_on}
use Rattle.import_notes.proofs.accounts.take_held.Given as goal

-- those that were there, without those of the records so far
abbrev pub invariant-loop-record : goal.invariant-loop-record
invariant-loop-record l = (other : List ℕ) → is_some (get_by_text l.accounts other)
    ≡ (is_some (get_by_text l.fn.accounts other) && not (list_any (has_leg_on other) (take l.record-index l.held)))
