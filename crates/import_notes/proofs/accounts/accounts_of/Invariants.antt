use Rattle.std.proofs.Common.{◌≡◌, ℕ, List, take}
use Rattle.std.specs.Prelude.{is_some}
use Rattle.std.specs.HashMap.{get_by_text}
use Rattle.std.specs.List.{list_any}
use Rattle.import_notes.specs.NewAccount.{posts_to}
use Rattle.import_notes.proofs.accounts.accounts_of.Given as goal

-- those of the records so far
abbrev pub invariant-loop-record : goal.invariant-loop-record
invariant-loop-record l = (other : List ℕ) → is_some (get_by_text l.accounts other)
    ≡ list_any (posts_to other) (take l.record-index l.new)
