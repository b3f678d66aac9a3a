use Rattle.std.proofs.Common.{◌≡◌, pos, take}
use Rattle.std.specs.List.{AllByRecursion}
use Rattle.treasury_state.specs.declared.rows.EntryRow.{EntryRow}
use Rattle.treasury_rows.proofs.drafting.branch_rows.count_own.Given as goal

-- the rows so far are of the branch
abbrev pub invariant-entry : goal.invariant-entry
invariant-entry l = record {
  count : l.count ≡ l.row-index;
  own : AllByRecursion (λ (r : EntryRow). r.branch ≡ pos l.branch) (take l.row-index l.rows);
}
