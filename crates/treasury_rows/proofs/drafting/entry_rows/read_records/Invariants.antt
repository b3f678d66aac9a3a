use Rattle.std.proofs.Common.{◌≡◌, ◌+◌, length, take}
use Rattle.std.specs.List.{AllByRecursion}
use Rattle.treasury_state.specs.Good.{IsGoodRecord}
use Rattle.treasury_state.specs.Rows.{entry_row, entry_rows_from}
use Rattle.treasury_rows.proofs.DraftLemmas.{IsFront}
use Rattle.treasury_rows.proofs.drafting.entry_rows.read_records.Given as goal

-- the records so far are good, and the front of any with these rows, the rest has the rows that are left, and the rows
-- before those are theirs
abbrev pub invariant-entry : goal.invariant-entry
invariant-entry l = record {
  count : length l.list ≡ l.row-index;
  good : AllByRecursion (IsGoodRecord l.styles) l.list;
  front : IsFront (entry_row l.styles l.branch) (AllByRecursion (IsGoodRecord l.styles)) 1 l.rows (l.row-index + 1)
      l.row-index l.list;
  same : entry_rows_from l.styles l.branch 1 l.list ≡ take l.row-index l.rows;
}
