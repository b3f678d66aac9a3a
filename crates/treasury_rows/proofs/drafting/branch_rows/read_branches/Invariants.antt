use Rattle.std.proofs.Common.{◌≡◌, ◌++◌, length}
use Rattle.treasury_state.specs.Rows.{entry_rows_in}
use Rattle.treasury_state.proofs.BranchRowLemmas.{AreGood}
use Rattle.treasury_rows.proofs.BranchRowLemmas.{IsBranchFront}
use Rattle.treasury_rows.proofs.drafting.branch_rows.read_branches.Given as goal

-- the branches so far are good, and the front of any with these rows, the rest has the rows and entries that are left,
-- and the entries before those are theirs
abbrev pub invariant-branch : goal.invariant-branch
invariant-branch l = record {
  count : length l.list ≡ l.row-index;
  good : AreGood l.styles l.list;
  front : IsBranchFront l.styles l.rows l.fn.entries l.row-index l.row-index l.list l.left;
  same : entry_rows_in l.styles 0 l.list ++ l.left ≡ l.fn.entries;
}
