use Rattle.std.proofs.Common.{◌≡◌, ◌++◌}
use Rattle.std.specs.List.{AllByRecursion}
use Rattle.treasury_state.specs.Seen.{branches_of}
use Rattle.treasury_state.specs.Kept.{ArePlacesOf}
use Rattle.treasury_state.specs.Index.{IsKept}
use Rattle.treasury_rows.specs.Judged.{AreJudged}
use Rattle.treasury_rows.proofs.keeping.kept.Given as goal

-- with the branches that are left, they are all; and what is left of the judged ones is theirs
abbrev pub invariant-branches : goal.invariant-branches
invariant-branches g l = record {
  same : branches_of l.branches.items ++ l.branch-iterator.rest.items ≡ l.fn.draft.branches;
  kept : AllByRecursion (IsKept g.L.Ledger.book) l.branches.items;
  places : ArePlacesOf l.places (branches_of l.branches.items);
  judged : AreJudged g.L.Ledger.book l.branch-iterator.rest.items l.left.rest.items;
}
