use Rattle.std.proofs.Common.{◌≡◌, drop}
use Rattle.std.specs.List.{list_any}
use Rattle.treasury_state.specs.Federation.{has_name, has_branch, records_in, records_of}
use Rattle.treasury_state.specs.Seen.{branches_of}
use Rattle.treasury_reports.proofs.branch.records_of.Given as goal

abbrev pub invariant-branches : goal.invariant-branches
invariant-branches g l = record {
  here : list_any (has_name l.name) (branches_of (drop l.branch-index l.branch-items)) ≡ has_branch l.state l.name;
  records : records_in (branches_of (drop l.branch-index l.branch-items)) l.name ≡ records_of l.state l.name;
}
