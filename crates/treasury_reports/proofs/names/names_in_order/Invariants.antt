use Rattle.std.proofs.Common.{take}
use Rattle.treasury_state.specs.Seen.{branches_of}
use Rattle.treasury_state.specs.Federation.{names_of}
use Rattle.treasury_reports.proofs.NameLemmas.{InOrder}
use Rattle.treasury_reports.proofs.names.names_in_order.Given as goal

abbrev pub invariant-branches : goal.invariant-branches
invariant-branches g l = InOrder l.names.items (names_of (branches_of (take l.branch-index l.branches)))
