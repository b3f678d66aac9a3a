use Rattle.std.proofs.Common.{drop}
use Rattle.std.specs.Prelude.{◌↔◌}
use Rattle.treasury_state.specs.Good.{HaveOwnNames}
use Rattle.treasury_rows.proofs.judging.have_own_names.Given as goal

abbrev pub invariant-loop-i : goal.invariant-loop-i
invariant-loop-i l = HaveOwnNames (drop l.i l.branches) ↔ HaveOwnNames l.branches
