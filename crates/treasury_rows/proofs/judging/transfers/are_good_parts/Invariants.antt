use Rattle.std.proofs.Common.{drop}
use Rattle.std.specs.Prelude.{◌↔◌}
use Rattle.std.specs.List.{AllByRecursion}
use Rattle.treasury_state.specs.Good.{IsGoodPart}
use Rattle.treasury_rows.proofs.judging.transfers.are_good_parts.Given as goal

abbrev pub invariant-loop-part : goal.invariant-loop-part
invariant-loop-part l = AllByRecursion (IsGoodPart l.dispatched) (drop l.part-index l.parts)
    ↔ AllByRecursion (IsGoodPart l.dispatched) l.parts
