use Rattle.std.proofs.Common.{◌≡◌, ◌++◌, ◌∷◌}
use Rattle.std.specs.Prelude.{replicate}
use Rattle.money_core.specs.Mark.{decimal_byte}
use Rattle.treasury_reports.specs.CommoditiesReport.{thousand}
use Rattle.treasury_reports.proofs.commodities.push_sample_number.Given as goal

abbrev pub invariant-zeros : goal.invariant-zeros
invariant-zeros l =
    l.out.items
    ≡ l.fn.out.items ++ (thousand l.style.mark l.style.grouped
    ++ decimal_byte l.style.mark ∷ replicate l.counter 48)
