use Rattle.std.proofs.Common.{◌≡◌, ◌++◌, drop}
use Rattle.treasury_reports.specs.RegisterReport.{listed_legs}
use Rattle.treasury_reports.proofs.listed.list_legs.Given as goal

abbrev pub invariant-legs : goal.invariant-legs
invariant-legs l = l.all.items ++ listed_legs l.account l.number l.row (drop l.leg-index l.leg-items)
    ≡ l.fn.all.items ++ listed_legs l.account l.number l.row l.row.entry.legs
