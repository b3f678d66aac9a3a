use Rattle.std.proofs.Common.{◌≡◌, ◌++◌, ◌+◌, drop, option_copied}
use Rattle.treasury_reports.specs.RegisterReport.{listed_from}
use Rattle.treasury_reports.proofs.listed.listed_of.Given as goal

abbrev pub invariant-records : goal.invariant-records
invariant-records l = l.all.items ++ listed_from l.account (option_copied l.tag) (l.index + 1) (drop l.index l.records)
    ≡ listed_from l.account (option_copied l.tag) 1 l.records
