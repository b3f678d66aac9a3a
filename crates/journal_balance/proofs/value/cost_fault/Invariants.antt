use Rattle.std.proofs.Common.{◌≡◌, drop}
use Rattle.journal_balance.specs.Legs.{cost_fault}
use Rattle.journal_balance.proofs.value.cost_fault.Given as goal

abbrev pub invariant-loop-posting : goal.invariant-loop-posting
invariant-loop-posting l = cost_fault l.styles (drop l.posting-index l.postings) ≡ cost_fault l.styles l.postings
