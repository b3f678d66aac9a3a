use Rattle.std.proofs.Common.{◌≡◌}
use Rattle.journal_hints.specs.LeftOver.{transaction_on}
use Rattle.journal_hints.proofs.source.on_line.Given as goal

-- it is among those that are left
abbrev pub invariant-loop-located : goal.invariant-loop-located
invariant-loop-located l =
    transaction_on l.line l.located-iterator.rest.items ≡ transaction_on l.line l.fn.list.items
