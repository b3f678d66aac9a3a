use Rattle.std.proofs.Common.{◌≡◌, drop}
use Rattle.journal_hints.specs.OddAmount.{is_odd_from, nothing_seen}
use Rattle.journal_hints.proofs.odd.is_odd.Given as goal

-- what is left decides
abbrev pub invariant-loop-at : goal.invariant-loop-at
invariant-loop-at l =
    is_odd_from l.group l.seen (drop l.at l.text) ≡ is_odd_from l.group nothing_seen l.text
