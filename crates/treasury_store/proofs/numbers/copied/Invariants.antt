use Rattle.std.proofs.Common.{◌≡◌, take}
use Rattle.treasury_store.proofs.numbers.copied.Given as goal

-- so far
abbrev pub invariant-unit : goal.invariant-unit
invariant-unit l = l.copy ≡ take l.unit l.styles
