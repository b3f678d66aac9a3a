use Rattle.std.proofs.Common.{◌≡◌, drop}
use Rattle.treasury_store.specs.Changes.{styles_with}
use Rattle.treasury_store.proofs.numbers.more_styles.Given as goal

-- so far, and with the rest they are all
abbrev pub invariant-addition : goal.invariant-addition
invariant-addition l = styles_with l.all (drop l.addition-index l.additions) ≡ styles_with l.styles l.additions
