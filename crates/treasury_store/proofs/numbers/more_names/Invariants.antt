use Rattle.std.proofs.Common.{◌≡◌, drop}
use Rattle.treasury_store.specs.Changes.{names_with}
use Rattle.treasury_store.proofs.numbers.more_names.Given as goal

-- so far, and with the rest they are all
abbrev pub invariant-addition : goal.invariant-addition
invariant-addition l = names_with l.all (drop l.addition-index l.additions) ≡ names_with l.names l.additions
