use Rattle.std.proofs.Common.{◌≡◌, ◌≤◌, ◌+◌, drop}
use Rattle.treasury_core.proofs.ChoiceLemmas.{sizes}
use Rattle.treasury_core.proofs.choice.are_long.Given as goal

-- the bytes so far and those of the rest are those of all, and there are not too many so far
abbrev pub invariant-names : goal.invariant-names
invariant-names l = record {
  sums : l.size + sizes (drop l.name-index l.names) ≡ sizes l.names;
  few : l.size ≤ 881;
}
