use Rattle.std.proofs.Common.{List, ℕ, ap, arith, length}
use Rattle.book_core.specs.declared.account.Reach.TheVariants.{Own, Inside}
use Rattle.book_core.proofs.DayLemmas.{sums_none, moved_none}
use Rattle.book_core.proofs.sums.Sums.empty.Goals as goal

pub returns : goal.returns
returns c = record {
  own = sums_none Own c.empty.result c.empty.ensures;
  inside = sums_none Inside c.empty-2.result c.empty-2.ensures;
  moved = moved_none c.new.result.items c.new.ensures.items;
  few_units = omega (arith, ap (λ (t : List ℕ). length t) c.new.ensures.items);
  few = omega arith;
}
