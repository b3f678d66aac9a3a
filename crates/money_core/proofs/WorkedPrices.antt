-- Prices and costs worked out by hand.
use Rattle.std.proofs.Common.{◌≡◌, pos, neg_ℤ, Ok, Err, refl, codes, ◌*◌, ◌^◌, ◌+◌}
use Rattle.money_core.specs.declared.cause.Cause.TheVariants.{Cost, CostNotExact}
use Rattle.money_core.specs.PriceReading.{significant}
use Rattle.money_core.specs.Cost.{exact}

-- of `3500` the two zeros at the end are dropped, of `0000` all
significant_of_zeros : significant (codes "3500") ≡ 2
significant_of_zeros = refl

significant_of_nothing : significant (codes "0000") ≡ 0
significant_of_nothing = refl

significant_inside : significant (codes "0405") ≡ 4
significant_inside = refl

-- 100.00 EUR at $1.35, 2 decimals each: 10,000 * 135 * 10^2 / 10^(2 + 2) cents
hundred_at_one_thirty_five : exact (pos 10_000) (10_000 * 135 * 10 ^ 2) (10 ^ (2 + 2)) ≡ Ok (pos 13_500)
unfolding exact
hundred_at_one_thirty_five = refl

-- 1.00 EUR at $1.3456 is 134.56 cents
one_is_not_exact : exact (pos 100) (100 * 13_456 * 10 ^ 2) (10 ^ (2 + 4)) ≡ Err CostNotExact
unfolding exact
one_is_not_exact = refl

-- -100.00 EUR at it is -13,456 cents
minus_hundred_is_exact : exact (neg_ℤ (pos 10_000)) (10_000 * 13_456 * 10 ^ 2) (10 ^ (2 + 4)) ≡ Ok (neg_ℤ (pos 13_456))
unfolding exact
minus_hundred_is_exact = refl

-- 6,666,666,666,666,667 at 1.5, no decimals, is half a unit over 10^16
half_over_the_limit : exact (pos 6_666_666_666_666_667) (6_666_666_666_666_667 * 15 * 10 ^ 0) (10 ^ (0 + 1)) ≡ Err Cost
unfolding exact
half_over_the_limit = refl
