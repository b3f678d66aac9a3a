-- Values worked out by hand: exact products, and digits without the zeros at their end.
use Rattle.std.proofs.Common.{◌≡◌, ◌*◌, ◌+◌, [], refl}
use Rattle.std.specs.Prelude.{codes}
use Rattle.std.specs.Fmt.{digits}
use Rattle.money_core.specs.declared.mark.Mark.TheVariants.{Point, Comma}
use Rattle.money_core.specs.Printed.{places}
use Rattle.journal_hints.specs.ExactProduct.{without_zeros, exact_number}

-- of `3500` the two zeros at the end are left out, of `0405` none, of `0000` all
pub zeros_at_the_end : without_zeros (codes "3500") ≡ codes "35"
zeros_at_the_end = refl

pub zeros_inside : without_zeros (codes "0405") ≡ codes "0405"
zeros_inside = refl

pub zeros_alone : without_zeros (codes "0000") ≡ []
zeros_alone = refl

-- 3.00 EUR at $0.3333: 300 times 3,333, with 2 + 4 decimals
pub three_at_a_third : exact_number Point (2 + 4) (300 * 3_333) ≡ codes "0.9999"
unfolding places digits
three_at_a_third = refl

-- 7.00 at 0.123456789012: 700 times 123,456,789,012, with 2 + 12 decimals
pub seven_at_twelve_decimals : exact_number Point (2 + 12) (700 * 123_456_789_012) ≡ codes "0.864197523084"
unfolding places digits
seven_at_twelve_decimals = refl

-- 1,000.5 at 20.05 is 20,060.025, with the comma for its decimal mark
pub thousand_with_comma : exact_number Comma (1 + 2) (10_005 * 2_005) ≡ codes "20060,025"
unfolding places digits
thousand_with_comma = refl
