-- Values worked out by hand: which amounts are odd where the decimal mark is the point, and where it is the comma.
use Rattle.std.proofs.Common.{◌≡◌, true, false, refl}
use Rattle.std.specs.Prelude.{codes}
use Rattle.journal_hints.specs.OddAmount.{is_odd_amount, is_odd_from}

-- the group mark stands before two digits, before four, and before three
pub two_digits : is_odd_amount 44 (codes "12,50 EUR") ≡ true
unfolding is_odd_from
two_digits = refl

pub four_digits : is_odd_amount 44 (codes "1,2345 EUR") ≡ true
unfolding is_odd_from
four_digits = refl

pub three_digits : is_odd_amount 44 (codes "1,234,567.8 EUR") ≡ false
unfolding is_odd_from
three_digits = refl

pub three_behind_comma : is_odd_amount 46 (codes "1.234,5 EUR") ≡ false
unfolding is_odd_from
three_behind_comma = refl

-- only zeros stand before it
pub behind_nought : is_odd_amount 44 (codes "EUR -0,500") ≡ true
unfolding is_odd_from
behind_nought = refl

pub behind_ten : is_odd_amount 44 (codes "EUR 10,500") ≡ false
unfolding is_odd_from
behind_ten = refl

-- a mark in a quoted symbol is none of the number
pub in_quotes : is_odd_amount 44 (codes "5 \"A,1\"") ≡ false
unfolding is_odd_from
in_quotes = refl
