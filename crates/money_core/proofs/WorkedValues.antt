-- Values of amounts and samples that were worked out by hand, in the words of the grammar.
use Rattle.std.proofs.Common.{pos, negsuc, List, [], ◌∷◌, true, false, refl, lit<}
use Rattle.std.specs.Prelude.{codes}
use Rattle.std.specs.Str.{is_utf8, chars}
use lib.Utf8.{encode}
use Rattle.money_core.specs.declared.mark.Mark.TheVariants.{Point, Comma}
use Rattle.money_core.specs.declared.amount.Sign.TheVariants.{Absent}
use Rattle.money_core.specs.declared.style.Style.{Style}
use Rattle.money_core.specs.Amount.{Parts, WritesAmount, NamesUndeclared, HasFurtherDecimals, IsOverLimit}
use Rattle.money_core.specs.Cutting.{cut_symbol, left_parts, right_symbol, amount_parts}
use Rattle.money_core.specs.Reading.{quantity_in, amount_of_parts}
use Rattle.money_core.specs.Style.{IsSample}
use Rattle.money_core.specs.Sampling.{shown_mark, style_of_parts}
use Rattle.money_core.proofs.ReadingLemmas.{writes_if, unknown_if, further_if}
use Rattle.money_core.proofs.GrammarLemmas.{cut_amount}
use Rattle.money_core.proofs.SampleLemmas.{style_spelled, lacks_all}

-- `1,000.00 EUR`
abbrev pub euro : Style
euro = record { symbol = codes "EUR"; left = false; spaced = true; mark = Point; decimals = 2; grouped = true }

-- `$1,000.00`
abbrev pub dollar : Style
dollar = record { symbol = codes "$"; left = true; spaced = false; mark = Point; decimals = 2; grouped = true }

abbrev pub styles : List Style
styles = euro ∷ dollar ∷ []

-- a sample shows its decimal mark
pub euro_sample : IsSample (codes "1,000.00 EUR") euro
unfolding cut_symbol left_parts right_symbol amount_parts shown_mark style_of_parts is_utf8 chars encode
euro_sample = style_spelled (codes "1,000.00 EUR") euro refl

pub dollar_sample : IsSample (codes "$1,000.00") dollar
unfolding cut_symbol left_parts right_symbol amount_parts shown_mark style_of_parts is_utf8 chars encode
dollar_sample = style_spelled (codes "$1,000.00") dollar refl

-- the last mark that stands there once is the decimal mark
pub comma_sample : IsSample (codes "1,000 EUR")
    (record { symbol = codes "EUR"; left = false; spaced = true; mark = Comma; decimals = 3; grouped = false })
unfolding cut_symbol left_parts right_symbol amount_parts shown_mark style_of_parts is_utf8 chars encode
comma_sample = style_spelled (codes "1,000 EUR")
    (record { symbol = codes "EUR"; left = false; spaced = true; mark = Comma; decimals = 3; grouped = false }) refl

-- a number without a decimal mark is no sample's
pub plain_is_no_sample : (style : Style) → ¬ IsSample (codes "1000 EUR") style
unfolding cut_symbol left_parts right_symbol amount_parts shown_mark style_of_parts is_utf8 chars encode
plain_is_no_sample = lacks_all (codes "1000 EUR") refl

-- nor is one whose mark stands there twice
pub groups_are_no_sample : (style : Style) → ¬ IsSample (codes "1.000.000 EUR") style
unfolding cut_symbol left_parts right_symbol amount_parts shown_mark style_of_parts is_utf8 chars encode
groups_are_no_sample = lacks_all (codes "1.000.000 EUR") refl

-- further zeros are no further decimals
pub zero_decimal : WritesAmount styles (codes "1.500 EUR") 0 (pos 150)
unfolding cut_symbol left_parts right_symbol amount_parts quantity_in amount_of_parts is_utf8 chars encode
zero_decimal = writes_if styles (codes "1.500 EUR") 0 (pos 150) refl

-- group marks may stand between any two digits
pub group_of_one : WritesAmount styles (codes "1,5 EUR") 0 (pos 1500)
unfolding cut_symbol left_parts right_symbol amount_parts quantity_in amount_of_parts is_utf8 chars encode
group_of_one = writes_if styles (codes "1,5 EUR") 0 (pos 1500) refl

-- the whole part may be empty, and missing decimals are zeros
pub no_whole_part : WritesAmount styles (codes "$.5") 1 (pos 50)
unfolding cut_symbol left_parts right_symbol amount_parts quantity_in amount_of_parts is_utf8 chars encode
no_whole_part = writes_if styles (codes "$.5") 1 (pos 50) refl

-- a sign stands before a left symbol or before the number
pub outer_sign : WritesAmount styles (codes "-$1") 1 (negsuc 99)
unfolding cut_symbol left_parts right_symbol amount_parts quantity_in amount_of_parts is_utf8 chars encode
outer_sign = writes_if styles (codes "-$1") 1 (negsuc 99) refl

pub inner_sign : WritesAmount styles (codes "$-1") 1 (negsuc 99)
unfolding cut_symbol left_parts right_symbol amount_parts quantity_in amount_of_parts is_utf8 chars encode
inner_sign = writes_if styles (codes "$-1") 1 (negsuc 99) refl

-- a symbol may stand on the other side, and in quotes
pub other_side : WritesAmount styles (codes "EUR 1") 0 (pos 100)
unfolding cut_symbol left_parts right_symbol amount_parts quantity_in amount_of_parts is_utf8 chars encode
other_side = writes_if styles (codes "EUR 1") 0 (pos 100) refl

-- the greatest quantity
pub greatest : WritesAmount styles (codes "100000000000000.00 EUR") 0 (pos 10_000_000_000_000_000)
unfolding cut_symbol left_parts right_symbol amount_parts quantity_in amount_of_parts is_utf8 chars encode
greatest = writes_if styles (codes "100000000000000.00 EUR") 0 (pos 10_000_000_000_000_000) refl

-- one more is too great
pub too_great : IsOverLimit styles (codes "100000000000000.01 EUR")
unfolding cut_symbol left_parts right_symbol amount_parts is_utf8 chars encode
too_great =
    let cut : Parts = record {
      sign = Absent;
      left = false;
      spaced = true;
      symbol = codes "EUR";
      number = codes "100000000000000.01";
    } in
    record {
      parts = cut;
      place = 0;
      style = euro;
      declared = refl;
      its_style = refl;
      amount = cut_amount Point (codes "100000000000000.01 EUR") cut refl refl;
      exact = refl;
      great = lit< tt;
    }

-- a third decimal that is not zero
pub further_decimal : HasFurtherDecimals styles (codes "1.505 EUR")
unfolding cut_symbol left_parts right_symbol amount_parts quantity_in amount_of_parts is_utf8 chars encode
further_decimal = further_if styles (codes "1.505 EUR") refl

-- a symbol that is not declared, with either decimal mark
pub undeclared_point : NamesUndeclared styles (codes "5.1 GBP")
unfolding cut_symbol left_parts right_symbol amount_parts quantity_in amount_of_parts is_utf8 chars encode
undeclared_point = unknown_if styles (codes "5.1 GBP") refl

pub undeclared_comma : NamesUndeclared styles (codes "1.000,5 GBP")
unfolding cut_symbol left_parts right_symbol amount_parts quantity_in amount_of_parts is_utf8 chars encode
undeclared_comma = unknown_if styles (codes "1.000,5 GBP") refl
