-- The bytes of an amount (hledger manual, "Amounts" and "Commodity").
use Rattle.std.specs.Prelude.{ℕ, ◌==◌, nat_le, Bool, ◌||◌}
use Rattle.std.specs.Char.{is_ascii_digit, is_ascii_alphabetic}
use Rattle.money_core.specs.declared.class.Class.{Class}
use Rattle.money_core.specs.declared.class.Class.TheVariants.{Blank, Symbol, Number}
use Rattle.money_core.specs.Blank.{is_blank}

-- whether a byte is of a class: a symbol without quotes has letters, `$` and what is not ASCII; a number has digits and
-- marks
abbrev pub is_of_class : Class → ℕ → Bool
is_of_class Blank b = is_blank b
is_of_class Symbol b = is_ascii_alphabetic b || (b == 36) || nat_le 128 b
is_of_class Number b = is_ascii_digit b || (b == 46) || (b == 44)
