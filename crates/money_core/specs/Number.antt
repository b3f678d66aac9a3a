-- What a number is as a text, and which quantity it writes.
use Rattle.std.specs.Prelude.{ℕ, ◌+◌, ◌==◌, List, ◌++◌, length, take, drop, filter, replicate, Bool, true, false, ◌&&◌}
use Rattle.std.specs.Prelude.{if◌then◌else◌}
use Rattle.std.specs.List.{slice_split, before_first, after_first, list_all}
use Rattle.std.specs.Char.{is_ascii_digit}
use Rattle.std.specs.Str.Parse.{digits_value}
use Rattle.money_core.specs.declared.mark.Mark.{Mark}
use Rattle.money_core.specs.Mark.{decimal_byte, group_byte}

-- A group is one or more digits.
abbrev pub is_group : List ℕ → Bool
is_group bytes = if length bytes == 0 then false else list_all is_ascii_digit bytes

-- A whole part is empty, or groups with the group mark between them.
abbrev pub is_whole : ℕ → List ℕ → Bool
is_whole group bytes = if length bytes == 0 then true else list_all is_group (slice_split (λ b. b == group) bytes)

-- what stands before the first decimal mark, or all of it
abbrev pub whole_part : Mark → List ℕ → List ℕ
whole_part mark bytes = before_first (λ b. b == decimal_byte mark) bytes

-- what stands after the first decimal mark
abbrev pub fraction_part : Mark → List ℕ → List ℕ
fraction_part mark bytes = after_first (λ b. b == decimal_byte mark) bytes

-- A number is a whole part, or a whole part, the decimal mark and a fraction. Either may be empty, and not both.
abbrev pub is_number : Mark → List ℕ → Bool
is_number mark bytes =
    if length (whole_part mark bytes) + length (fraction_part mark bytes) == 0 then false
    else is_whole (group_byte mark) (whole_part mark bytes) && list_all is_ascii_digit (fraction_part mark bytes)

-- the digits of a number in smallest units, so many decimals after the mark: those that are not written are zeros
abbrev pub unit_digits : ℕ → List ℕ → List ℕ → List ℕ
unit_digits decimals whole fraction = filter is_ascii_digit whole ++ take decimals (fraction ++ replicate decimals 48)

-- The decimals past the declared ones are zeros.
abbrev pub fits_decimals : ℕ → List ℕ → Bool
fits_decimals decimals fraction = list_all (λ b. b == 48) (drop decimals fraction)

-- the quantity that a number writes, in smallest units
abbrev pub quantity : Mark → ℕ → List ℕ → ℕ
quantity mark decimals bytes = digits_value 10 (unit_digits decimals (whole_part mark bytes) (fraction_part mark bytes))
