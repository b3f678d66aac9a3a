-- What a number is printed as.
use Rattle.std.specs.Prelude.{ℕ, zero, suc, ◌+◌, ◌/◌, ◌%◌, ◌^◌, ◌==◌, nat_lt, List, [], ◌∷◌, ◌++◌, Bool, ◌&&◌, not}
use Rattle.std.specs.Prelude.{if◌then◌else◌, decimal}
use Rattle.money_core.specs.declared.mark.Mark.{Mark}
use Rattle.money_core.specs.Mark.{decimal_byte, group_byte}

-- the last digits of a number, so many
unfoldable pub places : ℕ → ℕ → List ℕ
places zero n = []
places (suc k) n = places k (n / 10) ++ (48 + n % 10) ∷ []

-- A number of over three digits is what stands before its last three, the group mark, and these. The first
-- number counts down, and is over the second.
abbrev pub grouped_within : ℕ → ℕ → ℕ → List ℕ
grouped_within group zero n = []
grouped_within group (suc turns) n =
    if nat_lt n 1000 then decimal n else grouped_within group turns (n / 1000) ++ group ∷ places 3 (n % 1000)

-- the digits of a number in groups of three
unfoldable pub grouped : ℕ → ℕ → List ℕ
grouped group n = grouped_within group (n + 1) n

-- the whole part of a printed number
abbrev pub printed_whole : Mark → Bool → ℕ → List ℕ
printed_whole mark groups n = if groups then grouped (group_byte mark) n else decimal n

-- what follows the whole part: the decimal mark and the decimals; where there are none, the decimal mark alone if a
-- group mark was printed
abbrev pub printed_fraction : Mark → Bool → ℕ → ℕ → List ℕ
printed_fraction mark groups decimals q =
    if decimals == 0 then (if groups && not (nat_lt q 1000) then decimal_byte mark ∷ [] else [])
    else decimal_byte mark ∷ places decimals (q % 10 ^ decimals)

-- a quantity of smallest units as a number
abbrev pub printed_number : Mark → Bool → ℕ → ℕ → List ℕ
printed_number mark groups decimals q =
    printed_whole mark groups (q / 10 ^ decimals) ++ printed_fraction mark groups decimals q
