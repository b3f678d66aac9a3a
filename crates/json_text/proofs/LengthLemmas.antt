-- How long what is written is at most.
use Rattle.std.proofs.Common.{◌≤◌, ◌+◌, ◌*◌, ◌/◌, ◌%◌, ◌++◌, ◌∷◌, ◌==◌, ℕ, List, [], Bool, true, false}
use Rattle.std.proofs.Common.{length, arith, length-append}
use Rattle.std.specs.Prelude.{if◌then◌else◌, codes, nat_lt, ◌||◌}
use Rattle.std.specs.List.{flat_map}
use Rattle.json_text.specs.JsonText.{hex_digit, escaped, quoted}

-- what stands for a byte has at most six
by_tests : (b : ℕ) (marked small : Bool)
    → length (if marked then 92 ∷ (b ∷ [])
    else if small then codes "\\u00" ++ hex_digit (b / 16) ∷ (hex_digit (b % 16) ∷ []) else b ∷ []) ≤ 6
by_tests b true small = omega arith
by_tests b false true = omega arith
by_tests b false false = omega arith

length-escaped : (b : ℕ) → length (escaped b) ≤ 6
unfolding escaped
length-escaped b = by_tests b ((b == 34) || (b == 92)) (nat_lt b 32)

length-all_escaped : (text : List ℕ) → length (flat_map escaped text) ≤ 6 * length text
length-all_escaped [] = omega arith
length-all_escaped (b ∷ bs) =
    omega (arith, length-append (escaped b) (flat_map escaped bs), length-escaped b, length-all_escaped bs)

-- and two quotes
pub length-quoted : (text : List ℕ) → length (quoted text) ≤ 6 * length text + 2
length-quoted text = omega (arith, length-append (flat_map escaped text) (codes "\""), length-all_escaped text)
