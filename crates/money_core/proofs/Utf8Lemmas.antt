-- Printed symbols and numbers are UTF-8. Proofs of crates above may cite `utf8_joined` and `utf8_low`.
use Rattle.std.proofs.Common.{◌≡◌, ◌++◌, ℕ, ℤ, pos, negsuc, zero, suc, List, [], ◌∷◌, Bool, true, false, arith, refl}
use Rattle.std.proofs.Common.{inl, inr, nat_lt}
use Rattle.std.proofs.lemmas.Grind.{common_steps}
use Rattle.std.proofs.lemmas.Bool.{cases_Bool, and_parts, ltb-true}
use Rattle.std.specs.List.{list_all}
use Rattle.std.specs.Str.{is_utf8, IsAscii}
use Rattle.std.proofs.lemmas.Str.{IsUtf8-append, IsUtf8-from_ascii, IsUtf8-from_is_utf8, is_utf8-from_IsUtf8}
use Rattle.money_core.specs.declared.class.Class.TheVariants.{Number}
use Rattle.money_core.specs.Class.{is_of_class}
use Rattle.money_core.specs.Symbol.{is_bare, is_symbol}
use Rattle.money_core.specs.AmountText.{printed_symbol, minus, gap}
use Rattle.money_core.proofs.ClassLemmas.{all_weaker}
use Rattle.money_core.proofs.SymbolText.{symbol_facts}

-- two texts after one another
pub utf8_joined : (xs ys : List ℕ) → is_utf8 xs ≡ true → is_utf8 ys ≡ true → is_utf8 (xs ++ ys) ≡ true
utf8_joined xs ys h k =
    is_utf8-from_IsUtf8 (xs ++ ys) (IsUtf8-append xs ys (IsUtf8-from_is_utf8 xs h) (IsUtf8-from_is_utf8 ys k))

-- an ASCII byte
abbrev pub is_low : ℕ → Bool
is_low b = nat_lt b 128

low_ascii : (xs : List ℕ) → list_all is_low xs ≡ true → IsAscii xs
low_ascii [] h i = omega arith
low_ascii (x ∷ xs) h zero = ltb-true x 128 (and_parts (is_low x) _ h).0
low_ascii (x ∷ xs) h (suc i) = low_ascii xs (and_parts (is_low x) _ h).1 i

-- a text of ASCII
pub utf8_low : (xs : List ℕ) → list_all is_low xs ≡ true → is_utf8 xs ≡ true
utf8_low xs h = is_utf8-from_IsUtf8 xs (IsUtf8-from_ascii xs (low_ascii xs h))

pub number_low : (b : ℕ) → is_of_class Number b ≡ true → is_low b ≡ true
number_low b h = grind (arith, common_steps)

-- the bytes of a number
pub number_utf8 : (xs : List ℕ) → list_all (is_of_class Number) xs ≡ true → is_utf8 xs ≡ true
number_utf8 xs h = utf8_low xs (all_weaker (is_of_class Number) is_low xs number_low h)

pub minus_utf8 : (q : ℤ) → is_utf8 (minus q) ≡ true
minus_utf8 (pos n) = utf8_low [] refl
minus_utf8 (negsuc n) = utf8_low (45 ∷ []) refl

pub gap_utf8 : (spaced : Bool) → is_utf8 (gap spaced) ≡ true
gap_utf8 true = utf8_low (32 ∷ []) refl
gap_utf8 false = utf8_low [] refl

pub printed_symbol_utf8 : (symbol : List ℕ) → is_symbol symbol ≡ true → is_utf8 (printed_symbol symbol) ≡ true
unfolding printed_symbol
printed_symbol_utf8 symbol h =
    let good = (symbol_facts symbol h).utf8 in
    let quote = utf8_low (34 ∷ []) refl in
    elim (cases_Bool (is_bare symbol)) [
      | inl bare ↦ rw bare good
      | inr quoted ↦ rw quoted (utf8_joined (34 ∷ []) (symbol ++ 34 ∷ []) quote
          (utf8_joined symbol (34 ∷ []) good quote))
    ]
