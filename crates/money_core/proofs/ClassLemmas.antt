-- Laws of the classes of bytes, and of the longest front of a class.
use Rattle.std.proofs.Common.{◌≡◌, ◌<◌, ◌++◌, ◌==◌, ℕ, List, [], ◌∷◌, Bool, true, false, not, length, slice_index}
use Rattle.std.proofs.Common.{arith, refl, ap, ◌∙◌, append-nil}
use Rattle.std.proofs.lemmas.Grind.{common_steps}
use Rattle.std.proofs.lemmas.Bool.{and_parts, and_from, not_from_false}
use Rattle.std.proofs.lemmas.List.Folds.{list_all-append}
use Rattle.std.specs.List.{list_all}
use Rattle.std.specs.Char.{is_ascii_digit}
use Rattle.money_core.specs.declared.class.Class.{Class}
use Rattle.money_core.specs.declared.class.Class.TheVariants.{Blank, Symbol, Number}
use Rattle.money_core.specs.Class.{is_of_class}
use Rattle.money_core.specs.Cutting.{end_of, skip_blanks}
use Rattle.money_core.proofs.RoundTrip.{before_mark, no_mark}

-- what passes a test passes a weaker one
pub all_weaker : (p q : ℕ → Bool) (xs : List ℕ) → ((b : ℕ) → p b ≡ true → q b ≡ true) → list_all p xs ≡ true
    → list_all q xs ≡ true
all_weaker p q [] f h = refl
all_weaker p q (x ∷ xs) f h =
    let parts = and_parts (p x) _ h in and_from (q x) _ (f x parts.0) (all_weaker p q xs f parts.1)

-- two lists of bytes that pass
pub all_joined : (p : ℕ → Bool) (xs ys : List ℕ) → list_all p xs ≡ true → list_all p ys ≡ true
    → list_all p (xs ++ ys) ≡ true
all_joined p xs ys h k = list_all-append p xs ys ∙ and_from _ _ h k

-- the first byte of a list that passes and is not empty
pub first_passes : (p : ℕ → Bool) (xs rest : List ℕ) → list_all p xs ≡ true → 0 < length xs
    → p (slice_index (xs ++ rest) 0) ≡ true
first_passes p [] rest h l = absurd (omega arith)
first_passes p (x ∷ xs) rest h l = (and_parts (p x) _ h).0

-- what follows does not begin with that class
abbrev pub EndsClass : Class → List ℕ → Type 0
EndsClass class [] = Unit {0}
EndsClass class (b ∷ bs) = is_of_class class b ≡ false

double_not : (class : Class) (xs : List ℕ) → list_all (is_of_class class) xs ≡ true
    → list_all (λ b. not (not (is_of_class class b))) xs ≡ true
double_not class xs h =
    all_weaker (is_of_class class) (λ b. not (not (is_of_class class b))) xs (λ b k. ap (λ (t : Bool). not (not t)) k) h

-- where the front of a class ends
pub class_end : (class : Class) (xs rest : List ℕ) → list_all (is_of_class class) xs ≡ true → EndsClass class rest
    → end_of class (xs ++ rest) ≡ length xs
class_end class xs [] h e = rw append-nil (no_mark (λ b. not (is_of_class class b)) xs (double_not class xs h))
class_end class xs (b ∷ rest) h e =
    before_mark (λ b. not (is_of_class class b)) xs rest b (double_not class xs h) (not_from_false _ e)

-- a text that begins with no blank
pub skip_none : (xs : List ℕ) → is_of_class Blank (slice_index xs 0) ≡ false → skip_blanks xs ≡ xs
skip_none [] h = refl
skip_none (x ∷ xs) h = rw h refl

-- a digit is a byte of a number
pub digit_number : (b : ℕ) → is_ascii_digit b ≡ true → is_of_class Number b ≡ true
digit_number b h = grind (arith, common_steps)

-- a byte of a symbol is of no other class, no quote and no sign
pub symbol_no_quote : (b : ℕ) → is_of_class Symbol b ≡ true → (b == 34) ≡ false
symbol_no_quote b h = grind (arith, common_steps)

pub symbol_no_minus : (b : ℕ) → is_of_class Symbol b ≡ true → (b == 45) ≡ false
symbol_no_minus b h = grind (arith, common_steps)

pub symbol_no_plus : (b : ℕ) → is_of_class Symbol b ≡ true → (b == 43) ≡ false
symbol_no_plus b h = grind (arith, common_steps)

pub symbol_no_space : (b : ℕ) → is_of_class Symbol b ≡ true → (b == 32) ≡ false
symbol_no_space b h = grind (arith, common_steps)

pub symbol_no_number : (b : ℕ) → is_of_class Symbol b ≡ true → is_of_class Number b ≡ false
symbol_no_number b h = grind (arith, common_steps)

pub symbol_no_blank : (b : ℕ) → is_of_class Symbol b ≡ true → is_of_class Blank b ≡ false
symbol_no_blank b h = grind (arith, common_steps)

-- a byte of a number is of no other class, no quote and no sign
pub number_no_symbol : (b : ℕ) → is_of_class Number b ≡ true → is_of_class Symbol b ≡ false
number_no_symbol b h = grind (arith, common_steps)

pub number_no_quote : (b : ℕ) → is_of_class Number b ≡ true → (b == 34) ≡ false
number_no_quote b h = grind (arith, common_steps)

pub number_no_minus : (b : ℕ) → is_of_class Number b ≡ true → (b == 45) ≡ false
number_no_minus b h = grind (arith, common_steps)

pub number_no_plus : (b : ℕ) → is_of_class Number b ≡ true → (b == 43) ≡ false
number_no_plus b h = grind (arith, common_steps)

pub number_no_blank : (b : ℕ) → is_of_class Number b ≡ true → is_of_class Blank b ≡ false
number_no_blank b h = grind (arith, common_steps)

-- a blank is of no other class
pub blank_no_symbol : (b : ℕ) → is_of_class Blank b ≡ true → is_of_class Symbol b ≡ false
blank_no_symbol b h = grind (arith, common_steps)

pub blank_no_number : (b : ℕ) → is_of_class Blank b ≡ true → is_of_class Number b ≡ false
blank_no_number b h = grind (arith, common_steps)
