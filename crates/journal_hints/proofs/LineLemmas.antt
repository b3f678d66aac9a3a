-- a line by its number
use Rattle.std.proofs.Common.{◌≡◌, ◌<◌, ◌+◌, ℕ, zero, suc, Bool, true, false, List, [], ◌∷◌, refl, ap, ◌∙◌, sym}
use Rattle.std.proofs.Common.{arith}
use Rattle.std.proofs.Common.{Option, Some, None}
use Rattle.std.specs.Prelude.{nat_eq, slice_get, if◌then◌else◌}
use Rattle.std.specs.List.{enumerate_from}
use Rattle.std.proofs.lemmas.Bool.Decides.{nat_tests}
use Rattle.journal_hints.specs.Numbered.{item_of_number}

-- the first one with a number
abbrev pub with_number : {X : Type 0} → ℕ → List (ℕ × X) → Option X
with_number n [] = None
with_number n (p ∷ ps) = if nat_eq p.0 n then Some p.1 else with_number n ps

behind_all : {X : Type 0} (n k : ℕ) (xs : List X) → n < k → with_number n (enumerate_from k xs) ≡ None
behind_all n k [] h = refl
behind_all n k (x ∷ xs) h =
    let off : nat_eq k n ≡ false = grind (arith, nat_tests) in
    ap (λ (t : Bool). if t then Some x else with_number n (enumerate_from (k + 1) xs)) off
    ∙ behind_all n (k + 1) xs (omega (arith, h))

within_all : {X : Type 0} (n k j : ℕ) (xs : List X) → n ≡ k + j → with_number n (enumerate_from k xs) ≡ slice_get xs j
within_all n k j [] e = refl
within_all n k zero (x ∷ xs) e =
    let on : nat_eq k n ≡ true = grind (arith, nat_tests) in
    ap (λ (t : Bool). if t then Some x else with_number n (enumerate_from (k + 1) xs)) on
within_all n k (suc j) (x ∷ xs) e =
    let off : nat_eq k n ≡ false = grind (arith, nat_tests) in
    ap (λ (t : Bool). if t then Some x else with_number n (enumerate_from (k + 1) xs)) off
    ∙ within_all n (k + 1) j xs (omega (arith, e))

pub from_one : {X : Type 0} (n : ℕ) (xs : List X) → with_number n (enumerate_from 1 xs) ≡ item_of_number xs n
from_one zero xs = behind_all 0 1 xs (omega arith)
from_one (suc n) xs = within_all (suc n) 1 n xs (omega arith)

-- ---- one line more
pub line_next : {X : Type 0} (n : ℕ) (p : ℕ × X) (xs ys : List (ℕ × X)) (all : Option X) → xs ≡ p ∷ ys
    → ¬ (p.0 ≡ n) → with_number n xs ≡ all → with_number n ys ≡ all
line_next n p xs ys all split off before =
    let test : nat_eq p.0 n ≡ false = grind (arith, nat_tests, off) in
    sym (ap (λ (t : Bool). if t then Some p.1 else with_number n ys) test) ∙ sym (ap (with_number n) split) ∙ before

pub line_here : {X : Type 0} (n : ℕ) (p : ℕ × X) (xs ys : List (ℕ × X)) (all : Option X) → xs ≡ p ∷ ys
    → p.0 ≡ n → with_number n xs ≡ all → Some p.1 ≡ all
line_here n p xs ys all split on before =
    let test : nat_eq p.0 n ≡ true = grind (arith, nat_tests, on) in
    sym (ap (λ (t : Bool). if t then Some p.1 else with_number n ys) test) ∙ sym (ap (with_number n) split) ∙ before

pub line_end : {X : Type 0} (n : ℕ) (xs : List (ℕ × X)) (all : Option X) → xs ≡ [] → with_number n xs ≡ all
    → None ≡ all
line_end n xs all none before = sym (ap (with_number n) none) ∙ before
