-- Equal bytes, and tests of them, for each crate above.
use Rattle.std.proofs.Common.{◌≡◌, ℕ, Bool, true, false, List, refl, ◌∙◌, sym}
use Rattle.std.specs.Str.{bytes_eq}
use Rattle.std.proofs.lemmas.Slice.Eq.{bytes_eq-Decides}

pub bytes_eq-refl : (xs : List ℕ) → bytes_eq xs xs ≡ true
bytes_eq-refl xs = (bytes_eq-Decides xs xs).1 refl

pub same_bytes : (xs ys : List ℕ) → bytes_eq xs ys ≡ true → xs ≡ ys
same_bytes xs ys h = (bytes_eq-Decides xs ys).0 h

pub other_bytes : (xs ys : List ℕ) → bytes_eq xs ys ≡ false → bytes_eq ys xs ≡ false
other_bytes xs ys h = by_test (bytes_eq ys xs) refl
  where
    by_test : (t : Bool) → bytes_eq ys xs ≡ t → t ≡ false
    by_test true e = let k : bytes_eq xs ys ≡ true = (bytes_eq-Decides xs ys).1 (sym (same_bytes ys xs e)) in absurd cc
    by_test false e = refl

-- bytes that are another's are none of a third's
pub third_bytes : (xs ys zs : List ℕ) → bytes_eq xs ys ≡ false → bytes_eq xs zs ≡ true → bytes_eq ys zs ≡ false
third_bytes xs ys zs h k = by_test (bytes_eq ys zs) refl
  where
    by_test : (t : Bool) → bytes_eq ys zs ≡ t → t ≡ false
    by_test true e =
        let same : bytes_eq xs ys ≡ true =
        (bytes_eq-Decides xs ys).1 (same_bytes xs zs k ∙ sym (same_bytes ys zs e)) in absurd cc
    by_test false e = refl
