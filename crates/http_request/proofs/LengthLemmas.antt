-- How long a body is.
use Rattle.std.proofs.Common.{◌≡◌, ◌≤◌, ◌<◌, ◌&&◌, ℕ, List, Bool, true, false, Some, if◌then◌else◌, length}
use Rattle.std.proofs.Common.{get_or, zero, suc, ◌∷◌, [], arith, refl, subst}
use Rattle.std.specs.Prelude.{None, codes, nat_le}
use Rattle.std.specs.List.{list_all}
use Rattle.std.specs.Char.{is_ascii_digit}
use Rattle.std.specs.Str.Parse.{digits_value}
use Rattle.std.proofs.lemmas.Bool.{and_parts, leb-true}
use Rattle.http_request.specs.Fields.{values_of}
use Rattle.http_request.specs.Length.{is_decimal, length_in, plain_length, body_length}

pub digit_at : (xs : List ℕ) (i : ℕ) → i < length xs → list_all is_ascii_digit xs ≡ true
    → is_ascii_digit (get_or xs i 0) ≡ true
digit_at [] i l all = absurd (omega arith)
digit_at (x ∷ xs) zero l all = (and_parts _ _ all).0
digit_at (x ∷ xs) (suc i) l all = digit_at xs i (omega arith) (and_parts _ _ all).1

-- a length is within its limit
some_bound : (b : Bool) (value n : ℕ) → (b ≡ true → value ≤ 8_388_608) → (if b then Some value else None) ≡ Some n
    → n ≤ 8_388_608
some_bound true value n within e = (let same : value ≡ n = cc in subst (λ (m : ℕ). m ≤ 8_388_608) same (within refl))
some_bound false value n within e = absurd cc

in_bound : (lengths : List (List ℕ)) (n : ℕ) → length_in lengths ≡ Some n → n ≤ 8_388_608
in_bound [] n e = absurd cc
in_bound (digits ∷ []) n e =
    some_bound (is_decimal digits && nat_le (digits_value 10 digits) 8_388_608) (digits_value 10 digits) n
    (λ t. leb-true _ _ (and_parts (is_decimal digits) _ t).1) e
in_bound (digits ∷ other ∷ more) n e = absurd cc

plain_bound : (encodings lengths : List (List ℕ)) (n : ℕ) → plain_length encodings lengths ≡ Some n → n ≤ 8_388_608
plain_bound [] lengths n e = in_bound lengths n e
plain_bound (encoding ∷ more) lengths n e = absurd cc

pub body_bound : (fields : List (List ℕ × List ℕ)) (n : ℕ) → body_length fields ≡ Some n → n ≤ 8_388_608
body_bound fields n e =
    plain_bound (values_of (codes "transfer-encoding") fields) (values_of (codes "content-length") fields) n e
