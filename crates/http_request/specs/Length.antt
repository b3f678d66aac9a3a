-- How long the body of a request is (RFC 9110, section 8.6; limit: own rule).
use Rattle.std.specs.Prelude.{ℕ, Bool, ◌&&◌, List, [], ◌∷◌, length, Option, Some, None, codes, if◌then◌else◌}
use Rattle.std.specs.Prelude.{nat_le, nat_lt}
use Rattle.std.specs.Char.{is_ascii_digit}
use Rattle.std.specs.List.{list_all}
use Rattle.std.specs.Str.Parse.{digits_value}
use Rattle.http_request.specs.Fields.{values_of}

-- decimal digits, one or more
abbrev pub is_decimal : List ℕ → Bool
is_decimal digits = nat_lt 0 (length digits) && list_all is_ascii_digit digits

-- the length that the values of `Content-Length` say: there is one, of digits, and it is at most 8 MiB
abbrev pub length_in : List (List ℕ) → Option ℕ
length_in [] = None
length_in (digits ∷ []) =
    if is_decimal digits && nat_le (digits_value 10 digits) 8_388_608 then Some (digits_value 10 digits) else None
length_in (digits ∷ other ∷ more) = None

-- the length where the body is sent without an encoding
abbrev pub plain_length : List (List ℕ) → List (List ℕ) → Option ℕ
plain_length [] lengths = length_in lengths
plain_length (encoding ∷ more) lengths = None

-- the body's length, by the names and values of the fields
abbrev pub body_length : List (List ℕ × List ℕ) → Option ℕ
body_length fields =
    plain_length (values_of (codes "transfer-encoding") fields) (values_of (codes "content-length") fields)
