-- The fields of a head, by their names (RFC 9110, section 5.1: upper and lower case make no difference).
use Rattle.std.specs.Prelude.{ℕ, Bool, List, [], ◌∷◌, map, if◌then◌else◌}
use Rattle.std.specs.Char.{to_ascii_lowercase}
use Rattle.std.specs.Str.{bytes_eq}

-- a name that is given is this one, whatever case its letters have
abbrev pub is_named : List ℕ → List ℕ → Bool
is_named name given = bytes_eq (map to_ascii_lowercase given) (map to_ascii_lowercase name)

-- the values of the fields of that name, in their order
abbrev pub values_of : List ℕ → List (List ℕ × List ℕ) → List (List ℕ)
values_of name [] = []
values_of name (field ∷ fields) =
    if is_named name field.0 then field.1 ∷ values_of name fields else values_of name fields
