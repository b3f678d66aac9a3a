-- In which form a reply is asked for (RFC 9110, section 12.5.1: a range names a media type, and a weight of nought says
-- no). That the types of other ranges, other parameters and the order are passed over is an own rule (docs/FORMATS.md,
-- "HTTP").
use Rattle.std.specs.Prelude.{ℕ, ◌==◌, Bool, false, not, ◌&&◌, if◌then◌else◌, List, [], ◌∷◌, codes}
use Rattle.std.specs.List.{list_any, slice_split, join_with_byte}
use Rattle.journal_lines.specs.Blank.{trim}
use Rattle.http_request.specs.Fields.{is_named, values_of}
use Rattle.http_request.specs.declared.call.Form.{Form}
use Rattle.http_request.specs.declared.call.Form.TheVariants as form

-- the weights that are nought, as parameters ("qvalue", section 12.4.2)
abbrev pub noughts : List (List ℕ)
noughts = codes "q=0" ∷ codes "q=0." ∷ codes "q=0.0" ∷ codes "q=0.00" ∷ codes "q=0.000" ∷ []

-- a parameter says no: it is one of these, in whatever case, with or without blanks around it
unfoldable pub is_nought : List ℕ → Bool
is_nought parameter = list_any (λ weight. is_named weight (trim parameter)) noughts

-- the type of a range is that of JSON, in whatever case
unfoldable pub is_json_type : List ℕ → Bool
is_json_type type = is_named (codes "application/json") (trim type)

-- a range, cut at each `;` into its type and its parameters, is that of JSON, and none of them says no
abbrev pub is_json_in : List (List ℕ) → Bool
is_json_in [] = false
is_json_in (type ∷ parameters) = is_json_type type && not (list_any is_nought parameters)

-- a media range asks for JSON, and none of its parameters says no
unfoldable pub is_json_range : List ℕ → Bool
is_json_range range = is_json_in (slice_split (λ b. b == 59) range)

-- one of the ranges of these values, which commas join and divide, is that of JSON
abbrev pub has_json : List (List ℕ) → Bool
has_json values = list_any is_json_range (slice_split (λ b. b == 44) (join_with_byte 44 values))

-- the form that a head asks for, by the names and values of its fields
abbrev pub form_of : List (List ℕ × List ℕ) → Form
form_of fields = if has_json (values_of (codes "accept") fields) then form.Json else form.Text
