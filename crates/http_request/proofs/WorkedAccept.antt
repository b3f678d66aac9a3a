-- In which form a reply is asked for, worked out by hand.
use Rattle.std.specs.Prelude.{◌≡◌, ℕ, List, [], ◌∷◌, codes, refl}
use Rattle.journal_lines.specs.Blank.{trim_start, trim_end}
use Rattle.http_request.specs.Accept.{is_nought, is_json_type, is_json_range, form_of}
use Rattle.http_request.specs.declared.call.Form.{Form}
use Rattle.http_request.specs.declared.call.Form.TheVariants.{Text, Json}

-- one `Accept` with that value
abbrev asked : List ℕ → Form
asked value = form_of ((codes "Host", codes "localhost") ∷ (codes "accept", value) ∷ [])

-- nothing is said of JSON
pub other : (form_of ((codes "Host", codes "application/json") ∷ []) ≡ Text) × (asked [] ≡ Text)
    × (asked (codes "*/*") ≡ Text) × (asked (codes "application/*") ≡ Text) × (asked (codes "text/plain") ≡ Text)
    × (asked (codes "application/jsonp") ≡ Text) × (asked (codes "application/json2, x/application/json") ≡ Text)
unfolding is_nought is_json_type is_json_range trim_start trim_end
other = (refl, refl, refl, refl, refl, refl, refl)

-- it is asked for, in whatever case, wherever it stands, with whatever other parameters
pub json : (asked (codes "application/json") ≡ Json) × (asked (codes "APPLICATION/Json") ≡ Json)
    × (asked (codes "text/html,\tapplication/json ;q=0.5, */*") ≡ Json)
    × (asked (codes "application/json; charset=utf-8;q=1") ≡ Json)
unfolding is_nought is_json_type is_json_range trim_start trim_end
json = (refl, refl, refl, refl)

-- a weight of nought says no, with one to three zeros after the point, or none
pub nought : (asked (codes "application/json;q=0") ≡ Text) × (asked (codes "application/json ; Q=0.000 ") ≡ Text)
    × (asked (codes "application/json;a=b;q=0.") ≡ Text) × (asked (codes "application/json;q=0.001") ≡ Json)
    × (asked (codes "application/json;q=0.0000") ≡ Json)
    × (asked (codes "application/json;q=0, application/json") ≡ Json)
unfolding is_nought is_json_type is_json_range trim_start trim_end
nought = (refl, refl, refl, refl, refl, refl)

-- each of two fields counts
pub twice : (form_of ((codes "Accept", codes "text/plain") ∷ (codes "ACCEPT", codes "application/json") ∷ []) ≡ Json)
    × (form_of ((codes "Accept", codes "application/json;q=0") ∷ (codes "Accept", codes "*/*") ∷ []) ≡ Text)
unfolding is_nought is_json_type is_json_range trim_start trim_end
twice = (refl, refl)
