-- The keys of a JSON value: what is written at each, and whether the request of a word may have them (own rule;
-- docs/FORMATS.md, "Requests").
use Rattle.std.specs.Prelude.{ℕ, Bool, not, ◌||◌, ◌&&◌, List, [], ◌∷◌, ◌++◌, Option, is_some}
use Rattle.std.specs.Prelude.{option_and_then, String, string_bytes}
use Rattle.std.specs.declared.alloc.Global.{Global}
use Rattle.std.specs.List.{find, list_any}
use Rattle.std.specs.Str.{bytes_eq}
use Rattle.serde_json.specs.Data.{Data, null, boolean, number, string, array, object, Members, no_members, member}
use Rattle.serde_json.specs.Find.{get, as_str}
use Rattle.treasury_requests.specs.declared.words.Word.{Word}
use Rattle.treasury_requests.specs.declared.words.Key.{Key}
use Rattle.treasury_requests.specs.declared.words.Key.TheVariants as key
use Rattle.treasury_requests.specs.Words.{key_name, needed, further}

-- the text at a key of an object
abbrev pub text_at : List ℕ → Data → Option (List ℕ)
text_at key d = option_and_then as_str (get key d)

-- the texts at the keys of a request
abbrev pub given_in : Data → Key → Option (List ℕ)
given_in d k = text_at (key_name k) d

-- the value at a key
abbrev pub value_at : Data → Key → Option Data
value_at d k = get (key_name k) d

-- there is a value at the key
abbrev pub has_member : Data → Key → Bool
has_member d k = is_some (value_at d k)

-- there is none
abbrev pub lacks_key : Data → Key → Bool
lacks_key d k = not (has_member d k)

-- there is a value at the key that is no string
abbrev pub is_odd : Data → Key → Bool
is_odd d k = has_member d k && not (is_some (given_in d k))

-- the keys beside `do` that the request of a word may have
abbrev pub keys_of : Word → List Key
keys_of w = needed w ++ further w

-- a key is written so
abbrev pub is_key_named : List ℕ → Key → Bool
is_key_named name k = bytes_eq (key_name k) name

-- the request of a word may have a key that is written so
abbrev pub may_have : Word → List ℕ → Bool
may_have w name = is_key_named name key.Do || list_any (is_key_named name) (keys_of w)

-- the request of a word may not have a key that is written so
abbrev pub is_other_key : Word → List ℕ → Bool
is_other_key w name = not (may_have w name)

-- the same of a string
abbrev pub is_other_string : Word → String Global → Bool
is_other_string w name = is_other_key w (string_bytes name)

-- the keys of an object, in byte order
abbrev pub names_in : Members → List (List ℕ)
names_in no_members = []
names_in (member name d ms) = name ∷ names_in ms

-- the keys of a value; none if it is no object
abbrev pub member_names : Data → List (List ℕ)
member_names null = []
member_names (boolean b) = []
member_names (number n) = []
member_names (string s) = []
member_names (array ds) = []
member_names (object ms) = names_in ms

-- the first key that it may not have
abbrev pub other_key : Word → Data → Option (List ℕ)
other_key w d = find (is_other_key w) (member_names d)

-- a value has the form of a word's request: no key but those that it may have, and at each of them a string
abbrev pub has_form : Word → Data → Bool
has_form w d = not (is_some (other_key w d)) && not (list_any (is_odd d) (keys_of w))
