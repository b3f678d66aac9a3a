-- What a reader of JSON makes of these texts (the kit's `serde_json`, whose `read` says which value a text is).
use Rattle.std.specs.Prelude.{◌≡◌, ℕ, false, List, ◌∷◌, [], ◌++◌, codes, Some, None}
use Rattle.std.specs.List.{list_any}
use Rattle.std.specs.Str.{bytes_eq}
use Rattle.serde_json.specs.Data.{Data, array, Items, no_items, item}
use Rattle.serde_json.specs.Data as value
use Rattle.serde_json.specs.Read.{read}
use Rattle.serde_json.specs.Find.{get}
use Rattle.json_text.specs.JsonText.{Held, string, strings, rows, quoted, strings_text, rows_text, object_text}

-- the values of these, in their order
abbrev pub items_of : {X : Type 0} → (X → Data) → List X → Items
items_of valued [] = no_items
items_of valued (x ∷ xs) = item (valued x) (items_of valued xs)

-- texts in an array
abbrev pub strings_value : List (List ℕ) → Data
strings_value texts = array (items_of value.string texts)

-- rows of texts in an array
abbrev pub rows_value : List (List (List ℕ)) → Data
rows_value more = array (items_of strings_value more)

-- what is read at a key
abbrev pub held_value : Held → Data
held_value (string text) = value.string text
held_value (strings texts) = strings_value texts
held_value (rows more) = rows_value more

-- no member has the key
abbrev pub lacks : List ℕ → List (List ℕ × Held) → Type 0
lacks key members = list_any (λ m. bytes_eq m.0 key) members ≡ false

-- a value has what the members say: at each key what the last member with it has, and at no other key anything
pub record HasMembers (members : List (List ℕ × Held)) (d : Data) : Type 0 where
  pub there : (before after : List (List ℕ × Held)) (key : List ℕ) (held : Held)
      → members ≡ before ++ (key, held) ∷ after → lacks key after → get key d ≡ Some (held_value held)
  pub no_more : (key : List ℕ) → lacks key members → get key d ≡ None

-- what is written reads as these very texts; an object, whose line ends by LF, as one that has its members
pub record ReadsBack : Type 0 where
  pub text : (text : List ℕ) → read (quoted text) ≡ Some (value.string text)
  pub texts : (texts : List (List ℕ)) → read (strings_text texts) ≡ Some (strings_value texts)
  pub table : (rows : List (List (List ℕ))) → read (rows_text rows) ≡ Some (rows_value rows)
  pub whole : (members : List (List ℕ × Held))
      → (d : Data) × (read (object_text members ++ codes "\n") ≡ Some d) × HasMembers members d
