-- A text whose tokens are those of a JSON value reads as that value.
use Rattle.std.proofs.Common.{◌≡◌, ◌∙◌, ◌++◌, ◌∷◌, ◌≤◌, ℕ, List, [], Some, refl, sym, ap, arith}
use Rattle.std.proofs.Common.{append_assoc, append-nil}
use Rattle.std.specs.Prelude.{codes, option_and_then, option_map}
use Rattle.std.specs.List.{flat_map}
use Rattle.json.specs.Token.{Token}
use Rattle.json.specs.Lex.{token, colon, lex, between}
use Rattle.json.specs.Json as json
use Rattle.json.specs.Tree as tree
use Rattle.json.proofs.Printed.Trees.{value-json_tokens}
use Rattle.serde_json.specs.Data as value
use Rattle.serde_json.specs.Data.{Data, Members, put}
use Rattle.serde_json.specs.Read.{of_json, of_items, of_members, max_depth, read}
use Rattle.json_text.specs.JsonText.{Held, string, strings, rows, quoted, array_text, strings_text, rows_text}
use Rattle.json_text.specs.JsonText.{held_text, member_text, object_text}
use Rattle.json_text.specs.ReadBack.{items_of, strings_value, rows_value, held_value}
use Rattle.json_text.proofs.Lexing.{lexes_both, lexes_colon, lexes_open_array, lexes_close_array}
use Rattle.json_text.proofs.Lexing.{lexes_open_object, lexes_string}
use Rattle.json_text.proofs.Lexing.{lexes_close_object, Written, written_string, punctuates_member, written_list}
use Rattle.json_text.proofs.Lexing.{written_as}
use Rattle.json_text.proofs.Lexing.{closes_array, closes_object, opens_array, opens_object, tokens_of_written}

-- ---- trees

abbrev pub json_items : {X : Type 0} → (X → json.Json) → List X → json.Items
json_items tree_of [] = json.no_items
json_items tree_of (x ∷ xs) = json.item (tree_of x) (json_items tree_of xs)

abbrev pub json_strings : List (List ℕ) → json.Json
json_strings texts = json.array (json_items json.string texts)

abbrev pub json_held : Held → json.Json
json_held (string text) = json.string text
json_held (strings texts) = json_strings texts
json_held (rows more) = json.array (json_items json_strings more)

abbrev pub json_members : List (List ℕ × Held) → json.Members
json_members [] = json.no_members
json_members (m ∷ ms) = json.member m.0 (json_held m.1) (json_members ms)

-- ---- their tokens

items_tokens_are : {X : Type 0} (tree_of : X → json.Json) (xs : List X)
    → flat_map (λ x. tree.json_tokens (tree_of x)) xs ++ Token.end_array ∷ []
    ≡ tree.items_tokens (json_items tree_of xs)
items_tokens_are tree_of [] = refl
items_tokens_are tree_of (x ∷ xs) =
    append_assoc (tree.json_tokens (tree_of x)) (flat_map (λ y. tree.json_tokens (tree_of y)) xs) (Token.end_array ∷ [])
    ∙ ap (λ (l : List Token). tree.json_tokens (tree_of x) ++ l) (items_tokens_are tree_of xs)

abbrev member_tokens : List ℕ × Held → List Token
member_tokens m = Token.key m.0 ∷ tree.json_tokens (json_held m.1)

members_tokens_are : (ms : List (List ℕ × Held))
    → flat_map member_tokens ms ++ Token.end_object ∷ [] ≡ tree.members_tokens (json_members ms)
members_tokens_are [] = refl
members_tokens_are (m ∷ ms) =
    append_assoc (member_tokens m) (flat_map member_tokens ms) (Token.end_object ∷ [])
    ∙ ap (λ (l : List Token). member_tokens m ++ l) (members_tokens_are ms)

written_array : {X : Type 0} (text : X → List ℕ) (tree_of : X → json.Json)
    → ((x : X) → Written (text x) (tree.json_tokens (tree_of x))) → (xs : List X)
    → Written (array_text text xs) (tree.json_tokens (json.array (json_items tree_of xs)))
written_array text tree_of each xs =
    written_as (array_text text xs) _ _ (ap (λ (l : List Token). Token.begin_array ∷ l) (items_tokens_are tree_of xs))
    (written_list text (λ x. tree.json_tokens (tree_of x)) each Token.end_array closes_array Token.begin_array
    (codes "[") (codes "]") opens_array lexes_open_array lexes_close_array xs)

written_strings : (texts : List (List ℕ)) → Written (strings_text texts) (tree.json_tokens (json_strings texts))
written_strings texts = written_array quoted json.string written_string texts

written_rows : (more : List (List (List ℕ)))
    → Written (rows_text more) (tree.json_tokens (json.array (json_items json_strings more)))
written_rows more = written_array strings_text json_strings written_strings more

written_held : (held : Held) → Written (held_text held) (tree.json_tokens (json_held held))
written_held (string text) = written_string text
written_held (strings texts) = written_strings texts
written_held (rows more) = written_rows more

written_member : (m : List ℕ × Held) → Written (member_text m) (member_tokens m)
written_member m =
    let held = written_held m.1 in
    record {
      ls = token (Token.string m.0) ∷ (colon ∷ held.ls);
      lexed = lexes_both (quoted m.0 ++ codes ":") (held_text m.1) (token (Token.string m.0) ∷ (colon ∷ [])) held.ls
          (lexes_both (quoted m.0) (codes ":") (token (Token.string m.0) ∷ []) (colon ∷ []) (lexes_string m.0)
          lexes_colon) held.lexed;
      punctuated = punctuates_member m.0 held.ls (tree.json_tokens (json_held m.1)) held.punctuated;
    }

written_object : (ms : List (List ℕ × Held))
    → Written (object_text ms) (tree.json_tokens (json.object (json_members ms)))
written_object ms =
    written_as (object_text ms) _ _ (ap (λ (l : List Token). Token.begin_object ∷ l) (members_tokens_are ms))
    (written_list member_text member_tokens written_member Token.end_object closes_object Token.begin_object (codes "{")
    (codes "}") opens_object lexes_open_object lexes_close_object ms)

-- ---- how deep they are

items_are_flat : {X : Type 0} (tree_of : X → json.Json) (n : ℕ) → ((x : X) → tree.depth (tree_of x) ≤ n) → (xs : List X)
    → tree.items_depth (json_items tree_of xs) ≤ n
items_are_flat tree_of n each [] = omega arith
items_are_flat tree_of n each (x ∷ xs) = omega (arith, each x, items_are_flat tree_of n each xs)

strings_depth : (texts : List (List ℕ)) → tree.depth (json_strings texts) ≤ 1
strings_depth texts = omega (arith, items_are_flat json.string 0 (λ s. omega arith) texts)

rows_depth : (more : List (List (List ℕ))) → tree.depth (json.array (json_items json_strings more)) ≤ 2
rows_depth more = omega (arith, items_are_flat json_strings 1 strings_depth more)

held_depth : (held : Held) → tree.depth (json_held held) ≤ 2
held_depth (string text) = omega arith
held_depth (strings texts) = omega (arith, strings_depth texts)
held_depth (rows more) = rows_depth more

members_depth_is : (ms : List (List ℕ × Held)) → tree.members_depth (json_members ms) ≤ 2
members_depth_is [] = omega arith
members_depth_is (m ∷ ms) = omega (arith, held_depth m.1, members_depth_is ms)

-- ---- which values they are

items_value : {X : Type 0} (tree_of : X → json.Json) (valued : X → Data)
    → ((x : X) → of_json (tree_of x) ≡ Some (valued x)) → (xs : List X)
    → of_items (json_items tree_of xs) ≡ Some (items_of valued xs)
items_value tree_of valued each [] = refl
items_value tree_of valued each (x ∷ xs) = rw (each x, items_value tree_of valued each xs) refl

array_value : {X : Type 0} (tree_of : X → json.Json) (valued : X → Data)
    → ((x : X) → of_json (tree_of x) ≡ Some (valued x)) → (xs : List X)
    → of_json (json.array (json_items tree_of xs)) ≡ Some (value.array (items_of valued xs))
array_value tree_of valued each xs = ap (option_map value.array) (items_value tree_of valued each xs)

strings_are : (texts : List (List ℕ)) → of_json (json_strings texts) ≡ Some (strings_value texts)
strings_are texts = array_value json.string value.string (λ s. refl) texts

rows_are : (more : List (List (List ℕ))) → of_json (json.array (json_items json_strings more)) ≡ Some (rows_value more)
rows_are more = array_value json_strings strings_value strings_are more

held_is : (held : Held) → of_json (json_held held) ≡ Some (held_value held)
held_is (string text) = refl
held_is (strings texts) = strings_are texts
held_is (rows more) = rows_are more

-- what was found, and then the members, one after another
abbrev pub put_all : List (List ℕ × Held) → Members → Members
put_all [] found = found
put_all (m ∷ ms) found = put_all ms (put m.0 (held_value m.1) found)

members_are : (ms : List (List ℕ × Held)) (found : Members)
    → of_members (json_members ms) found ≡ Some (put_all ms found)
members_are [] found = refl
members_are (m ∷ ms) found = rw (held_is m.1) (members_are ms (put m.0 (held_value m.1) found))

-- ---- what is read

-- a text of a value, after which stands nothing that is read
read_written : (text tail : List ℕ) (j : json.Json) (d : Data) → Written text (tree.json_tokens j)
    → lex between tail ≡ [] → tree.depth j ≤ max_depth → of_json j ≡ Some d → read (text ++ tail) ≡ Some d
read_written text tail j d written blank shallow is =
    ap (λ (ts : List Token). option_and_then of_json
    (option_and_then (λ p. json.if_last p.0 p.1) (json.value max_depth ts)))
    (tokens_of_written text tail (tree.json_tokens j) written blank)
    ∙ ap (λ o. option_and_then of_json (option_and_then (λ p. json.if_last p.0 p.1) o))
    (value-json_tokens j max_depth [] shallow)
    ∙ is

read_alone : (text : List ℕ) (j : json.Json) (d : Data) → Written text (tree.json_tokens j)
    → tree.depth j ≤ 2 → of_json j ≡ Some d → read text ≡ Some d
unfolding lex
read_alone text j d written shallow is =
    ap read (sym (append-nil text)) ∙ read_written text [] j d written refl (omega arith) is

pub read_string : (text : List ℕ) → read (quoted text) ≡ Some (value.string text)
read_string text = read_alone (quoted text) (json.string text) _ (written_string text) (omega arith) refl

pub read_strings : (texts : List (List ℕ)) → read (strings_text texts) ≡ Some (strings_value texts)
read_strings texts =
    read_alone (strings_text texts) (json_strings texts) _ (written_strings texts) (omega (arith, strings_depth texts))
    (strings_are texts)

pub read_rows : (more : List (List (List ℕ))) → read (rows_text more) ≡ Some (rows_value more)
read_rows more =
    read_alone (rows_text more) (json.array (json_items json_strings more)) _ (written_rows more) (rows_depth more)
    (rows_are more)

pub read_object : (ms : List (List ℕ × Held))
    → read (object_text ms ++ codes "\n") ≡ Some (value.object (put_all ms value.no_members))
unfolding lex
read_object ms =
    read_written (object_text ms) (codes "\n") (json.object (json_members ms)) _ (written_object ms) refl
    (omega (arith, members_depth_is ms)) (ap (option_map value.object) (members_are ms value.no_members))
