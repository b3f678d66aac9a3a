-- The first of an object's keys that a request may not have, and which fault bytes have.
use Rattle.std.proofs.Common.{◌≡◌, ℕ, Bool, true, false, List, [], ◌∷◌, Option, Some, None, option_map, option_and_then}
use Rattle.std.proofs.Common.{cond, refl, sym, ap, subst, ◌∙◌, ◌+◌}
use Rattle.std.proofs.Common.{String, Global, string_bytes}
use Rattle.std.specs.List.{find}
use Rattle.std.specs.Map.{keys_of}
use Rattle.std.specs.Option.{IsSome}
use Rattle.std.specs.Str.{IsUtf8, IsValidUpTo}
use Rattle.std.specs.Prelude.{is_some, codes}
use Rattle.serde_json.specs.Data.{Data, null, boolean, number, string, array, object}
use Rattle.serde_json.specs.Find.{get, as_object, as_str}
use Rattle.treasury_requests.specs.Words.{is_word_named, all_words}
use Rattle.serde_json.specs.Read.{read}
use Rattle.serde_json.specs.View.{members_view}
use Rattle.serde_json.specs.declared.value.Value.{Value}
use Rattle.treasury_requests.specs.Keys.{names_in, is_other_key, is_other_string}
use Rattle.treasury_requests.specs.RequestFault.{value_fault, do_fault, word_fault, IsFirstRequestFault}
use Rattle.treasury_requests.specs.Request.{spelled, request_of}
use Rattle.treasury_requests.specs.declared.request.Spelled.{Spelled}
use Rattle.treasury_requests.specs.declared.fault.RequestFault.{RequestFault}
use Rattle.treasury_requests.specs.declared.fault.RequestFault.TheVariants as by
use Rattle.treasury_requests.proofs.RequestLemmas.{spelled-utf8, spelled-no_utf8}
use Rattle.treasury_requests.specs.declared.words.Word.{Word}

first_of : (b : Bool) (k : String Global) (found : Option (List ℕ)) (rest : Option (String Global))
    → found ≡ option_map string_bytes rest
    → cond b (Some (string_bytes k)) found ≡ option_map string_bytes (cond b (Some k) rest)
first_of true k found rest e = refl
first_of false k found rest e = e

pub find-names_in : (w : Word) (es : List (String Global × Value))
    → find (is_other_key w) (names_in (members_view es)) ≡ option_map string_bytes
    (find (is_other_string w) (keys_of es))
find-names_in w [] = refl
find-names_in w (e ∷ es) = first_of (is_other_key w (string_bytes e.0)) e.0 _ _ (find-names_in w es)

-- bytes that are JSON of a request
pub is_request : (bytes : List ℕ) (d : Data) (s : Spelled) → IsUtf8 bytes → read bytes ≡ Some d
    → request_of d ≡ Some s → IsFirstRequestFault bytes None
is_request bytes d s text found is =
    let spells : spelled bytes ≡ Some s = spelled-utf8 bytes text ∙ ap (option_and_then request_of) found ∙ is in
    subst IsSome (sym spells) refl

-- bytes that are JSON of no request
pub has_value_fault : (bytes : List ℕ) (d : Data) (fault : RequestFault) → IsUtf8 bytes → read bytes ≡ Some d
    → request_of d ≡ None → fault ≡ value_fault d → IsFirstRequestFault bytes (Some fault)
has_value_fault bytes d fault text found none is = record {
  no_request = spelled-utf8 bytes text ∙ ap (option_and_then request_of) found ∙ none;
  no_utf8 = λ lacks. absurd (lacks text);
  no_json = λ _ lacking. (let e : Some d ≡ None = sym found ∙ lacking in cc);
  value = λ other _ again. (let same : Some d ≡ Some other = sym found ∙ again in cc);
}

-- text that is no JSON
pub has_json_fault : (bytes : List ℕ) (line byte : ℕ) (cut : Bool) → IsUtf8 bytes → read bytes ≡ None
    → IsFirstRequestFault bytes (Some (by.NotJson line byte cut))
has_json_fault bytes line byte cut text none = record {
  no_request = spelled-utf8 bytes text ∙ ap (option_and_then request_of) none;
  no_utf8 = λ lacks. absurd (lacks text);
  no_json = λ _ _. (line, byte, cut, refl);
  value = λ d _ found. (let e : None ≡ Some d = sym none ∙ found in cc);
}

-- bytes that are no text
pub has_utf8_fault : (bytes : List ℕ) (n : ℕ) → (IsUtf8 bytes → ⊥) → IsValidUpTo bytes n
    → IsFirstRequestFault bytes (Some (by.NotUtf8 (n + 1)))
has_utf8_fault bytes n lacks valid = record {
  no_request = spelled-no_utf8 bytes lacks;
  no_utf8 = λ _. (n, valid, refl);
  no_json = λ text _. absurd (lacks text);
  value = λ d text _. absurd (lacks text);
}

-- the fault of an object is that of what `do` has
pub value_fault-object : (d : Data) → is_some (as_object d) ≡ true → value_fault d ≡ do_fault d (get (codes "do") d)
value_fault-object null e = cc
value_fault-object (boolean b) e = cc
value_fault-object (number n) e = cc
value_fault-object (string s) e = cc
value_fault-object (array ds) e = cc
value_fault-object (object ms) e = refl

-- and that of a text at `do` is that of the word
pub do_fault-text : (d said : Data) (text : List ℕ) → as_str said ≡ Some text
    → do_fault d (Some said) ≡ word_fault d text (find (is_word_named text) all_words)
do_fault-text d null text e = cc
do_fault-text d (boolean b) text e = cc
do_fault-text d (number n) text e = cc
do_fault-text d (string s) text e =
    (let same : s ≡ text = cc in ap (λ it. word_fault d it (find (is_word_named it) all_words)) same)
do_fault-text d (array ds) text e = cc
do_fault-text d (object ms) text e = cc
