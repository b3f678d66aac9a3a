-- What an object has at a key, once its members were put in one after another.
use Rattle.std.proofs.Common.{◌≡◌, ◌∙◌, ◌++◌, ◌∷◌, ℕ, List, [], false, refl, sym, ap}
use Rattle.std.specs.Str.{bytes_eq}
use Rattle.std.proofs.lemmas.Bool.{or_parts}
use Rattle.std.proofs.lemmas.Slice.Eq.{bytes_eq-Decides}
use Rattle.serde_json.specs.Data as value
use Rattle.serde_json.specs.Data.{Data, Members, put}
use Rattle.serde_json.specs.Find.{get_member}
use Rattle.serde_json.proofs.Views.{get_member-put, get_member-put_other}
use Rattle.json_text.specs.JsonText.{Held}
use Rattle.json_text.specs.ReadBack.{held_value, lacks, HasMembers, ReadsBack}
use Rattle.json_text.proofs.Reading.{put_all, read_string, read_strings, read_rows, read_object}

-- what two texts are whose test says no
apart : (k q : List ℕ) → bytes_eq k q ≡ false → q ≡ k → ⊥
apart k q differs same = absurd (let equal = (bytes_eq-Decides k q).1 (sym same) in cc)

-- members with other keys change nothing at this one
skipped : (key : List ℕ) (ms : List (List ℕ × Held)) (found : Members) → lacks key ms
    → get_member key (put_all ms found) ≡ get_member key found
skipped key [] found none = refl
skipped key (m ∷ ms) found none =
    let both = or_parts (bytes_eq m.0 key) _ none in
    skipped key ms (put m.0 (held_value m.1) found) both.1
    ∙ get_member-put_other key m.0 (held_value m.1) found (apart m.0 key both.0)

put_all-append : (before after : List (List ℕ × Held)) (found : Members)
    → put_all (before ++ after) found ≡ put_all after (put_all before found)
put_all-append [] after found = refl
put_all-append (m ∷ ms) after found = put_all-append ms after (put m.0 (held_value m.1) found)

pub has_members : (ms : List (List ℕ × Held)) → HasMembers ms (value.object (put_all ms value.no_members))
has_members ms = record {
  there = λ before after key held whole none.
      ap (λ (l : List (List ℕ × Held)). get_member key (put_all l value.no_members)) whole
      ∙ ap (get_member key) (put_all-append before ((key, held) ∷ after) value.no_members)
      ∙ skipped key after (put key (held_value held) (put_all before value.no_members)) none
      ∙ get_member-put key (held_value held) (put_all before value.no_members);
  no_more = λ key none. skipped key ms value.no_members none;
}

pub reads_back : ReadsBack
reads_back = record {
  text = read_string;
  texts = read_strings;
  table = read_rows;
  whole = λ ms. (value.object (put_all ms value.no_members), read_object ms, has_members ms);
}
