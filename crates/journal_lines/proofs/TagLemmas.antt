-- The tags of a comment, part by part.
use Rattle.std.specs.Prelude.{option_to_list}
use Rattle.std.proofs.Common.{◌≡◌, ◌<◌, ◌≤◌, ◌+◌, ◌==◌, ℕ, List, [], ◌∷◌, Bool, true, false, length, take, drop, arith}
use Rattle.std.proofs.Common.{refl, ap, ◌∙◌, sym, Option, Some, None, inl, inr, is_some, IfSome, not, ◌&&◌, ◌++◌, suc}
use Rattle.std.proofs.Common.{slice_index, subst, nat_lt, take-append-drop}
use Rattle.std.proofs.lemmas.Bool.{cases_lt, cases_Bool, and_parts, and_from, lt-ltb, ltb-true, eqb-true}
use Rattle.std.proofs.lemmas.List.Splits.{slice_split_first, slice_split_none}
use Rattle.std.proofs.lemmas.List.Sums.{fails_before_first}
use Rattle.std.proofs.Math.Seq.{drop-cons}
use Rattle.std.proofs.lemmas.List.{get_or_at, length-take}
use Rattle.std.specs.List.{list_all, slice_split, position_or_len, before_first, after_first, cons_option, filter_map}
use Rattle.std.specs.Option.{option_map}
use Rattle.std.proofs.lemmas.Grind.{common_steps}
use Rattle.journal_lines.specs.Blank.{is_blank}
use Rattle.journal_lines.specs.Tag.{is_tag_byte, name_len, starts_tag, tag_at, first_tag, tags_of, may_begin, HasTag}
use Rattle.journal_lines.specs.Tag.{IsFirstTag, IsTagOf, AreTagsOf}
use Rattle.journal_lines.proofs.CutLemmas.{before_mark, all_weaker}

-- a text without content has no tag
pub no_tags : tags_of [] ≡ []
unfolding first_tag
no_tags = refl

-- the tags of a comment are that of its first part, if it has one, and those after the comma
pub tags_step : (text : List ℕ)
    → tags_of text
    ≡ cons_option (first_tag true (before_first (λ b. b == 44) text)) (tags_of (after_first (λ b. b == 44) text))
tags_step text =
    let p : ℕ → Bool = λ b. b == 44 in
    elim (cases_lt (position_or_len p text) (length text)) [
      | inl found ↦ rw (slice_split_first p text 0 found) refl
      | inr none ↦ (let whole : slice_split p text ≡ text ∷ [] =
          slice_split_none p text (λ k d b. fails_before_first p text k d (omega (arith, b, none))) in
          let front : take (position_or_len p text) text ≡ text = take_all (position_or_len p text) text none in
          let rest : drop (position_or_len p text + 1) text ≡ [] =
          drop_all (position_or_len p text + 1) text (omega (arith, none)) in
          rw (whole, front, rest, no_tags) refl)
    ]
  where
    take_all : (n : ℕ) (xs : List ℕ) → length xs ≤ n → take n xs ≡ xs
    take_all n xs h = grind (arith, common_steps)

    drop_all : (n : ℕ) (xs : List ℕ) → length xs ≤ n → drop n xs ≡ []
    drop_all n xs h = grind (arith, common_steps)

-- the first part of a comment, and what follows its comma
pub record IsCut (comment part rest : List ℕ) : Type 0 where
  pub front : part ≡ before_first (λ b. b == 44) comment
  pub behind : rest ≡ after_first (λ b. b == 44) comment

-- a part without a tag adds none
pub part_has_none : {B : Type 0} (view : B → List ℕ × List ℕ) (r : Option B) (comment part rest : List ℕ)
    → IsCut comment part rest → option_map view r ≡ first_tag true part → is_some r ≡ false
    → tags_of comment ≡ tags_of rest
part_has_none view None comment part rest cut is none =
    tags_step comment ∙ rw (← cut.front, ← cut.behind, ← is) refl
part_has_none view (Some tag) comment part rest cut is none = absurd cc

-- a part with a tag has it before all others
pub part_has_one : {B : Type 0} (view : B → List ℕ × List ℕ) (r : Option B) (comment part rest : List ℕ)
    → IsCut comment part rest → option_map view r ≡ first_tag true part
    → IfSome r (λ tag. tags_of comment ≡ view tag ∷ tags_of rest)
part_has_one view None comment part rest cut is = tt
part_has_one view (Some tag) comment part rest cut is =
    tags_step comment ∙ rw (← cut.front, ← cut.behind, ← is) refl

-- a name and a colon at the front
name_whole : (name rest : List ℕ) → list_all is_tag_byte name ≡ true → name_len (name ++ 58 ∷ rest) ≡ length name
name_whole name rest h = before_mark (λ b. not (is_tag_byte b)) name rest 58
    (all_weaker is_tag_byte (λ b. not (not (is_tag_byte b))) name (λ b k. rw k refl) h) refl

tag_starts : (name rest : List ℕ) → list_all is_tag_byte name ≡ true → 0 < length name
    → starts_tag (name ++ 58 ∷ rest) ≡ true
unfolding starts_tag
tag_starts name rest h some =
    let whole = name_whole name rest h in
    rw (whole, lt-ltb 0 (length name) some, get_or_at name 58 rest 0 (length name) refl) refl

-- before the first byte that fails, none does
before_other : (p : ℕ → Bool) (xs : List ℕ) → list_all p (take (position_or_len (λ b. not (p b)) xs) xs) ≡ true
before_other p [] = refl
before_other p (x ∷ xs) = elim (cases_Bool (p x)) [
  | inl here ↦ (let n : 1 + position_or_len (λ b. not (p b)) xs ≡ suc (position_or_len (λ b. not (p b)) xs) =
      omega arith in rw (here, n) (rw here (before_other p xs)))
  | inr other ↦ rw other refl
]

-- what stands at the front of a text that starts with a tag
front_is_tag : (fresh : Bool) (text : List ℕ) → fresh ≡ true → starts_tag text ≡ true
    → IsFirstTag fresh text (tag_at text)
unfolding starts_tag tag_at
front_is_tag fresh text begins h =
    let n = name_len text in
    let parts = and_parts (nat_lt 0 n) _ h in
    let colon : slice_index text n ≡ 58 = eqb-true _ 58 parts.1 in
    let next : suc n ≡ n + 1 = omega arith in
    let inside : n < length text = elim (cases_lt n (length text)) [
      | inl i ↦ i
      | inr past ↦ absurd
          (let none : slice_index text n ≡ 0 = get_or_past n text past in omega (arith, none, colon))
    ] in
    record {
      has = record {
        front = [];
        rest = drop (n + 1) text;
        written = sym (take-append-drop n text) ∙ ap (λ (xs : List ℕ). take n text ++ xs)
            (drop-cons text n 0 inside ∙
            (ap (λ (b : ℕ). b ∷ drop (suc n) text) colon ∙ ap (λ (k : ℕ). 58 ∷ drop k text) next));
        begins = begins;
        name = before_other is_tag_byte text;
        named = omega (arith, ltb-true 0 n parts.0, length-take n text, inside);
        value = refl;
      };
      first = λ other k. omega arith;
    }
  where
    get_or_past : (n : ℕ) (xs : List ℕ) → length xs ≤ n → slice_index xs n ≡ 0
    get_or_past n xs h = grind (arith, common_steps)

-- a tag that does not stand at the front stands after the first byte
behind_first : (fresh : Bool) (b : ℕ) (rest : List ℕ) (tag : List ℕ × List ℕ) → (fresh && starts_tag (b ∷ rest)) ≡ false
    → (h : HasTag fresh (b ∷ rest) tag) → (k : HasTag (is_blank b) rest tag) × (length h.front ≡ length k.front + 1)
behind_first fresh b rest tag absent h = at h.front refl
  where
    at : (front : List ℕ) → h.front ≡ front → (k : HasTag (is_blank b) rest tag) × (length h.front ≡ length k.front + 1)
    at [] e = absurd (
        let written : b ∷ rest ≡ tag.0 ++ (58 ∷ h.rest) =
        h.written ∙ ap (λ (xs : List ℕ). xs ++ (tag.0 ++ (58 ∷ h.rest))) e in
        let starts : starts_tag (b ∷ rest) ≡ true = ap starts_tag written ∙ tag_starts tag.0 h.rest h.name h.named in
        let begins : fresh ≡ true = sym (ap (may_begin fresh) e) ∙ h.begins in
        let both : (fresh && starts_tag (b ∷ rest)) ≡ true = and_from fresh (starts_tag (b ∷ rest)) begins starts in
        cc)
    at (c ∷ front) e =
        let written : b ∷ rest ≡ c ∷ (front ++ (tag.0 ++ (58 ∷ h.rest))) =
        h.written ∙ ap (λ (xs : List ℕ). xs ++ (tag.0 ++ (58 ∷ h.rest))) e in
        let same : c ≡ b = cc in
        let tail : rest ≡ front ++ (tag.0 ++ (58 ∷ h.rest)) = cc in
        let begins : may_begin (is_blank c) front ≡ true = sym (ap (may_begin fresh) e) ∙ h.begins in (
          record {
            front = front;
            rest = h.rest;
            written = tail;
            begins = subst (λ (x : ℕ). may_begin (is_blank x) front ≡ true) same begins;
            name = h.name;
            named = h.named;
            value = h.value;
          },
          ap length e ∙ omega arith,
        )

-- a text's first tag is the first, and there is one where the text holds one
pub first_tag_is : (fresh : Bool) (text : List ℕ) → IsTagOf fresh text (first_tag fresh text)
unfolding first_tag
first_tag_is fresh [] = λ tag h. nothing h.front (tag.0) h.rest h.written
  where
    nothing : (front name rest : List ℕ) → [] ≡ front ++ (name ++ (58 ∷ rest)) → ⊥
    nothing [] [] rest e = cc
    nothing [] (x ∷ name) rest e = cc
    nothing (x ∷ front) name rest e = cc
first_tag_is fresh (b ∷ rest) = elim (cases_Bool (fresh && starts_tag (b ∷ rest))) [
  | inl here ↦ (let parts = and_parts fresh _ here in
      rw here (front_is_tag fresh (b ∷ rest) parts.0 parts.1))
  | inr other ↦ rw other (further (first_tag (is_blank b) rest) (first_tag_is (is_blank b) rest) other)
]
  where
    further : (o : Option (List ℕ × List ℕ)) → IsTagOf (is_blank b) rest o → (fresh && starts_tag (b ∷ rest)) ≡ false
        → IsTagOf fresh (b ∷ rest) o
    further None none absent = λ tag h. none tag (behind_first fresh b rest tag absent h).0
    further (Some tag) is absent = record {
      has = record {
        front = b ∷ is.has.front;
        rest = is.has.rest;
        written = ap (λ (xs : List ℕ). b ∷ xs) is.has.written;
        begins = is.has.begins;
        name = is.has.name;
        named = is.has.named;
        value = is.has.value;
      };
      first = λ other h. (let k = behind_first fresh b rest other absent h in omega (arith, is.first other k.0, k.1));
    }

-- the tags of a comment are those of its parts
pub are_tags_of : (parts : List (List ℕ)) → AreTagsOf parts (filter_map (first_tag true) parts)
are_tags_of [] = refl
are_tags_of (part ∷ parts) = (
  first_tag true part,
  (
    filter_map (first_tag true) parts,
    (joined (first_tag true part) (filter_map (first_tag true) parts), (first_tag_is true part, are_tags_of parts)),
  ),
)
  where
    joined : (found : Option (List ℕ × List ℕ)) (rest : List (List ℕ × List ℕ))
        → cons_option found rest ≡ option_to_list found ++ rest
    joined None rest = refl
    joined (Some tag) rest = refl
