-- The ranges of all `Accept` are those of one after another.
use Rattle.std.proofs.Common.{◌≡◌, ◌∙◌, ◌++◌, ◌==◌, ◌&&◌, ◌||◌, ℕ, List, [], ◌∷◌, Bool, true, false, refl, ap}
use Rattle.std.proofs.Common.{sym}
use Rattle.std.proofs.Common.{◌<◌, ◌+◌, if◌then◌else◌, length, take, drop, subst}
use Rattle.std.specs.Prelude.{cond}
use Rattle.std.specs.List.{list_any, slice_split, onto_first, join_with_byte, position_or_len, before_first}
use Rattle.std.proofs.lemmas.List.Folds.{list_any-append}
use Rattle.std.proofs.Math.Bool.{or-false, and-true}
use Rattle.std.proofs.lemmas.List.Splits.{slice_split_first, slice_split_none}
use Rattle.journal_lines.specs.Blank.{trim_start, trim_end}
use Rattle.http_request.specs.Fields.{is_named, values_of}
use Rattle.http_request.specs.Accept.{is_json_type, is_json_in, is_json_range, has_json}
use Rattle.http_request.proofs.PieceLemmas.{lacks_byte}

-- a byte stands in the first of parts that are there
onto_more : (b c : ℕ) (front back : List (List ℕ)) → onto_first b (onto_first c front ++ back)
    ≡ onto_first b (onto_first c front) ++ back
onto_more b c [] back = refl
onto_more b c (part ∷ front) back = refl

first_of : (b : ℕ) (text : List ℕ) (back : List (List ℕ))
    → onto_first b (slice_split (λ b. b == 44) text ++ back) ≡ onto_first b (slice_split (λ b. b == 44) text) ++ back
first_of b [] back = refl
first_of b (c ∷ text) back = by_test (c == 44)
  where
    by_test : (t : Bool)
        → onto_first b (cond t ([] ∷ slice_split (λ b. b == 44) text) (onto_first c (slice_split (λ b. b == 44) text))
        ++ back)
        ≡ onto_first b (cond t ([] ∷ slice_split (λ b. b == 44) text)
        (onto_first c (slice_split (λ b. b == 44) text))) ++ back
    by_test true = refl
    by_test false = onto_more b c (slice_split (λ b. b == 44) text) back

-- the parts on both sides of a comma
slice_split-comma : (text more : List ℕ) → slice_split (λ b. b == 44) (text ++ 44 ∷ more)
    ≡ slice_split (λ b. b == 44) text ++ slice_split (λ b. b == 44) more
slice_split-comma [] more = refl
slice_split-comma (b ∷ text) more = by_test (b == 44) (slice_split-comma text more)
  where
    by_test : (t : Bool)
        → slice_split (λ b. b == 44) (text ++ 44 ∷ more)
        ≡ slice_split (λ b. b == 44) text ++ slice_split (λ b. b == 44) more
        → cond t ([] ∷ slice_split (λ b. b == 44) (text ++ 44 ∷ more))
        (onto_first b (slice_split (λ b. b == 44) (text ++ 44 ∷ more)))
        ≡ cond t ([] ∷ slice_split (λ b. b == 44) text) (onto_first b (slice_split (λ b. b == 44) text))
        ++ slice_split (λ b. b == 44) more
    by_test true same = ap (λ (front : List (List ℕ)). [] ∷ front) same
    by_test false same =
        ap (onto_first b) same ∙ first_of b text (slice_split (λ b. b == 44) more)

-- one of the ranges of a value is that of JSON
abbrev pub is_among : List ℕ → Bool
is_among value = list_any is_json_range (slice_split (λ b. b == 44) value)

-- an empty range is not
is_json_range-nil : is_json_range [] ≡ false
unfolding is_json_range is_json_type trim_start trim_end
is_json_range-nil = refl

has_json-each : (values : List (List ℕ)) → has_json values ≡ list_any is_among values
has_json-each [] = ap (λ (b : Bool). b || false) is_json_range-nil
has_json-each (value ∷ []) = sym (or-false (is_among value))
has_json-each (value ∷ other ∷ more) =
    ap (list_any is_json_range) (slice_split-comma value (join_with_byte 44 (other ∷ more)))
    ∙ (list_any-append is_json_range (slice_split (λ b. b == 44) value)
    (slice_split (λ b. b == 44) (join_with_byte 44 (other ∷ more)))
    ∙ ap (λ (b : Bool). is_among value || b) (has_json-each (other ∷ more)))

-- no value has a range
pub has_json-none : has_json [] ≡ false
has_json-none = has_json-each []

-- the first field, and the others
pub has_json-field : (name : List ℕ) (field : List ℕ × List ℕ) (fields : List (List ℕ × List ℕ))
    → has_json (values_of name (field ∷ fields))
    ≡ ((is_named name field.0 && is_among field.1) || has_json (values_of name fields))
has_json-field name field fields = by_name (is_named name field.0)
  where
    by_name : (named : Bool)
        → has_json (if named then field.1 ∷ values_of name fields else values_of name fields)
        ≡ ((named && is_among field.1) || has_json (values_of name fields))
    by_name true =
        has_json-each (field.1 ∷ values_of name fields)
        ∙ ap (λ (b : Bool). is_among field.1 || b) (sym (has_json-each (values_of name fields)))
    by_name false = refl

-- ---- a range, cut at its `;`

pub range_cut : (range kind parameters : List ℕ) (at : ℕ) → at ≡ position_or_len (λ b. b == 59) range
    → at < length range → kind ≡ take at range → parameters ≡ drop (at + 1) range
    → is_json_in (kind ∷ slice_split (λ b. b == 59) parameters) ≡ is_json_range range
unfolding is_json_range
range_cut range kind parameters at place inside first rest =
    let within : position_or_len (λ b. b == 59) range < length range =
    subst (λ (n : ℕ). n < length range) place inside in
    ap (λ (t : List ℕ). is_json_in (t ∷ slice_split (λ b. b == 59) parameters))
    (first ∙ ap (λ (n : ℕ). take n range) place)
    ∙ (ap (λ (t : List ℕ). is_json_in (before_first (λ b. b == 59) range ∷ slice_split (λ b. b == 59) t))
    (rest ∙ ap (λ (n : ℕ). drop (n + 1) range) place)
    ∙ sym (ap is_json_in (slice_split_first (λ b. b == 59) range 0 within)))

pub range_whole : (range : List ℕ) (at : ℕ) → at ≡ position_or_len (λ b. b == 59) range → at ≡ length range
    → is_json_type range ≡ is_json_range range
unfolding is_json_range
range_whole range at place end =
    sym (and-true (is_json_type range))
    ∙ sym (ap is_json_in (slice_split_none (λ b. b == 59) range (lacks_byte 59 range (sym place ∙ end))))
