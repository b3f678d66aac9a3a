-- a list that is cut at each `;`
use Rattle.std.proofs.Common.{◌≡◌, ◌<◌, ◌==◌, ℕ, List, [], ◌∷◌, ◌++◌, length, refl, ap, ◌∙◌, sym, subst, arith}
use Rattle.std.proofs.Common.{append_assoc, Option, Some, None, Bor}
use Rattle.std.specs.Prelude.{MatchOption}
use Rattle.std.specs.List.{slice_split, position_or_len, before_first, after_first}
use Rattle.std.proofs.lemmas.Str.Pattern.{IsSplitOnceResult, split_once_first}
use Rattle.std.proofs.lemmas.List.Sums.{fails_before_first}
use Rattle.std.proofs.lemmas.List.Splits.{slice_split_first, slice_split_none}
use Rattle.treasury_api.specs.Asked.{cut_list}

-- what the first cut gives, and what it means that there is none
pub some_cut : (rest : List ℕ) (r : Option (Bor (List ℕ) × Bor (List ℕ))) (x : Bor (List ℕ) × Bor (List ℕ))
    → IsSplitOnceResult 59 rest r → r ≡ Some x
    → (position_or_len (λ b. b == 59) rest < length rest)
    × ((x.0.now ≡ before_first (λ b. b == 59) rest) × (x.1.now ≡ after_first (λ b. b == 59) rest))
some_cut rest r x h e =
    let m = subst (λ (o : Option (Bor (List ℕ) × Bor (List ℕ))).
    MatchOption o (position_or_len (λ b. b == 59) rest ≡ length rest)
    (λ y. (position_or_len (λ b. b == 59) rest < length rest) × (y.0.now ≡ before_first (λ b. b == 59) rest)
    × (y.1.now ≡ after_first (λ b. b == 59) rest))) e (split_once_first 59 rest r h (omega arith)) in
    (m.0, (m.1, m.2))

pub none_cut : (rest : List ℕ) (r : Option (Bor (List ℕ) × Bor (List ℕ))) → IsSplitOnceResult 59 rest r → r ≡ None
    → position_or_len (λ b. b == 59) rest ≡ length rest
none_cut rest r h e =
    subst (λ (o : Option (Bor (List ℕ) × Bor (List ℕ))).
    MatchOption o (position_or_len (λ b. b == 59) rest ≡ length rest)
    (λ y. (position_or_len (λ b. b == 59) rest < length rest) × (y.0.now ≡ before_first (λ b. b == 59) rest)
    × (y.1.now ≡ after_first (λ b. b == 59) rest))) e (split_once_first 59 rest r h (omega arith))

-- the part before the first one, and those after it
pub next_cut : (old new all : List (List ℕ)) (rest name more : List ℕ)
    → position_or_len (λ b. b == 59) rest < length rest → name ≡ before_first (λ b. b == 59) rest
    → more ≡ after_first (λ b. b == 59) rest
    → old ++ cut_list rest ≡ all → new ≡ old ++ name ∷ [] → new ++ cut_list more ≡ all
unfolding cut_list
next_cut old new all rest name more found before after e pushed =
    let cut : cut_list rest ≡ name ∷ cut_list more =
    slice_split_first (λ b. b == 59) rest 0 found ∙
    (ap (λ (x : List ℕ). x ∷ cut_list (after_first (λ b. b == 59) rest)) (sym before) ∙ ap
    (λ (x : List ℕ). name ∷ cut_list x) (sym after)) in
    ap (λ (xs : List (List ℕ)). xs ++ cut_list more) pushed
    ∙ (append_assoc old (name ∷ []) (cut_list more) ∙ (sym (ap (λ (xs : List (List ℕ)). old ++ xs) cut) ∙ e))

-- the last part
pub last_cut : (old new all : List (List ℕ)) (rest name : List ℕ) → position_or_len (λ b. b == 59) rest ≡ length rest
    → name ≡ rest → old ++ cut_list rest ≡ all → new ≡ old ++ name ∷ [] → new ≡ all
unfolding cut_list
last_cut old new all rest name none is e pushed =
    let whole : cut_list rest ≡ rest ∷ [] =
    slice_split_none (λ b. b == 59) rest
    (λ k d b. fails_before_first (λ b. b == 59) rest k d (omega (arith, b, none))) in
    pushed ∙ (ap (λ (x : List ℕ). old ++ x ∷ []) is ∙ (sym (ap (λ (xs : List (List ℕ)). old ++ xs) whole) ∙ e))
