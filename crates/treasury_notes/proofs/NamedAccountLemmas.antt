-- the listed accounts that a branch does not have, looked at one after another
use Rattle.std.proofs.Common.{◌≡◌, ◌<◌, ◌==◌, ℕ, List, [], ◌∷◌, ◌++◌, length, ap, ◌∙◌, sym, subst, arith, append_assoc}
use Rattle.std.proofs.Common.{Option, Some, None, Bor}
use Rattle.std.specs.Prelude.{MatchOption, filter}
use Rattle.std.specs.List.{slice_split, position_or_len, before_first, after_first}
use Rattle.std.proofs.lemmas.Str.Pattern.{IsSplitOnceResult, split_once_first}
use Rattle.std.proofs.lemmas.List.Elements.{filter-append}
use Rattle.std.proofs.lemmas.List.Sums.{fails_before_first}
use Rattle.std.proofs.lemmas.List.Splits.{slice_split_first, slice_split_none}
use Rattle.treasury_state.specs.declared.record.Record.{Record}
use Rattle.treasury_notes.specs.NamedAccount.{is_unknown, unknown_accounts}

-- what `split_once` says, as the parts of all cuts
pub first_cut : (text : List ℕ) (r : Option (Bor (List ℕ) × Bor (List ℕ))) (x : Bor (List ℕ) × Bor (List ℕ))
    → IsSplitOnceResult 59 text r → r ≡ Some x
    → slice_split (λ b. b == 59) text ≡ x.0.now ∷ slice_split (λ b. b == 59) x.1.now
first_cut text r x h e =
    let m = subst (λ (o : Option (Bor (List ℕ) × Bor (List ℕ))).
    MatchOption o (position_or_len (λ b. b == 59) text ≡ length text)
    (λ y. (position_or_len (λ b. b == 59) text < length text) × (y.0.now ≡ before_first (λ b. b == 59) text)
    × (y.1.now ≡ after_first (λ b. b == 59) text))) e (split_once_first 59 text r h (omega arith)) in
    slice_split_first (λ b. b == 59) text 0 m.0
    ∙ (ap (λ (part : List ℕ). part ∷ slice_split (λ b. b == 59) (after_first (λ b. b == 59) text)) (sym m.1)
    ∙ ap (λ (part : List ℕ). x.0.now ∷ slice_split (λ b. b == 59) part) (sym m.2))

pub no_cut : (text : List ℕ) (r : Option (Bor (List ℕ) × Bor (List ℕ))) → IsSplitOnceResult 59 text r → r ≡ None
    → slice_split (λ b. b == 59) text ≡ text ∷ []
no_cut text r h e =
    let none : position_or_len (λ b. b == 59) text ≡ length text =
    subst (λ (o : Option (Bor (List ℕ) × Bor (List ℕ))).
    MatchOption o (position_or_len (λ b. b == 59) text ≡ length text)
    (λ y. (position_or_len (λ b. b == 59) text < length text) × (y.0.now ≡ before_first (λ b. b == 59) text)
    × (y.1.now ≡ after_first (λ b. b == 59) text))) e (split_once_first 59 text r h (omega arith)) in
    slice_split_none (λ b. b == 59) text
    (λ k d b. fails_before_first (λ b. b == 59) text k d (omega (arith, b, none)))

-- the name before the first one, and those after it
pub unknown_next : (held : List Record) (old new all : List (List ℕ)) (text name more : List ℕ)
    → slice_split (λ b. b == 59) text ≡ name ∷ slice_split (λ b. b == 59) more
    → new ≡ old ++ filter (is_unknown held) (name ∷ []) → old ++ unknown_accounts held text ≡ all
    → new ++ unknown_accounts held more ≡ all
unfolding unknown_accounts
unknown_next held old new all text name more cut put e =
    let rest = slice_split (λ b. b == 59) more in
    ap (λ (xs : List (List ℕ)). xs ++ filter (is_unknown held) rest) put
    ∙ (append_assoc old (filter (is_unknown held) (name ∷ [])) (filter (is_unknown held) rest)
    ∙ (ap (λ (xs : List (List ℕ)). old ++ xs) (sym (filter-append (is_unknown held) (name ∷ []) rest))
    ∙ (sym (ap (λ (xs : List (List ℕ)). old ++ filter (is_unknown held) xs) cut) ∙ e)))

-- the last name
pub unknown_last : (held : List Record) (old new all : List (List ℕ)) (text : List ℕ)
    → slice_split (λ b. b == 59) text ≡ text ∷ [] → new ≡ old ++ filter (is_unknown held) (text ∷ [])
    → old ++ unknown_accounts held text ≡ all → new ≡ all
unfolding unknown_accounts
unknown_last held old new all text cut put e =
    put ∙ (sym (ap (λ (xs : List (List ℕ)). old ++ filter (is_unknown held) xs) cut) ∙ e)
