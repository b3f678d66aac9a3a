-- Account names: those at and below the transit account, and that a well-formed name is cut whole.
use Rattle.std.proofs.Common.{◌≡◌, ◌≤◌, ◌<◌, ◌++◌, ◌==◌, ℕ, List, [], ◌∷◌, Bool, true, length, take, drop, slice_index}
use Rattle.std.proofs.Common.{arith, ◌∙◌, append-nil, take-append-drop, ◌⊎◌, sym, ap, inl, inr, nat_eq, nat_le, false}
use Rattle.std.proofs.Common.{not, ◌&&◌, ◌||◌, refl}
use Rattle.std.specs.Prelude.{IsTrue}
use Rattle.std.proofs.lemmas.Bool.{eq-eqb, eqb-true, and_parts, and_from, or_parts, not-true, not_from_false, leb-true}
use Rattle.std.specs.Cmp.Lexicographic.{same_text}
use Rattle.std.proofs.lemmas.Grind.{common_steps}
use Rattle.journal_lines.specs.Blank.{is_blank}
use Rattle.journal_lines.specs.Printed.{is_clean}
use Rattle.journal_lines.proofs.CutLemmas.{all_weaker}
use Rattle.journal_lines.specs.AccountName.{transit, is_account_name_byte, parts, is_part, is_gap, has_gap, bars_start}
use Rattle.journal_lines.specs.AccountName.{is_account, ends_name, name_end, is_unbroken, IsWholeName}
use Rattle.std.specs.List.{list_all}
use lib.Pointwise.{pointwise}

-- a front that equals the transit account's name
pub behind_transit : (account rest : List ℕ) → pointwise nat_eq (take 14 account) transit ≡ true
    → rest ≡ drop 14 account → account ≡ transit ++ rest
behind_transit account rest front behind =
    let same : take 14 account ≡ transit = same_text (take 14 account) transit (sym front) in
    sym (take-append-drop 14 account) ∙
    (ap (λ (xs : List ℕ). xs ++ drop 14 account) same ∙ ap (λ (xs : List ℕ). transit ++ xs) (sym behind))

-- what two texts have after the same front
same_behind : (front xs ys : List ℕ) → front ++ xs ≡ front ++ ys → xs ≡ ys
same_behind [] xs ys e = e
same_behind (b ∷ front) xs ys e = same_behind front xs ys cc

-- a name and what is below it, for any account
abbrev pub IsAtOrBelow : List ℕ → List ℕ → Type 0
IsAtOrBelow top account = (account ≡ top) ⊎ ((rest : List ℕ) × (account ≡ top ++ 58 ∷ rest))

-- what follows it decides by its first byte
pub at_or_below_by_colon : (top account rest : List ℕ) → account ≡ top ++ rest → 1 ≤ length rest
    → (IsTrue (nat_eq (slice_index rest 0) 58) → IsAtOrBelow top account)
    × (IsAtOrBelow top account → IsTrue (nat_eq (slice_index rest 0) 58))
at_or_below_by_colon top account [] e some = absurd (omega arith)
at_or_below_by_colon top account (x ∷ xs) e some = (
  λ colon. inr (xs, e ∙ ap (λ (b : ℕ). top ++ b ∷ xs) (eqb-true x 58 colon)),
  λ is. elim is [
    | inl same ↦ (let none : x ∷ xs ≡ [] =
        same_behind top (x ∷ xs) [] (sym e ∙ (same ∙ sym (append-nil top))) in absurd cc)
    | inr below ↦ (let tail : x ∷ xs ≡ 58 ∷ below.0 =
        same_behind top (x ∷ xs) (58 ∷ below.0) (sym e ∙ below.1) in eq-eqb x 58 cc)
  ],
)

-- the name is cut whole where a gap or the end follows it
abbrev pub EndsName : List ℕ → Type 0
EndsName [] = Unit {0}
EndsName (b ∷ bs) = ends_name b bs ≡ true

ends_at : (rest : List ℕ) → EndsName rest → name_end rest ≡ 0
unfolding name_end
ends_at [] h = refl
ends_at (b ∷ bs) h = rw h refl

-- a last byte of a name is no blank
not_last : (x : ℕ) (rest : List ℕ) → ends_name x [] ≡ false → ends_name x rest ≡ false
not_last x [] h = h
not_last x (b ∷ bs) h = let parts = or_parts (x == 9) (x == 32) h in rw (parts.0, parts.1) refl

pub name_whole : (name rest : List ℕ) → is_unbroken name ≡ true → EndsName rest → name_end (name ++ rest) ≡ length name
unfolding name_end
name_whole [] rest h e = ends_at rest e
name_whole (x ∷ []) rest h e =
    let parts = and_parts (not (ends_name x [])) _ h in
    rw (not_last x rest (not-true _ parts.0), ends_at rest e) refl
name_whole (x ∷ y ∷ name) rest h e =
    let parts = and_parts (not (ends_name x (y ∷ name))) _ h in
    rw (not-true _ parts.0, name_whole (y ∷ name) rest parts.1 e) (omega arith)

-- a well-formed name has no byte that ends it
pub account_unbroken : (name : List ℕ) → is_account name ≡ true → is_unbroken name ≡ true
unfolding is_account
account_unbroken name h =
    let a = and_parts (nat_le (length name) 200 && list_all is_part (parts name) && list_all is_account_name_byte name
    && not (has_gap name)) _ h in
    let b = and_parts (nat_le (length name) 200 && list_all is_part (parts name) && list_all is_account_name_byte name)
    _ a.0 in
    let c = and_parts (nat_le (length name) 200 && list_all is_part (parts name)) _ b.0 in
    unbroken name c.1 (not-true _ b.1)
  where
    no_tab : (b : ℕ) → is_account_name_byte b ≡ true → (b == 9) ≡ false
    no_tab b k = grind (arith, common_steps)

    ends_none : (b : ℕ) (rest : List ℕ) → is_account_name_byte b ≡ true → list_all is_account_name_byte rest ≡ true
        → is_gap b rest ≡ false → ends_name b rest ≡ false
    ends_none b [] k r g = rw (no_tab b k, g) refl
    ends_none b (next ∷ rest) k r g = let first =
        and_parts (is_account_name_byte next) _ r in rw (no_tab b k, no_tab next first.0)
        (by_space (b == 32) (next == 32) g)
      where
        by_space : (x y : Bool) → (x && y) ≡ false → (x && (y || false)) ≡ false
        by_space x true e = e
        by_space x false e = e

    unbroken : (name : List ℕ) → list_all is_account_name_byte name ≡ true → has_gap name ≡ false
        → is_unbroken name ≡ true
    unbroken [] k g = refl
    unbroken (b ∷ rest) k g =
        let bytes = and_parts (is_account_name_byte b) _ k in
        let gaps = or_parts (is_gap b rest) _ g in
        and_from _ _ (not_from_false _ (ends_none b rest bytes.0 bytes.1 gaps.0)) (unbroken rest bytes.1 gaps.1)

-- what a well-formed name has at its front and at its end
pub account_whole : (name : List ℕ) → is_account name ≡ true → IsWholeName name
unfolding is_account
account_whole name h =
    let a = and_parts (nat_le (length name) 200 && list_all is_part (parts name) && list_all is_account_name_byte name
    && not (has_gap name)) _ h in
    let b = and_parts (nat_le (length name) 200 && list_all is_part (parts name) && list_all is_account_name_byte name)
    _ a.0 in
    let c = and_parts (nat_le (length name) 200 && list_all is_part (parts name)) _ b.0 in
    let d = and_parts (nat_le (length name) 200) _ c.0 in
    record {
      some = some_byte name d.1;
      short = leb-true (length name) 200 d.0;
      bytes = c.1;
      clean = all_weaker is_account_name_byte is_clean name clean_byte c.1;
      first = not-true _ a.1;
      solid = solid_first name c.1 (not-true _ a.1);
      unbroken = account_unbroken name h;
    }
  where
    some_byte : (xs : List ℕ) → list_all is_part (parts xs) ≡ true → 0 < length xs
    some_byte [] k = absurd cc
    some_byte (x ∷ xs) k = omega arith

    clean_byte : (b : ℕ) → is_account_name_byte b ≡ true → is_clean b ≡ true
    clean_byte b k = grind (arith, common_steps)

    solid_byte : (b : ℕ) → is_account_name_byte b ≡ true → bars_start b ≡ false → is_blank b ≡ false
    solid_byte b k s = grind (arith, common_steps)

    solid_first : (xs : List ℕ) → list_all is_account_name_byte xs ≡ true → bars_start (slice_index xs 0) ≡ false
        → is_blank (slice_index xs 0) ≡ false
    solid_first [] k s = refl
    solid_first (x ∷ xs) k s = solid_byte x (and_parts (is_account_name_byte x) _ k).0 s

-- the same of each test alone
pub whole_by_tests : (name : List ℕ) → nat_le (length name) 200 ≡ true → list_all is_part (parts name) ≡ true
    → list_all is_account_name_byte name ≡ true → has_gap name ≡ false → bars_start (slice_index name 0) ≡ false
    → IsWholeName name
unfolding is_account
whole_by_tests name a b c d e = account_whole name (rw (a, b, c, d, e) refl)
