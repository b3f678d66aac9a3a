-- a choice that is not refused: its comments can be printed, and it selects nothing on transit
use Rattle.std.proofs.Common.{◌≡◌, ◌∙◌, ◌≤◌, ◌<◌, ◌+◌, ◌-◌, ◌==◌, ◌||◌, ◌⊎◌, inl, inr, ℕ, zero, suc, Bool, true, false}
use Rattle.std.proofs.Common.{not, nat_eq, List, [], ◌∷◌, ◌++◌, length, slice_index, refl, sym, ap, subst, arith}
use Rattle.std.proofs.Common.{append-nil, length-append, drop, get_or, drop-cons, add-one, true≢false, Option, Some}
use Rattle.std.proofs.Common.{None}
use Rattle.std.specs.Prelude.{codes, nat_lt, nat_le, if◌then◌else◌}
use Rattle.std.specs.Bool.{Decides, one_answer}
use Rattle.std.specs.Cmp.Lexicographic.{pointwise}
use Rattle.std.specs.List.{list_all, list_any, flat_map}
use Rattle.std.specs.Str.{bytes_eq, is_utf8}
use Rattle.std.proofs.lemmas.Bool.{and_parts, and_from, not-true, not_from_false, or_right, or_parts}
use Rattle.std.proofs.lemmas.Bool.Decides.{nat_tests}
use Rattle.std.proofs.lemmas.Grind.{common_steps}
use Rattle.std.proofs.lemmas.List.Folds.{list_all-append}
use Rattle.std.proofs.lemmas.Slice.Eq.{bytes_eq-Decides, slice_eq-Decides}
use Rattle.money_core.specs.Blank.{is_blank}
use Rattle.money_core.proofs.Utf8Lemmas.{utf8_joined, utf8_low}
use Rattle.book_core.specs.Account.{IsInside, is_inside}
use Rattle.book_core.specs.declared.refusal.Refusal.{Refusal}
use Rattle.book_core.proofs.AccountLemmas.{is_inside_decides}
use Rattle.journal_lines.specs.AccountName.{is_account_name_byte, is_gap, has_gap, is_account, transit}
use Rattle.journal_lines.specs.Blank.{is_trimmed}
use Rattle.journal_lines.specs.Printed.{is_clean}
use Rattle.journal_lines.proofs.AccountLemmas.{account_whole}
use Rattle.journal_format.specs.Mark.{mark_of}
use Rattle.journal_format.specs.Printable.{is_note}
use Rattle.treasury_state.specs.Transfer.{is_account_text, is_reserved}
use Rattle.treasury_state.specs.Fair.{HasNoColon}
use Rattle.treasury_core.specs.declared.choice.Choice.{Choice}
use Rattle.treasury_core.specs.Choice.{is_revenue_or_expense, retained_earnings, is_among, is_selected, target_in}
use Rattle.treasury_core.specs.Choice.{listed_names, list_text, accounts_comment, into_comment, choice_comments}
use Rattle.treasury_core.specs.Choice.{holds_transit, choice_refusal}

-- ---- what is not refused

-- each test of a choice has passed
pub record IsChoice (c : Choice) : Type 0 where
  pub formed : list_all is_account_text (listed_names c.accounts) ≡ true
  pub target : is_account_text (target_in c.into) ≡ true
  pub off_transit : list_any holds_transit (listed_names c.accounts) ≡ false
  pub clear : is_reserved (target_in c.into) ≡ false
  pub apart : is_selected c.accounts (target_in c.into) ≡ false
  pub short : length (list_text (listed_names c.accounts)) ≤ 880

pub true_from_not_false : (b : Bool) → not b ≡ false → b ≡ true
true_from_not_false true e = refl
true_from_not_false false e = absurd cc

not_more : (n m : ℕ) → nat_lt m n ≡ false → n ≤ m
not_more n m h = grind (arith, nat_tests)

-- a refusal that does not come
pub None_only_if_false : (b : Bool) (e : Refusal) (o : Option Refusal) → (if b then Some e else o) ≡ None → (b ≡ false)
    × (o ≡ None)
None_only_if_false true e o h = absurd cc
None_only_if_false false e o h = (refl, h)

pub choice_allowed : (c : Choice) → choice_refusal c ≡ None → IsChoice c
choice_allowed c h =
    let one = None_only_if_false _ _ _ h in
    let two = None_only_if_false _ _ _ one.1 in
    let three = None_only_if_false _ _ _ two.1 in
    let four = None_only_if_false _ _ _ three.1 in
    let five = None_only_if_false _ _ _ four.1 in
    let six = None_only_if_false _ _ _ five.1 in
    record {
      formed = true_from_not_false _ one.0;
      target = true_from_not_false _ two.0;
      off_transit = three.0;
      clear = four.0;
      apart = five.0;
      short = not_more _ _ six.0;
    }

-- ---- nothing that is selected is on transit

-- of two texts that go on with a colon to one, one is inside the other
one_inside_other : (f top r s : List ℕ) → top ++ 58 ∷ s ≡ f ++ 58 ∷ r → IsInside f top ⊎ IsInside top f
one_inside_other [] [] r s e = inl (inl refl)
one_inside_other [] (c ∷ cs) r s e = inl (inr (cs, let same : c ≡ 58 = cc in ap (λ (x : ℕ). x ∷ cs) same))
one_inside_other (c ∷ cs) [] r s e = inr (inr (cs, let same : 58 ≡ c = cc in ap (λ (x : ℕ). x ∷ cs) (sym same)))
one_inside_other (c ∷ cs) (b ∷ bs) r s e =
    let head : b ≡ c = cc in
    let rest : bs ++ 58 ∷ s ≡ cs ++ 58 ∷ r = cc in
    longer (one_inside_other cs bs r s rest) head
  where
    longer : IsInside cs bs ⊎ IsInside bs cs → b ≡ c → IsInside (c ∷ cs) (b ∷ bs) ⊎ IsInside (b ∷ bs) (c ∷ cs)
    longer (inl (inl e)) h = inl (inl (cc))
    longer (inl (inr p)) h = inl (inr (p.0, let tail = p.1 in cc))
    longer (inr (inl e)) h = inr (inl (cc))
    longer (inr (inr p)) h = inr (inr (p.0, let tail = p.1 in cc))

-- the text before the only colon
before_colon : (f top x s : List ℕ) → HasNoColon f → HasNoColon x → top ++ 58 ∷ s ≡ f ++ 58 ∷ x → top ≡ f
before_colon [] [] x s h k e = refl
before_colon [] (c ∷ cs) x s h k e = absurd (let rest : cs ++ 58 ∷ s ≡ x = cc in within cs s x k rest)
  where
    within : (cs s x : List ℕ) → HasNoColon x → cs ++ 58 ∷ s ≡ x → ⊥
    within [] s [] k e = cc
    within [] s (b ∷ bs) k e =
        let same : b ≡ 58 = cc in let one : nat_eq 58 58 ≡ false = subst (λ (n : ℕ). nat_eq n 58 ≡ false) same k.0 in cc
    within (c ∷ cs) s [] k e = cc
    within (c ∷ cs) s (b ∷ bs) k e = within cs s bs k.1 cc
before_colon (c ∷ cs) [] x s h k e = absurd
    (let same : c ≡ 58 = cc in let one : nat_eq 58 58 ≡ false = subst (λ (n : ℕ). nat_eq n 58 ≡ false) same h.0 in cc)
before_colon (c ∷ cs) (b ∷ bs) x s h k e =
    let head : b ≡ c = cc in
    let rest : bs ++ 58 ∷ s ≡ cs ++ 58 ∷ x = cc in
    let more : bs ≡ cs = before_colon cs bs x s h.1 k rest in
    cc

only_assets : (top : List ℕ) → IsInside top transit → (top ≡ transit) ⊎ (top ≡ codes "assets")
only_assets top (inl e) = inl (sym e)
only_assets top (inr p) = inr (before_colon (codes "assets") top (codes "transit") p.0
    (refl, (refl, (refl, (refl, (refl, (refl, tt)))))) (refl, (refl, (refl, (refl, (refl, (refl, (refl, tt)))))))
    (sym p.1))

holds_transit_at_top : (top : List ℕ) → (top ≡ transit) ⊎ (top ≡ codes "assets") → holds_transit top ≡ true
holds_transit_at_top top (inl e) = ap holds_transit e
holds_transit_at_top top (inr e) = ap holds_transit e

-- an account inside another and on transit: the other is on transit, or it is `assets`
transit_above : (top account : List ℕ) → IsInside top account → IsInside transit account → holds_transit top ≡ true
transit_above top account (inl e) on =
    or_right (bytes_eq top (codes "assets")) (is_reserved top)
    (ap is_reserved (sym e) ∙ (is_inside_decides transit account).1 on)
transit_above top account (inr p) (inl e) = holds_transit_at_top top (only_assets top (inr (p.0, sym e ∙ p.1)))
transit_above top account (inr p) (inr q) = by_case (one_inside_other transit top q.0 p.0 (sym p.1 ∙ q.1))
  where
    by_case : IsInside transit top ⊎ IsInside top transit → holds_transit top ≡ true
    by_case (inl h) = or_right (bytes_eq top (codes "assets")) (is_reserved top) ((is_inside_decides transit top).1 h)
    by_case (inr h) = holds_transit_at_top top (only_assets top h)

among_apart : (names : List (List ℕ)) (account : List ℕ) → list_any holds_transit names ≡ false
    → is_among names account ≡ true → is_reserved account ≡ true → ⊥
among_apart [] account off h on = absurd cc
among_apart (top ∷ names) account off h on =
    let n = or_parts (holds_transit top) (list_any holds_transit names) off in
    by_test (is_inside top account) refl h n.0 (λ k. among_apart names account n.1 k on)
  where
    by_test : (t : Bool) → is_inside top account ≡ t → (t || is_among names account) ≡ true → holds_transit top ≡ false
        → (is_among names account ≡ true → ⊥) → ⊥
    by_test true e k off later = let held =
        transit_above top account ((is_inside_decides top account).0 e) ((is_inside_decides transit account).0 on) in
        true≢false (sym held ∙ off)
    by_test false e k off later = later k

-- a revenue or expense account is not on transit
not_transit : (a : List ℕ) → is_revenue_or_expense a ≡ true → IsInside transit a → ⊥
not_transit a h (inl e) = let k : false ≡ true = ap is_revenue_or_expense (sym e) ∙ h in cc
not_transit a h (inr p) = let k : false ≡ true = ap is_revenue_or_expense (sym p.1) ∙ h in cc

chosen_apart : (o : Option (List (List ℕ))) (account : List ℕ) → list_any holds_transit (listed_names o) ≡ false
    → is_selected o account ≡ true → is_reserved account ≡ true → ⊥
chosen_apart None account off h on = not_transit account h ((is_inside_decides transit account).0 on)
chosen_apart (Some names) account off h on = among_apart names account off h on

pub selected_off : (c : Choice) (account : List ℕ) → IsChoice c → is_selected c.accounts account ≡ true
    → is_reserved account ≡ false
selected_off c account h is = by_test (is_reserved account) refl
  where
    by_test : (t : Bool) → is_reserved account ≡ t → t ≡ false
    by_test true e = absurd (chosen_apart c.accounts account h.off_transit is e)
    by_test false e = refl

-- ---- its comments can be printed

-- no space at the end, and no tab
abbrev ends_solid : List ℕ → Bool
ends_solid [] = true
ends_solid (b ∷ []) = not (is_blank b)
ends_solid (b ∷ (next ∷ rest)) = ends_solid (next ∷ rest)

solid_last : (xs : List ℕ) → 0 < length xs → ends_solid xs ≡ true → is_blank (slice_index xs (length xs - 1)) ≡ false
solid_last [] some e = absurd (omega arith)
solid_last (b ∷ []) some e = not-true _ e
solid_last (b ∷ (next ∷ rest)) some e =
    let at : suc (length (next ∷ rest) - 1) ≡ length (b ∷ (next ∷ rest)) - 1 = omega arith in
    subst (λ (n : ℕ). is_blank (slice_index (b ∷ (next ∷ rest)) n) ≡ false) at
    (solid_last (next ∷ rest) (omega arith) e)

solid_joined : (xs : List ℕ) (y : ℕ) (ys : List ℕ) → ends_solid (y ∷ ys) ≡ true → ends_solid (xs ++ y ∷ ys) ≡ true
solid_joined [] y ys e = e
solid_joined (b ∷ []) y ys e = e
solid_joined (b ∷ (next ∷ rest)) y ys e = solid_joined (next ∷ rest) y ys e

solid_byte : (b : ℕ) → is_account_name_byte b ≡ true → (b == 32) ≡ false → is_blank b ≡ false
solid_byte b h e = grind (arith, common_steps)

-- a well-formed name has none
solid_name : (name : List ℕ) → list_all is_account_name_byte name ≡ true → has_gap name ≡ false → ends_solid name ≡ true
solid_name [] h g = refl
solid_name (b ∷ []) h g =
    not_from_false _ (solid_byte b (and_parts (is_account_name_byte b) true h).0 (or_parts (b == 32) false g).0)
solid_name (b ∷ (next ∷ rest)) h g =
    solid_name (next ∷ rest) (and_parts (is_account_name_byte b) (list_all is_account_name_byte (next ∷ rest)) h).1
    (or_parts (is_gap b (next ∷ rest)) (has_gap (next ∷ rest)) g).1

no_gaps : (name : List ℕ) → is_account name ≡ true → has_gap name ≡ false
unfolding is_account
no_gaps name h = not-true _ (and_parts _ _ (and_parts _ _ h).0).1

-- what a comment asks of its text
record IsText (xs : List ℕ) : Type 0 where
  clean : list_all is_clean xs ≡ true
  utf8 : is_utf8 xs ≡ true
  solid : ends_solid xs ≡ true

name_text : (name : List ℕ) → is_account_text name ≡ true → IsText name
name_text name h =
    let p = and_parts (is_account name) (is_utf8 name) h in
    let w = account_whole name p.0 in
    record { clean = w.clean; utf8 = p.1; solid = solid_name name w.bytes (no_gaps name p.0) }

ends_solid-cons : (y : ℕ) (xs : List ℕ) → is_blank y ≡ false → ends_solid xs ≡ true → ends_solid (y ∷ xs) ≡ true
ends_solid-cons y [] k e = not_from_false _ k
ends_solid-cons y (x ∷ xs) k e = e

text_joined : (xs : List ℕ) (y : ℕ) (ys : List ℕ) → IsText xs → IsText (y ∷ ys) → IsText (xs ++ y ∷ ys)
text_joined xs y ys h k = record {
  clean = list_all-append is_clean xs (y ∷ ys) ∙ and_from _ _ h.clean k.clean;
  utf8 = utf8_joined xs (y ∷ ys) h.utf8 k.utf8;
  solid = solid_joined xs y ys k.solid;
}

-- a `;` before a text
semicolon_text : (xs : List ℕ) → IsText xs → IsText (59 ∷ xs)
semicolon_text xs h = record {
  clean = and_from _ _ refl h.clean;
  utf8 = utf8_joined (59 ∷ []) xs (utf8_low (59 ∷ []) refl) h.utf8;
  solid = ends_solid-cons 59 xs refl h.solid;
}

more_text : (name : List ℕ) (names : List (List ℕ)) → IsText name → list_all is_account_text names ≡ true
    → IsText (name ++ flat_map (λ (next : List ℕ). 59 ∷ next) names)
more_text name [] h k = subst IsText (sym (append-nil name)) h
more_text name (next ∷ names) h k =
    let p = and_parts (is_account_text next) (list_all is_account_text names) k in
    let rest = more_text next names (name_text next p.0) p.1 in
    text_joined name 59 (next ++ flat_map (λ (other : List ℕ). 59 ∷ other) names) h (semicolon_text _ rest)

list_is_text : (names : List (List ℕ)) → list_all is_account_text names ≡ true → IsText (list_text names)
list_is_text [] h = record { clean = refl; utf8 = utf8_low [] refl; solid = refl }
list_is_text (name ∷ names) h =
    let p = and_parts (is_account_text name) (list_all is_account_text names) h in
    more_text name names (name_text name p.0) p.1

at_most_900 : (n : ℕ) → n ≤ 900 → nat_le n 900 ≡ true
at_most_900 n h = grind (arith, nat_tests)

accounts_note : (names : List (List ℕ)) → list_all is_account_text names ≡ true → length (list_text names) ≤ 880
    → is_note (codes "accounts:" ++ list_text names) ≡ true
unfolding mark_of
accounts_note names h few =
    let t = list_is_text names h in
    let text = codes "accounts:" ++ list_text names in
    let last : ends_solid text ≡ true = colon_first (list_text names) t.solid in
    let trimmed : is_trimmed text ≡ true = and_from _ _ refl (not_from_false _ (solid_last text (omega arith) last)) in
    let short : nat_le (length text) 900 ≡ true = at_most_900 (length text) (omega (arith, few)) in
    and_from _ _ (and_from _ _ (and_from _ _ (and_from _ _ trimmed t.clean) short)
    (utf8_joined (codes "accounts:") (list_text names) (utf8_low (codes "accounts:") refl) t.utf8)) refl
  where
    colon_first : (xs : List ℕ) → ends_solid xs ≡ true → ends_solid (codes "accounts:" ++ xs) ≡ true
    colon_first [] e = refl
    colon_first (x ∷ xs) e = e

into_note : (account : List ℕ) → is_account_text account ≡ true → is_note (codes "into:" ++ account) ≡ true
unfolding mark_of
into_note account h =
    let t = name_text account h in
    let w = account_whole account (and_parts (is_account account) (is_utf8 account) h).0 in
    let text = codes "into:" ++ account in
    let last : ends_solid text ≡ true = colon_first account t.solid in
    let trimmed : is_trimmed text ≡ true = and_from _ _ refl (not_from_false _ (solid_last text (omega arith) last)) in
    let short : nat_le (length text) 900 ≡ true = at_most_900 (length text) (omega (arith, w.short)) in
    and_from _ _ (and_from _ _ (and_from _ _ (and_from _ _ trimmed t.clean) short)
    (utf8_joined (codes "into:") account (utf8_low (codes "into:") refl) t.utf8)) refl
  where
    colon_first : (xs : List ℕ) → ends_solid xs ≡ true → ends_solid (codes "into:" ++ xs) ≡ true
    colon_first [] e = refl
    colon_first (x ∷ xs) e = e

comments_in : (accounts : Option (List (List ℕ))) (into : Option (List ℕ))
    → list_all is_account_text (listed_names accounts) ≡ true → length (list_text (listed_names accounts)) ≤ 880
    → is_account_text (target_in into) ≡ true
    → list_all is_note (accounts_comment accounts ++ into_comment into) ≡ true
comments_in None None h few t = refl
comments_in None (Some account) h few t = and_from _ _ (into_note account t) refl
comments_in (Some names) None h few t = and_from _ _ (accounts_note names h few) refl
comments_in (Some names) (Some account) h few t =
    and_from _ _ (accounts_note names h few) (and_from _ _ (into_note account t) refl)

pub comments_print : (c : Choice) → IsChoice c → list_all is_note (choice_comments c) ≡ true
comments_print c h = comments_in c.accounts c.into h.formed h.short h.target

-- there are at most two
few_comments : (accounts : Option (List (List ℕ))) (into : Option (List ℕ))
    → length (accounts_comment accounts ++ into_comment into) ≤ 2
few_comments None None = omega arith
few_comments None (Some account) = omega arith
few_comments (Some names) None = omega arith
few_comments (Some names) (Some account) = omega arith

pub few_chosen : (c : Choice) → length (choice_comments c) ≤ 2
few_chosen c = few_comments c.accounts c.into

-- ---- how long the list is

-- the bytes of names, each with one more
abbrev pub sizes : List (List ℕ) → ℕ
sizes [] = 0
sizes (name ∷ names) = (length name + 1) + sizes names

more_size : (names : List (List ℕ)) → length (flat_map (λ (next : List ℕ). 59 ∷ next) names) ≡ sizes names
more_size [] = refl
more_size (name ∷ names) =
    omega (arith, length-append (59 ∷ name) (flat_map (λ (next : List ℕ). 59 ∷ next) names), more_size names)

list_size : (name : List ℕ) (names : List (List ℕ)) → length (list_text (name ∷ names)) + 1 ≡ sizes (name ∷ names)
list_size name names =
    omega (arith, length-append name (flat_map (λ (next : List ℕ). 59 ∷ next) names), more_size names)

nat_lt_is_true : (n m : ℕ) → m < n → true ≡ nat_lt m n
nat_lt_is_true n m h = grind (arith, nat_tests)

no_more : (n m : ℕ) → n ≤ m → false ≡ nat_lt m n
no_more n m h = grind (arith, nat_tests)

pub is_long : (names : List (List ℕ)) → 881 < sizes names → true ≡ nat_lt 880 (length (list_text names))
is_long [] h = absurd (omega (arith, h))
is_long (name ∷ names) h =
    nat_lt_is_true (length (list_text (name ∷ names))) 880 (omega (arith, h, list_size name names))

pub is_short : (names : List (List ℕ)) → sizes names ≤ 881 → false ≡ nat_lt 880 (length (list_text names))
is_short [] h = refl
is_short (name ∷ names) h = no_more (length (list_text (name ∷ names))) 880 (omega (arith, h, list_size name names))

drop_text : (names : List (List ℕ)) (i : ℕ) (a : List ℕ) → i < length names → a ≡ get_or names i a
    → drop i names ≡ a ∷ drop (i + 1) names
drop_text names i a h e = drop-cons names i a h ∙ ap (λ (x : List ℕ). x ∷ drop (suc i) names) (sym e) ∙ ap
    (λ (j : ℕ). a ∷ drop j names) (sym (add-one i))

pub size_next : (names : List (List ℕ)) (i : ℕ) (a : List ℕ) → i < length names → a ≡ get_or names i a
    → sizes (drop i names) ≡ (length a + 1) + sizes (drop (i + 1) names)
size_next names i a h e = ap sizes (drop_text names i a h e)

drop_end : (names : List (List ℕ)) (i : ℕ) → length names ≤ i → drop i names ≡ []
drop_end [] zero h = refl
drop_end [] (suc i) h = refl
drop_end (x ∷ xs) zero h = absurd (omega (arith, h))
drop_end (x ∷ xs) (suc i) h = let k : length xs ≤ i = omega (arith, h) in drop_end xs i k

pub size_end : (names : List (List ℕ)) (i : ℕ) → length names ≤ i → sizes (drop i names) ≡ 0
size_end names i h = ap sizes (drop_end names i h)

-- ---- the list, as it is put together

abbrev pub behind_names : List (List ℕ) → List ℕ
behind_names names = flat_map (λ (next : List ℕ). 59 ∷ next) names

-- ---- tests of texts

pub tested_inside : (top text account : List ℕ) (r : Bool) → text ≡ top → Decides r (IsInside text account)
    → r ≡ is_inside top account
tested_inside top text account r e h =
    one_answer r (is_inside top account) (subst (λ (t : List ℕ). Decides r (IsInside t account)) e h)
    (is_inside_decides top account)

pub tested_texts : (xs ys zs : List (List ℕ)) (r : Bool) → Decides r (xs ≡ ys) → ys ≡ zs → r ≡ pointwise bytes_eq xs zs
tested_texts xs ys zs r h e = one_answer r (pointwise bytes_eq xs zs)
    (subst (λ (z : List (List ℕ)). Decides r (xs ≡ z)) e h)
    (slice_eq-Decides bytes_eq-Decides xs zs (pointwise bytes_eq xs zs) refl)

-- ---- without a choice all is as it was

pub default_formed : is_account_text retained_earnings ≡ true
unfolding is_account
default_formed = and_from _ _ refl (utf8_low retained_earnings refl)
