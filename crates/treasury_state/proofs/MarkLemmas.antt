-- marks of receipts: which transfer and which key they are of
use Rattle.std.proofs.Common.{◌≡◌, ◌∙◌, ℕ, Bool, true, false, ◌&&◌, ◌||◌, nat_eq, List, [], ◌∷◌, ◌++◌, refl, sym, ap}
use Rattle.std.proofs.Common.{append-nil, true≢false, Option, Some, None, arith}
use Rattle.std.specs.Prelude.{not, ⊤}
use Rattle.std.specs.List.{list_all, list_any, AllByRecursion}
use Rattle.std.specs.Str.{bytes_eq}
use Rattle.std.specs.Ordering.{is_eq}
use Rattle.std.specs.declared.cmp.Ordering.TheVariants.{Less}
use Rattle.std.proofs.lemmas.Bool.{and_parts, or_parts}
use Rattle.std.proofs.lemmas.Bool.Decides.{nat_tests}
use Rattle.std.proofs.lemmas.Map.Text.{is_eq-slice_cmp}
use Rattle.std.proofs.lemmas.Slice.Eq.{bytes_eq-Decides}
use Rattle.money_core.proofs.BytesLemmas.{same_bytes, other_bytes}
use Rattle.book_core.specs.Account.{name_cmp}
use Rattle.treasury_state.specs.declared.transfer.Part.{Part}
use Rattle.treasury_state.specs.declared.transfer.Receipt.{Receipt}
use Rattle.treasury_state.specs.declared.transfer.Transfer.{Transfer}
use Rattle.treasury_state.specs.Transfer.{is_id_byte, is_id, all_key, is_all, is_key, of_rest, receipts_of, mark_tail}
use Rattle.treasury_state.specs.Transfer.{in_mark}
use Rattle.treasury_state.specs.Good.{AreKeyed, HasGoodParts}
use Rattle.treasury_state.specs.Fair.{HasNoColon}

-- two names round a colon
colon_first : (c : ℕ) (b : Bool) → nat_eq c 58 ≡ false → (nat_eq 58 c && b) ≡ false
colon_first c b e = let f : nat_eq 58 c ≡ false = grind (arith, nat_tests) in ap (λ (x : Bool). x && b) f

first_too : (b p q r : Bool) → p ≡ (q && r) → (b && p) ≡ ((b && q) && r)
first_too true p q r i = i
first_too false p q r i = refl

pub pair_eq : (s f x t : List ℕ) → HasNoColon s → HasNoColon f
    → bytes_eq (s ++ 58 ∷ x) (f ++ 58 ∷ t) ≡ (bytes_eq s f && bytes_eq x t)
pair_eq [] [] x t h k = refl
pair_eq [] (c ∷ cs) x t h k = colon_first c (bytes_eq x (cs ++ 58 ∷ t)) k.0
pair_eq (c ∷ cs) [] x t h k = ap (λ (b : Bool). b && bytes_eq (cs ++ 58 ∷ x) t) h.0
pair_eq (c ∷ cs) (e ∷ es) x t h k = first_too (nat_eq c e) _ _ _ (pair_eq cs es x t h.1 k.1)

-- ---- an ID has no colon

no_colon_byte : (c : ℕ) → is_id_byte c ≡ true → nat_eq c 58 ≡ false
no_colon_byte c h = by_test (nat_eq c 58) refl
  where
    by_test : (b : Bool) → nat_eq c 58 ≡ b → b ≡ false
    by_test true e = let same : c ≡ 58 = grind (arith, nat_tests) in absurd (true≢false (sym h ∙ ap is_id_byte same))
    by_test false e = refl

no_colon_in : (id : List ℕ) → list_all is_id_byte id ≡ true → HasNoColon id
no_colon_in [] h = tt
no_colon_in (c ∷ cs) h =
    let parts = and_parts (is_id_byte c) (list_all is_id_byte cs) h in (no_colon_byte c parts.0, no_colon_in cs parts.1)

pub id_no_colon : (id : List ℕ) → is_id id ≡ true → HasNoColon id
id_no_colon id h = no_colon_in id (and_parts _ (list_all is_id_byte id) h).1

-- ---- a mark is of one transfer and of one key

-- a text without a colon is none with one
no_colon_other : (s f x : List ℕ) → HasNoColon s → bytes_eq s (f ++ 58 ∷ x) ≡ false
no_colon_other [] [] x h = refl
no_colon_other [] (c ∷ cs) x h = refl
no_colon_other (c ∷ cs) [] x h = ap (λ (b : Bool). b && bytes_eq cs x) h.0
no_colon_other (c ∷ cs) (e ∷ es) x h =
    ap (λ (b : Bool). nat_eq c e && b) (no_colon_other cs es x h.1) ∙ and_false (nat_eq c e)
  where
    and_false : (b : Bool) → (b && false) ≡ false
    and_false true = refl
    and_false false = refl

other_no_colon : (s f x : List ℕ) → HasNoColon f → bytes_eq (s ++ 58 ∷ x) f ≡ false
other_no_colon [] [] x h = refl
other_no_colon (c ∷ cs) [] x h = refl
other_no_colon [] (c ∷ cs) x h = ap (λ (b : Bool). b && bytes_eq x cs) (flipped c h.0)
  where
    flipped : (c : ℕ) → nat_eq c 58 ≡ false → nat_eq 58 c ≡ false
    flipped c e = grind (arith, nat_tests)
other_no_colon (c ∷ cs) (e ∷ es) x h =
    ap (λ (b : Bool). nat_eq c e && b) (other_no_colon cs es x h.1) ∙ and_false (nat_eq c e)
  where
    and_false : (b : Bool) → (b && false) ≡ false
    and_false true = refl
    and_false false = refl

pub and_never : (b c : Bool) → c ≡ false → (b && c) ≡ false
and_never true c e = e
and_never false c e = refl

and_always : (b c : Bool) → c ≡ true → (b && c) ≡ b
and_always true c e = e
and_always false c e = refl

-- the keys, by whether each is `all`
keys_same : (k l : List ℕ) → is_all k ≡ true → is_all l ≡ true → bytes_eq k l ≡ true
keys_same k l e f = (bytes_eq-Decides k l).1 (same_bytes k all_key e ∙ sym (same_bytes l all_key f))

keys_differ : (k l : List ℕ) (a b : Bool) → is_all k ≡ a → is_all l ≡ b → (a ≡ true → b ≡ true → ⊥)
    → (a ≡ false → b ≡ false → ⊥) → bytes_eq k l ≡ false
keys_differ k l a b e f no_both no_none = by_test (bytes_eq k l) refl
  where
    by_test : (t : Bool) → bytes_eq k l ≡ t → t ≡ false
    by_test false g = refl
    by_test true g = absurd (by_both a b (sym e ∙ (ap is_all (same_bytes k l g) ∙ f)) no_both no_none)
      where
        by_both : (a b : Bool) → a ≡ b → (a ≡ true → b ≡ true → ⊥) → (a ≡ false → b ≡ false → ⊥) → ⊥
        by_both true true same x y = x refl refl
        by_both false false same x y = y refl refl
        by_both true false same x y = absurd cc
        by_both false true same x y = absurd cc

bytes_eq_mark_tails : (id other k l : List ℕ) (a b : Bool) → is_all k ≡ a → is_all l ≡ b → HasNoColon id
    → HasNoColon other → bytes_eq (id ++ mark_tail a k) (other ++ mark_tail b l) ≡ (bytes_eq id other && bytes_eq k l)
bytes_eq_mark_tails id other k l true true e f h g =
    ap (λ (x : List ℕ). bytes_eq x (other ++ [])) (append-nil id) ∙
    (ap (bytes_eq id) (append-nil other) ∙ sym (and_always (bytes_eq id other) (bytes_eq k l) (keys_same k l e f)))
bytes_eq_mark_tails id other k l true false e f h g =
    ap (λ (x : List ℕ). bytes_eq x (other ++ 58 ∷ l)) (append-nil id)
    ∙ (no_colon_other id other l h ∙ sym
    (and_never (bytes_eq id other) (bytes_eq k l)
    (keys_differ k l true false e f (λ x y. absurd cc) (λ x y. absurd cc))))
bytes_eq_mark_tails id other k l false true e f h g =
    ap (bytes_eq (id ++ 58 ∷ k)) (append-nil other)
    ∙ (other_no_colon id other k g ∙ sym
    (and_never (bytes_eq id other) (bytes_eq k l)
    (keys_differ k l false true e f (λ x y. absurd cc) (λ x y. absurd cc))))
bytes_eq_mark_tails id other k l false false e f h g = pair_eq id other k l h g

-- two marks of receipts are the same only where ID and key are
pub mark_eq : (id other k l : List ℕ) → HasNoColon id → HasNoColon other
    → bytes_eq (in_mark id k) (in_mark other l) ≡ (bytes_eq id other && bytes_eq k l)
mark_eq id other k l h g = bytes_eq_mark_tails id other k l (is_all k) (is_all l) refl refl h g

-- ---- keys in order, and `all` after them, are of their own

-- no two receipts have the same key
abbrev pub HaveOwnKeys : List Part → Type 0
HaveOwnKeys [] = ⊤
HaveOwnKeys (p ∷ ps) = (list_any (λ (x : Part). bytes_eq x.key p.key) ps ≡ false) × HaveOwnKeys ps

other_than : (a b : List ℕ) → name_cmp a b ≡ Less → bytes_eq b a ≡ false
other_than a b h = other_bytes a b (sym (is_eq-slice_cmp a b) ∙ ap is_eq h)

behind_others : (key : List ℕ) (ps : List Part) → AllByRecursion (λ (x : Part). name_cmp key x.key ≡ Less) ps
    → list_any (λ (x : Part). bytes_eq x.key key) ps ≡ false
behind_others key [] h = refl
behind_others key (p ∷ ps) h = ap (λ (b : Bool). b || list_any (λ (x : Part). bytes_eq x.key key) ps)
    (other_than key p.key h.0) ∙ behind_others key ps h.1

any_append : (key : List ℕ) (ps qs : List Part) → list_any (λ (x : Part). bytes_eq x.key key) ps ≡ false
    → list_any (λ (x : Part). bytes_eq x.key key) qs ≡ false
    → list_any (λ (x : Part). bytes_eq x.key key) (ps ++ qs) ≡ false
any_append key [] qs e f = f
any_append key (p ∷ ps) qs e f =
    let n = or_parts (bytes_eq p.key key) (list_any (λ (x : Part). bytes_eq x.key key) ps) e in
    ap (λ (b : Bool). b || list_any (λ (x : Part). bytes_eq x.key key) (ps ++ qs)) n.0 ∙ any_append key ps qs n.1 f

-- the key of a part is not `all`
pub not_all : (key : List ℕ) → is_key key ≡ true → is_all key ≡ false
not_all key h = by_test (is_all key) ((and_parts _ _ h).1)
  where
    by_test : (b : Bool) → not b ≡ true → b ≡ false
    by_test true e = absurd cc
    by_test false e = refl

rest_apart : (t : Transfer) (key : List ℕ) → is_all key ≡ false → (o : Option Receipt)
    → list_any (λ (x : Part). bytes_eq x.key key) (of_rest t o) ≡ false
rest_apart t key e None = refl
rest_apart t key e (Some r) = ap (λ (b : Bool). b || false) (other_bytes key all_key e)

rest_own : (t : Transfer) (o : Option Receipt) → HaveOwnKeys (of_rest t o)
rest_own t None = tt
rest_own t (Some r) = (refl, tt)

own_keys_in : (t : Transfer) (ps : List Part) → AllByRecursion (λ (p : Part). is_key p.key ≡ true) ps → AreKeyed ps
    → HaveOwnKeys (ps ++ of_rest t t.receipt)
own_keys_in t [] are keyed = rest_own t t.receipt
own_keys_in t (p ∷ ps) are keyed = (
  any_append p.key ps (of_rest t t.receipt) (behind_others p.key ps keyed.0)
      (rest_apart t p.key (not_all p.key are.0) t.receipt),
  own_keys_in t ps are.1 keyed.1,
)

pub own_keys : (t : Transfer) → HasGoodParts t → HaveOwnKeys (receipts_of t)
own_keys t good = own_keys_in t t.parts good.keys good.keyed

-- none of the parts is under `all`
pub none_all : (ps : List Part) → AllByRecursion (λ (p : Part). is_key p.key ≡ true) ps
    → list_any (λ (x : Part). bytes_eq x.key all_key) ps ≡ false
none_all [] h = refl
none_all (p ∷ ps) h =
    ap (λ (b : Bool). b || list_any (λ (x : Part). bytes_eq x.key all_key) ps) (not_all p.key h.0) ∙ none_all ps h.1
