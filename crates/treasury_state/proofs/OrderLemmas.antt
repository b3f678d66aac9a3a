-- transfers in byte order of their IDs
use Rattle.std.proofs.Common.{◌≡◌, ℕ, Bool, true, false, List, [], ◌∷◌, refl, ap, ◌∙◌, sym}
use Rattle.std.specs.Prelude.{if◌then◌else◌}
use Rattle.std.specs.Ordering.{is_lt, is_eq}
use Rattle.std.specs.declared.cmp.Ordering.TheVariants.{Less}
use Rattle.std.specs.List.{list_any, AllByRecursion}
use Rattle.std.specs.Str.{bytes_eq}
use Rattle.std.proofs.lemmas.Map.Text.{is_eq-slice_cmp}
use Rattle.money_core.proofs.BytesLemmas.{other_bytes}
use Rattle.book_core.specs.Account.{name_cmp}
use Rattle.book_core.proofs.AccountListLemmas.{names_total}
use Rattle.treasury_state.specs.declared.transfer.Transfer.{Transfer}
use Rattle.treasury_state.specs.declared.transfer.Part.{Part}
use Rattle.treasury_state.specs.Transfer.{has_id}
use Rattle.treasury_state.specs.Joined.{inserted, received, with_receipt}
use Rattle.treasury_state.specs.Good.{AreAscending}
use Rattle.treasury_state.proofs.AskedLemmas.{HaveOwnIds}

-- after the ID
abbrev pub AreBehind : List ℕ → List Transfer → Type 0
AreBehind id ts = AllByRecursion (λ (x : Transfer). name_cmp id x.id ≡ Less) ts

-- a smaller name is another
pub other_than : (a b : List ℕ) → name_cmp a b ≡ Less → bytes_eq b a ≡ false
other_than a b h = other_bytes a b (sym (is_eq-slice_cmp a b) ∙ ap is_eq h)

pub none_like : (id : List ℕ) (ts : List Transfer) → AreBehind id ts → list_any (has_id id) ts ≡ false
none_like id [] h = refl
none_like id (t ∷ ts) h = rw (other_than id t.id h.0, none_like id ts h.1) refl

-- in order, no ID stands twice
pub own_ids : (ts : List Transfer) → AreAscending ts → HaveOwnIds ts
own_ids [] h = tt
own_ids (t ∷ ts) h = (none_like t.id ts h.0, own_ids ts h.1)

-- one more
pub all_after : (a b : List ℕ) (ts : List Transfer) → name_cmp a b ≡ Less → AreBehind b ts → AreBehind a ts
all_after a b [] e h = tt
all_after a b (x ∷ xs) e h = (names_total.trans a b x.id e h.0, all_after a b xs e h.1)

pub not_less : (a b : List ℕ) → is_lt (name_cmp a b) ≡ false → name_cmp a b ≡ Less → ⊥
not_less a b e h = let k : true ≡ false = sym (ap is_lt h) ∙ e in cc

-- and back: without the new transfer, or without the receipt, they are in order too
behind_one : (id : List ℕ) (t : Transfer) (ts : List Transfer) → AreBehind id (inserted t ts) → AreBehind id ts
behind_one id t [] h = tt
behind_one id t (x ∷ xs) h = by_order (is_lt (name_cmp x.id t.id)) (behind_one id t xs) h
  where
    by_order : (c : Bool) → (AreBehind id (inserted t xs) → AreBehind id xs)
        → AreBehind id (if c then x ∷ inserted t xs else t ∷ x ∷ xs) → AreBehind id (x ∷ xs)
    by_order true k h = (h.0, k h.1)
    by_order false k h = h.1

uninserted_at : (t x : Transfer) (xs : List Transfer) (c : Bool) → (AreAscending (inserted t xs) → AreAscending xs)
    → AreAscending (if c then x ∷ inserted t xs else t ∷ x ∷ xs) → AreAscending (x ∷ xs)
uninserted_at t x xs true k h = (behind_one x.id t xs h.0, k h.1)
uninserted_at t x xs false k h = h.1

pub ascending_before_insert : (t : Transfer) (ts : List Transfer) → AreAscending (inserted t ts) → AreAscending ts
ascending_before_insert t [] h = tt
ascending_before_insert t (x ∷ xs) h =
    uninserted_at t x xs (is_lt (name_cmp x.id t.id)) (ascending_before_insert t xs) h

behind_open : (id of : List ℕ) (r : Part) (ts : List Transfer) → AreBehind id (received of r ts) → AreBehind id ts
behind_open id of r [] h = tt
behind_open id of r (x ∷ xs) h = by_test (bytes_eq x.id of) (behind_open id of r xs) h
  where
    by_test : (c : Bool) → (AreBehind id (received of r xs) → AreBehind id xs)
        → AreBehind id (if c then with_receipt r x ∷ xs else x ∷ received of r xs) → AreBehind id (x ∷ xs)
    by_test true k h = h
    by_test false k h = (h.0, k h.1)

unreceived_at : (id : List ℕ) (r : Part) (x : Transfer) (xs : List Transfer) (c : Bool)
    → (AreAscending (received id r xs) → AreAscending xs)
    → AreAscending (if c then with_receipt r x ∷ xs else x ∷ received id r xs) → AreAscending (x ∷ xs)
unreceived_at id r x xs true k h = h
unreceived_at id r x xs false k h = (behind_open x.id id r xs h.0, k h.1)

pub ascending_before_receipt : (id : List ℕ) (r : Part) (ts : List Transfer) → AreAscending (received id r ts)
    → AreAscending ts
ascending_before_receipt id r [] h = tt
ascending_before_receipt id r (x ∷ xs) h =
    unreceived_at id r x xs (bytes_eq x.id id) (ascending_before_receipt id r xs) h
