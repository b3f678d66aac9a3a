-- Rows by the bytes of a name, once one of them is another.
use Rattle.std.proofs.Common.{◌≡◌, ℕ, Bool, true, false, List, refl, ap, ◌∙◌, sym, subst, Vec, Global}
use Rattle.std.specs.Prelude.{Option, Some}
use Rattle.std.specs.Option.{unwrap_or}
use Rattle.std.specs.declared.cmp.Ordering.{Ordering}
use Rattle.std.specs.Ordering.{is_eq, nat_cmp}
use Rattle.std.specs.Cmp.{eq_by_cmp_equiv}
use Rattle.std.specs.Cmp.Lexicographic.{slice_cmp, nat_list_cmp_total, nat_list_eq_equiv}
use Rattle.std.specs.Str.{bytes_eq}
use Rattle.std.specs.BTreeMap.{BTreeMap, UpdatesBy, get_by}
use Rattle.std.specs.HashMap as hash
use Rattle.std.specs.Map.{lookup, IsKeyTest, AreApart, KeepsOthers}
use Rattle.std.proofs.lemmas.Map.Text.{is_eq-slice_cmp}
use Rattle.std.proofs.lemmas.Slice.Eq.{bytes_eq-Decides}
use Rattle.money_core.proofs.BytesLemmas.{third_bytes}
use Rattle.day_sums.specs.Row.{Kept, no_row, SameRow}
use Rattle.day_sums.specs.Sums.{KeptByName, row_at}
use Rattle.day_sums.proofs.RowLemmas.{same_none}

other_entries : {K X : Type 0} (eq : K → K → Bool) (test : K → Bool) (old new : List (K × X))
    → KeepsOthers eq test old new → (other : K → Bool) → IsKeyTest eq other → AreApart test other
    → lookup other new ≡ lookup other old
unfolding KeepsOthers
other_entries eq test old new h = h

cmp_other_bytes : (bs cs ks : List ℕ) → bytes_eq bs cs ≡ false → is_eq (slice_cmp nat_cmp bs ks) ≡ true
    → is_eq (slice_cmp nat_cmp cs ks) ≡ false
cmp_other_bytes bs cs ks n y = is_eq-slice_cmp cs ks ∙ nat_list_eq_equiv.symm cs ks ∙ sym
    (nat_list_eq_equiv.congr bs ks cs (sym (is_eq-slice_cmp bs ks) ∙ y)) ∙ n

abbrev pub vec_cmp : Vec ℕ Global → Vec ℕ Global → Ordering
vec_cmp x y = slice_cmp nat_cmp x.items y.items

-- what stands under a name
abbrev pub under : {V : Type 0} → List ℕ → BTreeMap (Vec ℕ Global) V → Option V
under name m = get_by (λ k. slice_cmp nat_cmp name k.items) m

abbrev pub Puts : {V : Type 0} → List ℕ → BTreeMap (Vec ℕ Global) V → BTreeMap (Vec ℕ Global) V → V → Type 0
Puts name m n v = UpdatesBy vec_cmp (λ (k : Vec ℕ Global). slice_cmp nat_cmp name k.items) m n (Some v)

-- under another name stands what stood there
pub under_other : {V : Type 0} (name : List ℕ) (m n : BTreeMap (Vec ℕ Global) V) (v : V) → Puts name m n v
    → (a : List ℕ) → bytes_eq name a ≡ false → under a n ≡ under a m
under_other name m n v h a e = other_entries _ _ _ _ h.3 _
    (λ x y. (eq_by_cmp_equiv nat_list_cmp_total).congr a x.items y.items) (λ k. cmp_other_bytes name a k.items e)

-- ---- rows by name

abbrev pub vec_eq : Vec ℕ Global → Vec ℕ Global → Bool
vec_eq x y = bytes_eq x.items y.items

abbrev pub Writes : List ℕ → KeptByName → KeptByName → Kept → Type 0
Writes name m n r = hash.UpdatesBy vec_eq (λ (k : Vec ℕ Global). bytes_eq name k.items) m n (Some r)

abbrev pub in_row : Option Kept → Kept
in_row o = unwrap_or o no_row

-- the name has its row
pub row_own : (name : List ℕ) (m n : KeptByName) (r : Kept) → Writes name m n r → row_at n name ≡ r
row_own name m n r h = ap in_row h.1

-- another name has the row that it had
pub row_other : (name : List ℕ) (m n : KeptByName) (r : Kept) → Writes name m n r → (a : List ℕ)
    → bytes_eq name a ≡ false → row_at n a ≡ row_at m a
row_other name m n r h a e = ap in_row
    (other_entries _ _ _ _ h.3 _ (λ x y. nat_list_eq_equiv.congr a x.items y.items)
    (λ k. third_bytes name a k.items e))

pub same_rows : (name : List ℕ) (m n : KeptByName) (r : Kept) → Writes name m n r → SameRow (row_at m name) r
    → (a : List ℕ) → SameRow (row_at m a) (row_at n a)
same_rows name m n r h same a = by_test (bytes_eq name a) refl
  where
    by_test : (t : Bool) → bytes_eq name a ≡ t → SameRow (row_at m a) (row_at n a)
    by_test true e = subst (λ (b : List ℕ). SameRow (row_at m b) (row_at n b)) ((bytes_eq-Decides name a).0 e)
        (subst (SameRow (row_at m name)) (sym (row_own name m n r h)) same)
    by_test false e = subst (SameRow (row_at m a)) (sym (row_other name m n r h a e)) (same_none _)
