-- The rows of all commodities, once those of one of them are others.
use Rattle.std.proofs.Common.{◌≡◌, ℕ, Bool, true, false, ◌&&◌, nat_eq, List, refl, ap, ◌∙◌, sym, subst, rules}
use Rattle.std.proofs.Common.{arith, ℤ, pos, ◌+ℤ◌}
use Rattle.std.specs.Prelude.{Option, Some, if◌then◌else◌}
use Rattle.std.specs.Option.{option_map_or}
use Rattle.std.specs.Ordering.{nat_cmp}
use Rattle.std.specs.Str.{bytes_eq}
use Rattle.std.specs.BTreeMap.{UpdatesBy, get, is_at}
use Rattle.std.proofs.lemmas.Int.{ints}
use Rattle.std.proofs.lemmas.Bool.Decides.{nat_tests}
use Rattle.std.proofs.lemmas.Slice.Eq.{bytes_eq-Decides}
use Rattle.money_core.specs.declared.unit.Unit.{Unit as Commodity}
use Rattle.money_core.specs.declared.day.Day.{Day}
use Rattle.day_sums.specs.declared.period.Period.{Period}
use Rattle.day_sums.specs.Period.{is_in}
use Rattle.day_sums.specs.declared.sums.DaySums.{DaySums}
use Rattle.day_sums.specs.Row.{Kept, no_row, row_sum, has_number, SameRow, RaisedRow}
use Rattle.day_sums.specs.Sums.{KeptByName, row_at, SameSums, RaisedSums}
use Rattle.day_sums.proofs.RowLemmas.{same_none}

abbrev pub Puts : ℕ → DaySums → DaySums → KeptByName → Type 0
Puts u old new names = UpdatesBy nat_cmp (nat_cmp u) old.units new.units (Some names)

abbrev pub in_names : List ℕ → Option KeptByName → Kept
in_names a o = option_map_or (λ names. row_at names a) o no_row

-- the rows of a commodity, none where it has none
abbrev pub rows_of : DaySums → ℕ → List ℕ → Kept
rows_of s u a = in_names a (get nat_cmp s.units u)

other_unit : (u v : ℕ) → nat_eq u v ≡ false → is_at (nat_cmp u) v ≡ false
other_unit u v h = search rules

unit_own : (u : ℕ) (old new : DaySums) (names : KeptByName) → Puts u old new names → (a : List ℕ)
    → rows_of new u a ≡ row_at names a
unit_own u old new names h a = ap (in_names a) h.1

unit_other : (u : ℕ) (old new : DaySums) (names : KeptByName) → Puts u old new names → (v : ℕ) → nat_eq u v ≡ false
    → (a : List ℕ) → rows_of new v a ≡ rows_of old v a
unit_other u old new names h v e a = ap (in_names a) (h.2 v (other_unit u v e))

same_number : (u v : ℕ) → nat_eq u v ≡ true → u ≡ v
same_number u v h = grind (arith, nat_tests)

-- the rows of one commodity sum to the same
pub same_sums : (u : ℕ) (old new : DaySums) (names : KeptByName) → Puts u old new names
    → ((a : List ℕ) → SameRow (rows_of old u a) (row_at names a)) → SameSums old new
same_sums u old new names h same = record { sums = λ a v. (rows a v.0).sums; opened = λ a v. (rows a v.0).opened }
  where
    rows : (a : List ℕ) (v : ℕ) → SameRow (rows_of old v a) (rows_of new v a)
    rows a v = by_test (nat_eq u v) refl
      where
        by_test : (t : Bool) → nat_eq u v ≡ t → SameRow (rows_of old v a) (rows_of new v a)
        by_test true e = subst (λ (w : ℕ). SameRow (rows_of old w a) (rows_of new w a)) (same_number u v e)
            (subst (SameRow (rows_of old u a)) (sym (unit_own u old new names h a)) (same a))
        by_test false e = subst (SameRow (rows_of old v a)) (sym (unit_other u old new names h v e a)) (same_none _)

no_more : (z : ℤ) → z ≡ z +ℤ pos 0
no_more z = omega (arith, ints)

-- one row of one commodity is raised
pub raised_sums : (account : List ℕ) (unit : Commodity) (day : Day) (n : ℕ) (q : ℤ) (old new : DaySums)
    (names : KeptByName)
    → Puts unit.0 old new names → RaisedRow day n q (rows_of old unit.0 account) (row_at names account) →
    ((a : List ℕ) → bytes_eq account a ≡ false → row_at names a ≡ rows_of old unit.0 a)
    → RaisedSums account unit day n q old new
raised_sums account unit day n q old new names h own others =
    record { sums = λ a v. sums a v.0; opened = λ a v. opened a v.0 }
  where
    own' : RaisedRow day n q (rows_of old unit.0 account) (rows_of new unit.0 account)
    own' = subst (RaisedRow day n q (rows_of old unit.0 account)) (sym (unit_own unit.0 old new names h account)) own

    other_row : (a : List ℕ) (v : ℕ) → (nat_eq unit.0 v && bytes_eq account a) ≡ false
        → rows_of new v a ≡ rows_of old v a
    other_row a v e = by_unit (nat_eq unit.0 v) refl e
      where
        by_unit : (t : Bool) → nat_eq unit.0 v ≡ t → (t && bytes_eq account a) ≡ false
            → rows_of new v a ≡ rows_of old v a
        by_unit true f g = subst (λ (w : ℕ). rows_of new w a ≡ rows_of old w a) (same_number unit.0 v f)
            (unit_own unit.0 old new names h a ∙ others a g)
        by_unit false f g = unit_other unit.0 old new names h v f a

    this_row : (a : List ℕ) (v : ℕ) → (nat_eq unit.0 v && bytes_eq account a) ≡ true
        → RaisedRow day n q (rows_of old v a) (rows_of new v a)
    this_row a v e = let p = parts (nat_eq unit.0 v) (bytes_eq account a) e in subst
        (λ (w : ℕ). RaisedRow day n q (rows_of old w a) (rows_of new w a)) (same_number unit.0 v p.0)
        (subst (λ (b : List ℕ). RaisedRow day n q (rows_of old unit.0 b) (rows_of new unit.0 b))
        ((bytes_eq-Decides account a).0 p.1) own')
      where
        parts : (s t : Bool) → (s && t) ≡ true → (s ≡ true) × (t ≡ true)
        parts true t f = (refl, f)
        parts false t f = absurd (cc)

    sums : (a : List ℕ) (v : ℕ) (p : Period)
        → row_sum (rows_of new v a) p
        ≡ row_sum (rows_of old v a) p +ℤ (if (nat_eq unit.0 v && bytes_eq account a) && is_in p day n then q else pos 0)
    sums a v p = by_test (nat_eq unit.0 v && bytes_eq account a) refl
      where
        by_test : (t : Bool) → (nat_eq unit.0 v && bytes_eq account a) ≡ t
            → row_sum (rows_of new v a) p ≡ row_sum (rows_of old v a) p +ℤ (if t && is_in p day n then q else pos 0)
        by_test true e = (this_row a v e).sums p
        by_test false e = ap (λ (r : Kept). row_sum r p) (other_row a v e) ∙ no_more (row_sum (rows_of old v a) p)

    opened : (a : List ℕ) (v : ℕ) (d : Day) (k : ℕ) → has_number (rows_of old v a) d k ≡ true
        → has_number (rows_of new v a) d k ≡ true
    opened a v d k w = by_test (nat_eq unit.0 v && bytes_eq account a) refl
      where
        by_test : (t : Bool) → (nat_eq unit.0 v && bytes_eq account a) ≡ t → has_number (rows_of new v a) d k ≡ true
        by_test true e = (this_row a v e).opened d k w
        by_test false e = ap (λ (r : Kept). has_number r d k) (other_row a v e) ∙ w
