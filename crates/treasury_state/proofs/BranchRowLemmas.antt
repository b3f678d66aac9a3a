-- the rows of a branch's entries are of it alone
use Rattle.std.proofs.Common.{◌≡◌, ◌<◌, ◌+◌, ℕ, pos, List, [], ◌∷◌, refl, ap, arith, ℤ}
use Rattle.std.specs.List.{AllByRecursion}
use Rattle.money_core.specs.declared.day.Day.{Day}
use Rattle.money_core.specs.declared.style.Style.{Style}
use Rattle.money_core.proofs.ListLemmas.{all-append}
use Rattle.treasury_state.specs.declared.record.Record.{Record}
use Rattle.treasury_state.specs.declared.rows.EntryRow.{EntryRow}
use Rattle.treasury_state.specs.Federation.{Branch}
use Rattle.treasury_state.specs.Good.{IsGoodRecord}
use Rattle.treasury_state.specs.Rows.{entry_rows_from, entry_rows_in}

-- the rows of a branch stand before those of the next ones
pub own_rows : (styles : List Style) (b n : ℕ) (rs : List Record)
    → AllByRecursion (λ (r : EntryRow). r.branch ≡ pos b) (entry_rows_from styles b n rs)
own_rows styles b n [] = tt
own_rows styles b n (r ∷ rs) = (refl, own_rows styles b (n + 1) rs)

not_own : (styles : List Style) (b k n : ℕ) (rs : List Record) → b < k
    → AllByRecursion (λ (r : EntryRow). r.branch ≡ pos b → ⊥) (entry_rows_from styles k n rs)
not_own styles b k n [] h = tt
not_own styles b k n (r ∷ rs) h = (λ e. let s : k ≡ b = cc in omega arith, not_own styles b k (n + 1) rs h)

pub other_rows : (styles : List Style) (b k : ℕ) (bs : List Branch) → b < k
    → AllByRecursion (λ (r : EntryRow). r.branch ≡ pos b → ⊥) (entry_rows_in styles k bs)
other_rows styles b k [] h = tt
other_rows styles b k (x ∷ bs) h =
    all-append (λ (r : EntryRow). r.branch ≡ pos b → ⊥) (entry_rows_from styles k 1 x.records)
    (entry_rows_in styles (k + 1) bs) (not_own styles b k 1 x.records h)
    (other_rows styles b (k + 1) bs (omega arith))

pub same_day : (c d : Day) → c.0 ≡ d.0 → c ≡ d
same_day c d e = ap (λ (z : ℤ). let x : Day = record { 0 = z } in x) e

-- branches of good records
abbrev pub AreGood : List Style → List Branch → Type 0
AreGood styles bs = AllByRecursion (λ (b : Branch). AllByRecursion (IsGoodRecord styles) b.records) bs
