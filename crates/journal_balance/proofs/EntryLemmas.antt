-- the entry of a transaction is fit, and within the limit
use Rattle.std.proofs.Common.{◌≡◌, ◌≤◌, Bool, true, false, ◌||◌, List, [], ◌∷◌, refl, ap, ◌∙◌, sym, subst, Ok, ℕ, ◌+◌}
use Rattle.std.proofs.Common.{arith}
use Rattle.std.specs.Prelude.{unsigned_abs, nat_lt}
use Rattle.std.specs.List.{list_any, list_all, AllByRecursion}
use Rattle.std.proofs.lemmas.Bool.{or_parts, ltb-false}
use Rattle.money_core.specs.declared.style.Style.{Style}
use Rattle.money_core.specs.Amount.{limit}
use Rattle.book_core.specs.declared.leg.Leg.{Leg}
use Rattle.book_core.specs.declared.entry.Entry.{Entry}
use Rattle.book_core.specs.declared.claim.Placed.{Placed}
use Rattle.book_core.specs.GoodBook.{IsFit}
use Rattle.journal_format.specs.declared.txn.Txn.{Txn}
use Rattle.journal_format.specs.Printable.{is_posting}
use Rattle.journal_balance.specs.Legs.{is_large, legs_among, claims_among, entry_of, balanced_entry}
use Rattle.journal_balance.proofs.FaultLemmas.{HasNoFault, legs_found}
use Rattle.journal_balance.proofs.ValueLemmas.{legs_balanced}
use Rattle.journal_balance.proofs.ClaimLemmas.{IsBetween, claims_apart}

all_small : (xs : List Leg) → list_any is_large xs ≡ false → AllByRecursion (λ (x : Leg). unsigned_abs x.qty ≤ limit) xs
all_small [] h = tt
all_small (x ∷ xs) h = let parts =
    or_parts (is_large x) (list_any is_large xs) h in
    (ltb-false limit (unsigned_abs x.qty) parts.0, all_small xs parts.1)

on_legs : (n : ℕ) (xs : List Placed) → AllByRecursion (IsBetween 1 (1 + n)) xs
    → AllByRecursion (λ (x : Placed). (1 ≤ x.leg) × (x.leg ≤ n)) xs
on_legs n [] h = tt
on_legs n (x ∷ xs) h = ((h.0.0, omega (arith, h.0.1)), on_legs n xs h.1)

pub entry_fit : (styles : List Style) (t : Txn) (e : Entry) → list_all (is_posting styles) t.postings ≡ true
    → balanced_entry styles t ≡ Ok e → IsFit e
entry_fit styles t e ok h =
    let found = legs_found styles t e h in
    let apart = claims_apart styles t.postings 1 t.postings ok in
    subst IsFit found.1 (record {
      balanced = legs_balanced styles t.postings ok found.0.one found.0.even;
      on_legs = on_legs _ _ apart.0;
      apart = apart.1;
    })

pub entry_small : (styles : List Style) (t : Txn) (e : Entry) → balanced_entry styles t ≡ Ok e
    → AllByRecursion (λ (x : Leg). unsigned_abs x.qty ≤ limit) e.legs
entry_small styles t e h =
    let found = legs_found styles t e h in
    subst (λ (x : Entry). AllByRecursion (λ (y : Leg). unsigned_abs y.qty ≤ limit) x.legs) found.1
    (all_small _ found.0.small)

pub entry_day : (styles : List Style) (t : Txn) (e : Entry) → balanced_entry styles t ≡ Ok e → e.day ≡ t.day
entry_day styles t e h = let found = legs_found styles t e h in ap (λ (x : Entry). x.day) (sym found.1)
