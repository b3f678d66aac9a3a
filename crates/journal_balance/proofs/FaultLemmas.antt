-- what holds of a transaction without a fault
use Rattle.std.proofs.Common.{◌≡◌, Bool, true, false, ◌&&◌, not, ◌<◌, ◌≤◌, refl, ap, ◌∙◌, sym, List, Option, Some, None}
use Rattle.std.proofs.Common.{Result, Ok, Err, ℕ}
use Rattle.std.specs.Prelude.{nat_lt, if◌then◌else◌}
use Rattle.std.specs.Option.{option_or}
use Rattle.std.specs.List.{list_any, count_by}
use Rattle.money_core.specs.declared.style.Style.{Style}
use Rattle.money_core.specs.declared.cause.Cause.{Cause}
use Rattle.money_core.specs.declared.cause.Cause.TheVariants.{TwoBlanks, Unbalanced, Limit}
use Rattle.book_core.specs.declared.entry.Entry.{Entry}
use Rattle.money_core.proofs.AmountPrint.{ok_same}
use Rattle.journal_format.specs.declared.txn.Txn.{Txn}
use Rattle.journal_balance.specs.Legs.{is_without_amount, is_large, is_even, legs_among, cost_fault, balancing_fault}
use Rattle.journal_balance.specs.Legs.{entry_of}
use Rattle.journal_balance.specs.Legs.{entry_unless, balanced_entry}

-- what no fault says: at most one posting without an amount, no faulty cost, values that sum to zero or a posting that
-- takes what is left, no leg over the limit
pub record HasNoFault (styles : List Style) (t : Txn) : Type 0 where
  pub one : nat_lt 1 (count_by is_without_amount t.postings) ≡ false
  pub costs : cost_fault styles t.postings ≡ None
  pub even : (not (list_any is_without_amount t.postings) && not (is_even styles t.postings)) ≡ false
  pub small : list_any is_large (legs_among styles t.postings t.postings) ≡ false

none_not_some : {A : Type 0} {x : A} → Some x ≡ None → ⊥
none_not_some e = absurd cc

in_order : (a b c : Bool) (o : Option Cause) (x y z : Cause)
    → (if a then Some x else option_or o (if b then Some y else if c then Some z else None)) ≡ None
    → (a ≡ false) × (o ≡ None) × (b ≡ false) × (c ≡ false)
in_order true b c o x y z e = absurd (none_not_some e)
in_order false b c (Some w) x y z e = absurd (none_not_some e)
in_order false true c None x y z e = absurd (none_not_some e)
in_order false false true None x y z e = absurd (none_not_some e)
in_order false false false None x y z e = (refl, refl, refl, refl)

pub no_fault : (styles : List Style) (t : Txn) → balancing_fault styles t ≡ None → HasNoFault styles t
unfolding balancing_fault
no_fault styles t e =
    let h = in_order (nat_lt 1 (count_by is_without_amount t.postings))
    (not (list_any is_without_amount t.postings) && not (is_even styles t.postings))
    (list_any is_large (legs_among styles t.postings t.postings)) (cost_fault styles t.postings) TwoBlanks Unbalanced
    Limit e in
    record { one = h.0; costs = h.1; even = h.2; small = h.3 }

-- a transaction with an entry has no fault, and the entry is the one of its postings
pub legs_found : (styles : List Style) (t : Txn) (e : Entry) → balanced_entry styles t ≡ Ok e
    → HasNoFault styles t × (entry_of styles t ≡ e)
unfolding balanced_entry
legs_found styles t e = by_fault (balancing_fault styles t) refl
  where
    by_fault : (o : Option Cause) → balancing_fault styles t ≡ o → entry_unless (entry_of styles t) o ≡ Ok e
        → HasNoFault styles t × (entry_of styles t ≡ e)
    by_fault None f h = (no_fault styles t f, ok_same (Ok (entry_of styles t)) (entry_of styles t) e refl h)
    by_fault (Some cause) f h = absurd cc
