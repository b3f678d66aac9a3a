-- sums and faults of postings: one more posting
use Rattle.std.proofs.Common.{◌≡◌, ℕ, ◌+◌, ◌-◌, ◌<◌, ◌≤◌, List, [], ◌∷◌, ◌++◌, ◌||◌, length, drop, get_or, ℤ, pos, ◌+ℤ◌}
use Rattle.std.proofs.Common.{refl, ap, ◌∙◌, suc, zero, Option, arith}
use Rattle.std.specs.Option.{option_or}
use Rattle.std.specs.List.{list_any}
use Rattle.std.proofs.lemmas.List.Folds.{list_any-append}
use Rattle.money_core.specs.declared.style.Style.{Style}
use Rattle.money_core.specs.declared.unit.Unit.{Unit as Commodity}
use Rattle.money_core.specs.declared.cause.Cause.{Cause}
use Rattle.money_core.proofs.ListLemmas.{drop_at}
use Rattle.journal_format.specs.declared.posting.Posting.{Posting}
use Rattle.journal_balance.specs.Legs.{commodities, posting_legs, legs_among, placed, claims_among, is_large, value_of}
use Rattle.journal_balance.specs.Legs.{sum_of, cost_fault_of, cost_fault}

pub sum_of-drop : (styles : List Style) (unit : Commodity) (ps : List Posting) (i : ℕ) (p : Posting) → i < length ps
    → p ≡ get_or ps i p →
    sum_of styles unit (drop i ps) ≡ value_of styles unit p.amount p.price +ℤ sum_of styles unit (drop (i + 1) ps)
sum_of-drop styles unit ps i p h e = ap (sum_of styles unit) (drop_at ps i p h e)

pub cost_fault-drop : (styles : List Style) (ps : List Posting) (i : ℕ) (p : Posting) → i < length ps
    → p ≡ get_or ps i p →
    cost_fault styles (drop i ps) ≡ option_or (cost_fault_of styles p.amount p.price)
    (cost_fault styles (drop (i + 1) ps))
cost_fault-drop styles ps i p h e = ap (cost_fault styles) (drop_at ps i p h e)

-- the commodities from a declared one on: it, and those after it
pub commodities_next : (n m : ℕ) → n < m → commodities n (m - n) ≡ record { 0 = n } ∷ commodities (n + 1) (m - (n + 1))
commodities_next n m h = let e : m - n ≡ suc (m - (n + 1)) = omega arith in ap (commodities n) e

pub commodities_done : (n m : ℕ) → m ≤ n → commodities n (m - n) ≡ []
commodities_done n m h = let e : m - n ≡ zero = omega arith in ap (commodities n) e

pub legs_among-drop : (styles : List Style) (all ps : List Posting) (i : ℕ) (p : Posting) → i < length ps
    → p ≡ get_or ps i p →
    legs_among styles all (drop i ps)
    ≡ posting_legs styles all p.account p.amount p.price ++ legs_among styles all (drop (i + 1) ps)
legs_among-drop styles all ps i p h e = ap (legs_among styles all) (drop_at ps i p h e)

pub claims_among-drop : (styles : List Style) (all : List Posting) (k : ℕ) (ps : List Posting) (i : ℕ) (p : Posting)
    → i < length ps → p ≡ get_or ps i p →
    claims_among styles all k (drop i ps)
    ≡ placed k p.claim
    ++ claims_among styles all (k + length (posting_legs styles all p.account p.amount p.price)) (drop (i + 1) ps)
claims_among-drop styles all k ps i p h e = ap (claims_among styles all k) (drop_at ps i p h e)

pub large-drop : (styles : List Style) (all ps : List Posting) (i : ℕ) (p : Posting) → i < length ps → p ≡ get_or ps i p
    →
    list_any is_large (legs_among styles all (drop i ps))
    ≡ (list_any is_large (posting_legs styles all p.account p.amount p.price)
    || list_any is_large (legs_among styles all (drop (i + 1) ps)))
large-drop styles all ps i p h e =
    ap (list_any is_large) (legs_among-drop styles all ps i p h e)
    ∙ list_any-append is_large (posting_legs styles all p.account p.amount p.price)
    (legs_among styles all (drop (i + 1) ps))
