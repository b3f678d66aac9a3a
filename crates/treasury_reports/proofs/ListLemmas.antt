-- the reports of what is there
use Rattle.std.proofs.Common.{◌≡◌, ◌∙◌, ◌≤ℤ◌, ◌+ℤ◌, ◌-ℤ◌, ℕ, ℤ, pos, Bool, true, false, cond, List, [], ◌∷◌, ◌++◌, map}
use Rattle.std.proofs.Common.{arith, refl, ap, length, take, get_or, inl, inr, ◌⊎◌, ◌+◌, ◌<◌, ◌≤◌, Some, None}
use Rattle.std.specs.List.{slice_get}
use Rattle.std.proofs.lemmas.Option.{slice_get_cases}
use Rattle.std.proofs.lemmas.List.{take_more}
use Rattle.std.specs.Prelude.{filter, find, if◌then◌else◌, int_le, not, nat_lt, unsigned_abs}
use Rattle.std.proofs.lemmas.Bool.{and_parts, ltb-true, leb-true}
use Rattle.std.specs.Ordering.{int_eq}
use Rattle.std.specs.List.{flat_map, AllByRecursion}
use Rattle.std.proofs.lemmas.Int.{ints}
use Rattle.money_core.specs.declared.style.Style.{Style}
use Rattle.money_core.specs.declared.unit.Unit.{Unit as Commodity}
use Rattle.money_core.specs.declared.day.Day.{Day}
use Rattle.money_core.specs.Amount.{limit}
use Rattle.money_core.specs.AmountText.{IsDeclared}
use Rattle.money_core.proofs.TestLemmas.{if_zero, zero_from_int_eq, le_from_int_le}
use Rattle.journal_format.specs.Printable.{is_posting}
use Rattle.journal_balance.specs.Legs.{leg}
use Rattle.treasury_state.specs.declared.transfer.Transfer.{Transfer}
use Rattle.treasury_state.specs.Federation.{Federation}
use Rattle.treasury_state.specs.Transfer.{open_of, open_amount, is_between, receipts_of, received_by, dispatch_record}
use Rattle.treasury_state.specs.Transfer.{posting, transit_account, has_id}
use Rattle.treasury_state.specs.Good.{IsGoodRecord, IsGoodTransfer, IsGoodState}
use Rattle.treasury_state.specs.Fair.{IsFair}
use Rattle.journal_format.proofs.PrintingLemmas.{part_next}
use Rattle.treasury_state.proofs.PartLemmas.{all_positive, received_low, small_from}
use Rattle.treasury_state.proofs.WayLemmas.{all_good, open_low}
use Rattle.treasury_state.proofs.FairLemmas.{all_fair, names_good}
use Rattle.treasury_state.proofs.AmountLemmas.{amount_of}
use Rattle.treasury_state.proofs.DispatchLemmas.{dispatch_written}
use Rattle.treasury_state.proofs.EachFoundLemmas.{all_found}
use Rattle.treasury_reports.specs.TransfersReport.{pending, AddUpToTransit}
use Rattle.treasury_reports.specs.Lent.{IsListableTransfer}

-- texts of what was mapped, and of what was chosen
pub flat_map-map : {X Y : Type 0} (f : X → Y) (g : Y → List ℕ) (xs : List X)
    → flat_map (λ x. g (f x)) xs ≡ flat_map g (map f xs)
flat_map-map f g [] = refl
flat_map-map f g (x ∷ xs) = ap (λ (l : List ℕ). g (f x) ++ l) (flat_map-map f g xs)

pub flat_map-filter : {X : Type 0} (p : X → Bool) (g : X → List ℕ) (xs : List X)
    → flat_map (λ x. if p x then g x else []) xs ≡ flat_map g (filter p xs)
flat_map-filter p g [] = refl
flat_map-filter {X} p g (x ∷ xs) = by_test (p x) (flat_map-filter p g xs)
  where
    by_test : (b : Bool) → flat_map (λ y. if p y then g y else []) xs ≡ flat_map g (filter p xs)
        → (if b then g x else []) ++ flat_map (λ y. if p y then g y else []) xs
        ≡ flat_map g (cond b (x ∷ filter p xs) (filter p xs))
    by_test true h = ap (λ (l : List ℕ). g x ++ l) h
    by_test false h = h

-- ---- what is not open adds nothing

adds_up : (ts : List Transfer) (day : Day) (from to : List ℕ) (unit : Commodity)
    → open_amount (pending day ts) from to unit day ≡ open_amount ts from to unit day
adds_up [] day from to unit = refl
adds_up (t ∷ ts) day from to unit = by_test (int_eq (open_of t day) (pos 0)) refl (adds_up ts day from to unit)
  where
    by_test : (b : Bool) → int_eq (open_of t day) (pos 0) ≡ b
        → open_amount (pending day ts) from to unit day ≡ open_amount ts from to unit day
        → open_amount (cond (not b) (t ∷ pending day ts) (pending day ts)) from to unit day
        ≡ (if is_between from to unit t then open_of t day else pos 0) +ℤ open_amount ts from to unit day
    by_test false e h =
        ap (λ (z : ℤ). (if is_between from to unit t then open_of t day else pos 0) +ℤ z) h
    by_test true e h =
        let zero = if_zero (is_between from to unit t) (open_of t day) (zero_from_int_eq (open_of t day) e) in
        omega (arith, ints)

pub add_up_to_transit : (ts : List Transfer) (day : Day) → AddUpToTransit ts day
add_up_to_transit ts day from to unit = adds_up ts day from to unit

-- ---- each transfer of a good state can be listed
amount_declared : (styles : List Style) (t : Transfer) → IsGoodRecord styles (dispatch_record t)
    → IsDeclared styles t.unit t.qty
amount_declared styles t written =
    let account = transit_account t.source t.target in
    let first = (and_parts (is_posting styles (posting (leg account t.unit t.qty))) _ written.printable.postings).0 in
    let amount = and_parts (nat_lt t.unit.0 (length styles)) _ (amount_of styles account t.unit t.qty first) in
    record {
      known = ltb-true t.unit.0 (length styles) amount.0;
      size = leb-true (unsigned_abs t.qty) limit amount.1;
    }

-- what holds of each of two lists' elements
all_from_both : {X : Type 0} (P Q R : X → Type 0) (xs : List X) → ((x : X) → P x → Q x → R x) → AllByRecursion P xs
    → AllByRecursion Q xs → AllByRecursion R xs
all_from_both P Q R [] f h k = tt
all_from_both P Q R (x ∷ xs) f h k = (f x h.0 k.0, all_from_both P Q R xs f h.1 k.1)

pub transfers_listable : (f : Federation) → IsGoodState f → AllByRecursion (IsListableTransfer f.styles) f.transfers
transfers_listable f good =
    all_from_both (λ (t : Transfer). IsGoodRecord f.styles (dispatch_record t)) IsFair (IsListableTransfer f.styles)
    f.transfers (λ t written fair. record {
      fair = fair;
      day = written.printable.header.number;
      amount = amount_declared f.styles t written;
    })
    (all_from_both (λ (t : Transfer). find (has_id t.id) f.transfers ≡ Some t) (IsGoodTransfer f.branches)
    (λ (t : Transfer). IsGoodRecord f.styles (dispatch_record t)) f.transfers
    (λ t here fair. dispatch_written f t good here fair) (all_found f.transfers good.ids) good.transfers)
    (all_fair f.branches f.transfers (names_good f good) good.transfers)

-- and what is open of it
at_most : (t : Transfer) (d : Day) (b : Bool) → IsFair t
    → ((if b then t.qty else pos 0) -ℤ received_by (receipts_of t) d) ≤ℤ t.qty
at_most t d true fair =
    let a = received_low (receipts_of t) d (all_positive t.day (receipts_of t) (all_good t fair)) in
    omega (arith, ints)
at_most t d false fair =
    let a = received_low (receipts_of t) d (all_positive t.day (receipts_of t) (all_good t fair)) in
    let b = le_from_int_le (pos 1) t.qty fair.positive in
    omega (arith, ints)

pub open_declared : (styles : List Style) (t : Transfer) (d : Day) → IsListableTransfer styles t
    → IsDeclared styles t.unit (open_of t d)
open_declared styles t d h = record {
  known = h.amount.known;
  size = small_from (open_of t d) t.qty (open_low t d h.fair) (at_most t d (int_le t.day.0 d.0) h.fair) h.amount.size;
}

-- ---- one line more
pub next_line : {X : Type 0} (f : X → List ℕ) (xs : List X) (i : ℕ) (before after : List ℕ)
    → before ≡ flat_map f (take i xs) → ((x : X) → slice_get xs i ≡ Some x → after ≡ before ++ f x) → i < length xs
    → after ≡ flat_map f (take (i + 1) xs)
next_line {X} f xs i before after h k below = by_place (slice_get_cases xs i).1
  where
    by_place : ((x : X) × (i < length xs) × (slice_get xs i ≡ Some x) × (get_or xs i x ≡ x))
        ⊎ ((length xs ≤ i) × (slice_get xs i ≡ None)) → after ≡ flat_map f (take (i + 1) xs)
    by_place (inl found) =
        part_next f [] before after (take i xs) (take (i + 1) xs) found.0 h (k found.0 found.2)
        (take_more xs i found.0 below ∙ ap (λ (y : X). take i xs ++ y ∷ []) found.3)
    by_place (inr past) = absurd (omega (arith, past.0, below))
