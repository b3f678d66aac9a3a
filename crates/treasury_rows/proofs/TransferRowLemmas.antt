-- transfers, read from their rows
use Rattle.std.proofs.Common.{◌≡◌, ◌<◌, ◌≤◌, ◌^◌, ℕ, ℤ, Bool, true, false, cond, List, [], ◌∷◌, length}
use Rattle.std.proofs.Common.{get_or, refl, ap, ◌∙◌, sym, subst, arith, map, inl, inr, ltb, Option, Some, None, Ok, Err}
use Rattle.std.specs.Prelude.{find, Result, IfOk, IfSome}
use Rattle.std.specs.Result.{IsOkUnless}
use Rattle.std.specs.List.{list_any, slice_get, AllByRecursion}
use Rattle.std.specs.Str.{bytes_eq}
use Rattle.std.proofs.lemmas.Bool.{and_parts, ltb-true, lt-ltb, or_parts}
use Rattle.std.proofs.lemmas.Option.{slice_get_within, slice_get_read}
use Rattle.money_core.specs.declared.cause.Cause.{Cause}
use Rattle.money_core.specs.declared.cause.Cause.TheVariants.{OutOfMemory, Damaged}
use Rattle.money_core.specs.declared.style.Style.{Style}
use Rattle.money_core.specs.declared.unit.Unit.{Unit as Commodity}
use Rattle.money_core.proofs.ListLemmas.{all_behind, all_front, all_weaker}
use Rattle.money_core.proofs.BytesLemmas.{bytes_eq-refl, other_bytes}
use Rattle.journal_format.specs.Printable.{is_posting, is_amount}
use Rattle.journal_balance.specs.Legs.{leg}
use Rattle.treasury_state.specs.declared.record.Record.{Record}
use Rattle.treasury_state.specs.declared.transfer.Part.{Part}
use Rattle.treasury_state.specs.declared.transfer.Receipt.{Receipt}
use Rattle.treasury_state.specs.declared.transfer.Transfer.{Transfer}
use Rattle.treasury_state.specs.Federation.{Branch, Federation, has_name, name_place}
use Rattle.treasury_state.specs.Mark.{held}
use Rattle.treasury_state.specs.Transfer.{asked, out_records, in_records, of_rest, receipts_of, has_id, receipt_record}
use Rattle.treasury_state.specs.Transfer.{posting, transit_account}
use Rattle.treasury_state.specs.Good.{IsGoodRecord, IsGoodTransfer, IsGoodState, IsShort}
use Rattle.treasury_state.proofs.AskedLemmas.{HaveOwnIds}
use Rattle.treasury_state.proofs.DispatchLemmas.{IsWhole, all_whole, dispatch_written}
use Rattle.treasury_state.proofs.FairLemmas.{branch_found}
use Rattle.treasury_state.proofs.HolderLemmas.{held_all}
use Rattle.treasury_state.proofs.RecordLemmas.{short_day}
use Rattle.treasury_state.proofs.OrderLemmas.{own_ids}
use Rattle.treasury_state.proofs.SkipLemmas.{same_transfer}
use Rattle.treasury_state.proofs.AmountLemmas.{amount_of}
use Rattle.treasury_state.proofs.TransferRowLemmas.{name_found}
use Rattle.treasury_rows.specs.Drafted.{IsFault, IsReading, HasShortReceipt, HaveShortDays, IsNamed}

-- a name is read from its place
abbrev pub IsNameAt : List Branch → ℕ → List ℕ → Type 0
IsNameAt bs place name = (list_any (has_name name) bs ≡ true) × (name_place bs name ≡ place)

pub name_reading : (bs : List Branch) (place : ℕ) (b : Branch) (nm : List ℕ) (r : Result (List ℕ) Cause)
    → true ≡ ltb place (length bs) → b ≡ get_or bs place b → nm ≡ b.name
    → IfOk r (λ y. y ≡ nm) → IsOkUnless r OutOfMemory → IsReading (IsNameAt bs place) r
name_reading bs place b nm (Ok y) h is named copied m = λ name p.
    let x = name_found bs name p.0 in
    let at : slice_get bs place ≡ Some b =
    slice_get_read bs (length bs) place b refl (ltb-true place (length bs) (sym h)) is in
    let same : ◌≡◌ {A = Option Branch} (Some x.0) (Some b) = sym x.1.0 ∙ (ap (slice_get bs) p.1 ∙ at) in
    let one : x.0 ≡ b = cc in
    sym x.1.1 ∙ (ap (λ (z : Branch). z.name) one ∙ (sym named ∙ sym copied))
name_reading bs place b nm (Err e) h is named copied m = inl m

pub name_missing : (bs : List Branch) (place : ℕ) → false ≡ ltb place (length bs) → IsFault (IsNameAt bs place) Damaged
name_missing bs place h = inr (
  refl,
  λ name p.
      let x = name_found bs name p.0 in
      let lt : name_place bs name < length bs = slice_get_within bs (name_place bs name) x.0 x.1.0 in
      let there : ltb place (length bs) ≡ true = lt-ltb place (length bs) (subst (λ (k : ℕ). k < length bs) p.1 lt) in
      let e : false ≡ true = h ∙ there in cc,
)

-- each transfer is found by its ID
found_more : (t : Transfer) (ts xs : List Transfer) → list_any (has_id t.id) xs ≡ false
    → AllByRecursion (λ (y : Transfer). find (has_id y.id) ts ≡ Some y) xs
    → AllByRecursion (λ (y : Transfer). find (has_id y.id) (t ∷ ts) ≡ Some y) xs
found_more t ts [] n h = tt
found_more t ts (y ∷ xs) n h =
    let k = or_parts (bytes_eq y.id t.id) (list_any (has_id t.id) xs) n in (
      ap (λ (b : Bool). cond b (Some t) (find (has_id y.id) ts)) (other_bytes y.id t.id k.0) ∙ h.0,
      found_more t ts xs k.1 h.1,
    )

all_found : (ts : List Transfer) → HaveOwnIds ts → AllByRecursion (λ (y : Transfer). find (has_id y.id) ts ≡ Some y) ts
all_found [] h = tt
all_found (t ∷ ts) h = (
  ap (λ (b : Bool). cond b (Some t) (find (has_id t.id) ts)) (bytes_eq-refl t.id),
  found_more t ts ts h.0 (all_found ts h.1),
)

all_in : (P : Record → Type 0) (t : Transfer) (b : Bool) (ps : List Part) → b ≡ true
    → AllByRecursion P (in_records t b ps) → AllByRecursion P (map (receipt_record t) ps)
all_in P t true ps e h = h
all_in P t false ps e h = absurd cc

receipts_at : (P : Record → Type 0) (t x : Transfer) (xs : List Transfer) (c : Bool)
    → cond c (Some x) (find (has_id t.id) xs) ≡ Some t → AllByRecursion P (asked (x ∷ xs) t.target)
    → (find (has_id t.id) xs ≡ Some t → AllByRecursion P (asked xs t.target)
    → AllByRecursion P (map (receipt_record t) (receipts_of t)))
    → AllByRecursion P (map (receipt_record t) (receipts_of t))
receipts_at P t x xs true e h k =
    let Q : Transfer → Type 0 = λ y. AllByRecursion P (asked (y ∷ xs) t.target)
    → AllByRecursion P (map (receipt_record t) (receipts_of t)) in
    subst Q (sym (same_transfer x t e))
    (λ all. all_in P t (bytes_eq t.target t.target) (receipts_of t) (bytes_eq-refl t.target)
    (all_front P (in_records t (bytes_eq t.target t.target) (receipts_of t)) (asked xs t.target)
    (all_behind P (out_records t (bytes_eq t.source t.target)) _ all))) h
receipts_at P t x xs false e h k =
    k e (all_behind P (in_records x (bytes_eq x.target t.target) (receipts_of x)) (asked xs t.target)
    (all_behind P (out_records x (bytes_eq x.source t.target)) _ h))

asked_receipts : (P : Record → Type 0) (t : Transfer) (ts : List Transfer) → find (has_id t.id) ts ≡ Some t
    → AllByRecursion P (asked ts t.target) → AllByRecursion P (map (receipt_record t) (receipts_of t))
asked_receipts P t [] e h = absurd cc
asked_receipts P t (x ∷ xs) e h = receipts_at P t x xs (bytes_eq x.id t.id) e h (asked_receipts P t xs)

all_mapped : (P : Record → Type 0) (g : Part → Record) (ps : List Part) → AllByRecursion P (map g ps)
    → AllByRecursion (λ (p : Part). P (g p)) ps
all_mapped P g [] h = tt
all_mapped P g (p ∷ ps) h = (h.0, all_mapped P g ps h.1)

receipts_written : (f : Federation) (t : Transfer) → IsGoodState f → find (has_id t.id) f.transfers ≡ Some t
    → IsGoodTransfer f.branches t
    → AllByRecursion (λ (p : Part). IsGoodRecord f.styles (receipt_record t p)) (receipts_of t)
receipts_written f t good here fair =
    let b = branch_found (IsWhole f.styles f.transfers) f.branches t.target
    (all_whole f.styles f.transfers f.branches good.branches good.carried) fair.target in
    let P = IsGoodRecord f.styles in
    let each : AllByRecursion P (asked f.transfers b.branch.name) =
    all_weaker (λ (r : Record). held b.branch.records r.mark ≡ Some r) P (asked f.transfers b.branch.name)
    (λ r h. subst (λ (o : Option Record). IfSome o P) h (held_all P b.branch.records r.mark b.holds.good.records))
    b.holds.carried.there in
    all_mapped P (receipt_record t) (receipts_of t)
    (asked_receipts P t f.transfers here
    (subst (λ (n : List ℕ). AllByRecursion P (asked f.transfers n)) b.named each))

-- the transfers of a good state can be kept
short_receipt : (t : Transfer) (o : Option Receipt) → HaveShortDays (of_rest t o) → HasShortReceipt o
short_receipt t None h = tt
short_receipt t (Some r) h = h.0

small_unit : (styles : List Style) (u : Commodity) (q : ℤ) → length styles ≤ 16 → is_amount styles u q ≡ true
    → u.0 < 2 ^ 16
small_unit styles u q few h = let lt = ltb-true u.0 (length styles) (and_parts _ _ h).0 in omega (arith, lt, few)

named_one : (f : Federation) (t : Transfer) → IsGoodState f → find (has_id t.id) f.transfers ≡ Some t
    → IsGoodTransfer f.branches t → IsNamed f.branches t
named_one f t good here fair =
    let written = dispatch_written f t good here fair in
    let account = transit_account t.source t.target in
    let first = (and_parts (is_posting f.styles (posting (leg account t.unit t.qty))) _ written.printable.postings).0 in
    let short : HaveShortDays (receipts_of t) =
    all_weaker (λ (p : Part). IsGoodRecord f.styles (receipt_record t p)) (λ (p : Part). IsShort p.day)
    (receipts_of t) (λ p h. short_day p.day h.printable.header.number) (receipts_written f t good here fair) in
    record {
      source = fair.source;
      target = fair.target;
      unit = small_unit f.styles t.unit t.qty good.styles.few (amount_of f.styles account t.unit t.qty first);
      day = short_day t.day written.printable.header.number;
      receipt =
          short_receipt t t.receipt (all_behind (λ (p : Part). IsShort p.day) t.parts (of_rest t t.receipt) short);
      parts = all_front (λ (p : Part). IsShort p.day) t.parts (of_rest t t.receipt) short;
    }

named_from : (f : Federation) (xs : List Transfer) → IsGoodState f
    → AllByRecursion (λ (y : Transfer). find (has_id y.id) f.transfers ≡ Some y) xs
    → AllByRecursion (IsGoodTransfer f.branches) xs → AllByRecursion (IsNamed f.branches) xs
named_from f [] good h k = tt
named_from f (t ∷ xs) good h k = (named_one f t good h.0 k.0, named_from f xs good h.1 k.1)

pub all_named : (f : Federation) → IsGoodState f → AllByRecursion (IsNamed f.branches) f.transfers
all_named f good = named_from f f.transfers good (all_found f.transfers (own_ids f.transfers good.ids)) good.transfers
