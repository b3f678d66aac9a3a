-- The rows of a good state are in the order of their keys.
use Rattle.std.proofs.Common.{◌≡◌, ℕ, ℤ, ◌+◌, ◌<◌, ◌≤◌, pos, List, [], ◌∷◌, ◌++◌, map, length, refl, sym}
use Rattle.std.proofs.Common.{ap, subst, ◌∙◌, arith, Some, None, Option, Ok}
use Rattle.std.specs.List.{enumerate_from, flat_map, AllByRecursion}
use Rattle.std.specs.Ordering.{int_cmp, ordering_then}
use Rattle.std.specs.declared.cmp.Ordering.{Ordering}
use Rattle.std.specs.declared.cmp.Ordering.TheVariants.{Less, Equal}
use Rattle.std.specs.Cmp.{int_cmp_is}
use Rattle.std.proofs.lemmas.Int.{ints}
use Rattle.std.proofs.lemmas.Map.Text.{is_eq-slice_cmp}
use Rattle.book_core.specs.Account.{name_cmp}
use Rattle.std.proofs.lemmas.List.Concat.{flat_map_single}
use Rattle.sqlite.specs.Tree.{IsAscending}
use Rattle.money_core.specs.declared.cause.Cause.{Cause}
use Rattle.money_core.specs.declared.style.Style.{Style}
use Rattle.money_core.specs.declared.claim.Claim.{Claim}
use Rattle.money_core.proofs.ListLemmas.{all-append, all_weaker}
use Rattle.money_core.proofs.BytesLemmas.{bytes_eq-refl}
use Rattle.book_core.specs.declared.claim.Placed.{Placed}
use Rattle.book_core.specs.declared.entry.Entry.{Entry}
use Rattle.book_core.specs.declared.leg.Leg.{Leg}
use Rattle.book_core.specs.GoodBook.{AreApart, IsFit}
use Rattle.journal_format.specs.declared.posting.Posting.{Posting}
use Rattle.journal_balance.specs.Legs.{posting_legs, placed, claims_among, entry_of, entry_unless, balancing_fault}
use Rattle.journal_balance.specs.Legs.{balanced_entry}
use Rattle.treasury_state.specs.declared.record.Record.{Record}
use Rattle.treasury_state.specs.declared.transfer.Part.{Part}
use Rattle.treasury_state.specs.declared.transfer.Transfer.{Transfer}
use Rattle.treasury_state.specs.declared.rows.UnitRow.{UnitRow}
use Rattle.treasury_state.specs.declared.rows.BranchRow.{BranchRow}
use Rattle.treasury_state.specs.declared.rows.EntryRow.{EntryRow}
use Rattle.treasury_state.specs.declared.rows.LegRow.{LegRow}
use Rattle.treasury_state.specs.declared.rows.ClaimRow.{ClaimRow}
use Rattle.treasury_state.specs.declared.rows.TransferRow.{TransferRow}
use Rattle.treasury_state.specs.declared.rows.PartRow.{PartRow}
use Rattle.treasury_state.specs.Federation.{Branch, Federation, entries}
use Rattle.treasury_state.specs.Good.{AreAscending, AreKeyed, IsGoodRecord, IsGoodBranch, IsGoodTransfer, IsGoodState}
use Rattle.treasury_state.specs.Rows.{unit_row, branch_row, leg_row, leg_rows, claim_row, claim_rows, transfer_row}
use Rattle.treasury_state.specs.Rows.{part_row, part_rows, rows}
use Rattle.treasury_tables.specs.Order.{entry_cmp, leg_cmp, claim_cmp, transfer_cmp, part_cmp, InOrder}
use Rattle.treasury_tables.proofs.KeyedLemmas.{equal_is}
use Rattle.treasury_store.proofs.NumberedLemmas.{rows_from, rows_in}
use Rattle.treasury_store.proofs.AdditionLemmas.{entry_alone, rows_from_entry_alone}

-- ---- lists of blocks
asc_append : {X : Type 0} (R : X → X → Type 0) (xs ys : List X) → IsAscending R xs → IsAscending R ys
    → AllByRecursion (λ (x : X). AllByRecursion (R x) ys) xs → IsAscending R (xs ++ ys)
asc_append R [] ys h k l = k
asc_append R (x ∷ xs) ys h k l = (all-append (R x) xs ys h.0 l.0, asc_append R xs ys h.1 k l.1)

module _ {X Y : Type 0} (f : ℕ → X → List Y) where
  -- the blocks of a list, numbered from n
  abbrev blocks : ℕ → List X → List Y
  blocks n xs = flat_map (λ (p : ℕ × X). f p.0 p.1) (enumerate_from n xs)

  all_blocks : (P : Y → Type 0) → ((n : ℕ) (x : X) → AllByRecursion P (f n x)) → (n : ℕ) (xs : List X)
      → AllByRecursion P (blocks n xs)
  all_blocks P h n [] = tt
  all_blocks P h n (x ∷ xs) = all-append P (f n x) (blocks (n + 1) xs) (h n x) (all_blocks P h (n + 1) xs)

  module _ (R : Y → Y → Type 0) (K : ℕ → Y → Type 0) (apart : (n m : ℕ) (x y : Y) → n < m → K n x → K m y → R x y)
      (marked : (n : ℕ) (x : X) → AllByRecursion (K n) (f n x)) where
    later : (n m : ℕ) (y : Y) (xs : List X) → n < m → K n y → AllByRecursion (R y) (blocks m xs)
    later n m y [] h k = tt
    later n m y (x ∷ xs) h k =
        all-append (R y) (f m x) (blocks (m + 1) xs)
        (all_weaker (K m) (R y) (f m x) (λ z l. apart n m y z h k l) (marked m x))
        (later n (m + 1) y xs (omega (arith, h)) k)

    rising : (n : ℕ) (xs : List X) → AllByRecursion (λ (x : X). (m : ℕ) → IsAscending R (f m x)) xs
        → IsAscending R (blocks n xs)
    rising n [] h = tt
    rising n (x ∷ xs) h =
        asc_append R (f n x) (blocks (n + 1) xs) (h.0 n) (rising (n + 1) xs h.1)
        (all_weaker (K n) (λ (y : Y). AllByRecursion (R y) (blocks (n + 1) xs)) (f n x)
        (λ y k. later n (n + 1) y xs (omega arith) k) (marked n x))

all_of : {X : Type 0} (P : X → Type 0) → ((x : X) → P x) → (xs : List X) → AllByRecursion P xs
all_of P h [] = tt
all_of P h (x ∷ xs) = (h x, all_of P h xs)

-- ---- numbers
int_cmp_less : (n m : ℕ) → n < m → int_cmp (pos n) (pos m) ≡ Less
int_cmp_less n m h = sym (int_cmp_is (pos n) (pos m) Less (omega (arith, ints, h)))

low_at : (n m : ℕ) (a b : ℤ) → n < m → a ≡ pos n → b ≡ pos m → int_cmp a b ≡ Less
low_at n m a b h e f =
    subst (λ (x : ℤ). int_cmp x b ≡ Less) (sym e)
    (subst (λ (y : ℤ). int_cmp (pos n) y ≡ Less) (sym f) (int_cmp_less n m h))

even_at : (n : ℕ) (a b : ℤ) → a ≡ pos n → b ≡ pos n → int_cmp a b ≡ Equal
even_at n a b e f = sym (int_cmp_is a b Equal (e ∙ sym f))

first_less : (o p : Ordering) → o ≡ Less → ordering_then o p ≡ Less
first_less o p e = ap (λ (x : Ordering). ordering_then x p) e

then_less : (o p : Ordering) → o ≡ Equal → p ≡ Less → ordering_then o p ≡ Less
then_less o p e f = ap (λ (x : Ordering). ordering_then x p) e ∙ f

-- ---- commodities and branches
numbered_rise : {X Y : Type 0} (row : ℕ → X → Y) (nr : Y → ℤ) → ((n : ℕ) (x : X) → nr (row n x) ≡ pos n) → (xs : List X)
    → IsAscending (λ (a b : Y). int_cmp (nr a) (nr b) ≡ Less) (map (λ (p : ℕ × X). row p.0 p.1) (enumerate_from 0 xs))
numbered_rise {X} {Y} row nr is xs =
    subst (IsAscending (λ (a b : Y). int_cmp (nr a) (nr b) ≡ Less))
    (flat_map_single (λ (p : ℕ × X). row p.0 p.1) (enumerate_from 0 xs))
    (rising (λ n x. row n x ∷ []) (λ (a b : Y). int_cmp (nr a) (nr b) ≡ Less) (λ n y. nr y ≡ pos n)
    (λ n m x y h e f. low_at n m (nr x) (nr y) h e f) (λ n x. (is n x, tt)) 0 xs
    (all_of (λ (x : X). (m : ℕ) → IsAscending (λ (a b : Y). int_cmp (nr a) (nr b) ≡ Less) (row m x ∷ []))
    (λ x m. (tt, tt)) xs))

-- ---- entries
module _ (S : List Style) where
  abbrev EntryAt : ℕ → ℕ → EntryRow → Type 0
  EntryAt b n e = (e.branch ≡ pos b) × (e.nr ≡ pos n)

  abbrev EntryLess : EntryRow → EntryRow → Type 0
  EntryLess x y = entry_cmp x y ≡ Less

  entries_in : (b : ℕ) (rs : List Record) → IsAscending EntryLess (rows_in (entry_alone S) b rs)
  entries_in b rs =
      rising (entry_alone S b) EntryLess (EntryAt b)
      (λ n m x y h e f. then_less (int_cmp x.branch y.branch) (int_cmp x.nr y.nr) (even_at b x.branch y.branch e.0 f.0)
      (low_at n m x.nr y.nr h e.1 f.1)) (λ n r. ((refl, refl), tt)) 1 rs
      (all_of (λ (r : Record). (m : ℕ) → IsAscending EntryLess (entry_alone S b m r)) (λ r m. (tt, tt)) rs)

  entries_rise : (bs : List Branch) → IsAscending EntryLess (rows_from (entry_alone S) 0 bs)
  entries_rise bs =
      rising (λ b (x : Branch). rows_in (entry_alone S) b x.records) EntryLess (λ b e. e.branch ≡ pos b)
      (λ n m x y h e f. first_less (int_cmp x.branch y.branch) (int_cmp x.nr y.nr) (low_at n m x.branch y.branch h e f))
      (λ b x. all_blocks (entry_alone S b) (λ (e : EntryRow). e.branch ≡ pos b) (λ n r. (refl, tt)) 1 x.records) 0 bs
      (all_of (λ (x : Branch). (m : ℕ) → IsAscending EntryLess (rows_in (entry_alone S) m x.records))
      (λ x m. entries_in m x.records) bs)

-- ---- legs
abbrev LegLess : LegRow → LegRow → Type 0
LegLess x y = leg_cmp x y ≡ Less

legs_at : (b n : ℕ) (legs : List Leg)
    → IsAscending LegLess (map (λ (p : ℕ × Leg). leg_row b n p.0 p.1) (enumerate_from 1 legs))
legs_at b n legs =
    subst (IsAscending LegLess) (flat_map_single (λ (p : ℕ × Leg). leg_row b n p.0 p.1) (enumerate_from 1 legs))
    (rising (λ k x. leg_row b n k x ∷ []) LegLess (λ k l. (l.branch ≡ pos b) × (l.entry ≡ pos n) × (l.nr ≡ pos k))
    (λ k m x y h e f. then_less (int_cmp x.branch y.branch) _ (even_at b x.branch y.branch e.0 f.0)
    (then_less (int_cmp x.entry y.entry) (int_cmp x.nr y.nr) (even_at n x.entry y.entry e.1 f.1)
    (low_at k m x.nr y.nr h e.2 f.2)))
    (λ k x. ((refl, refl, refl), tt)) 1 legs
    (all_of (λ (x : Leg). (m : ℕ) → IsAscending LegLess (leg_row b n m x ∷ [])) (λ x m. (tt, tt)) legs))

all_numbered : {X Y : Type 0} (row : ℕ → X → Y) (P : Y → Type 0) → ((n : ℕ) (x : X) → P (row n x))
    → (n : ℕ) (xs : List X) → AllByRecursion P (map (λ (p : ℕ × X). row p.0 p.1) (enumerate_from n xs))
all_numbered row P h n [] = tt
all_numbered row P h n (x ∷ xs) = (h n x, all_numbered row P h (n + 1) xs)

legs_in : (b : ℕ) (rs : List Record) → IsAscending LegLess (rows_in leg_rows b rs)
legs_in b rs =
    rising (leg_rows b) LegLess (λ n l. (l.branch ≡ pos b) × (l.entry ≡ pos n))
    (λ n m x y h e f. then_less (int_cmp x.branch y.branch) _ (even_at b x.branch y.branch e.0 f.0)
    (first_less (int_cmp x.entry y.entry) (int_cmp x.nr y.nr) (low_at n m x.entry y.entry h e.1 f.1)))
    (λ n r. all_numbered (leg_row b n) (λ (l : LegRow). (l.branch ≡ pos b) × (l.entry ≡ pos n)) (λ k x. (refl, refl)) 1
    r.entry.legs) 1 rs
    (all_of (λ (r : Record). (m : ℕ) → IsAscending LegLess (leg_rows b m r)) (λ r m. legs_at b m r.entry.legs) rs)

legs_rise : (bs : List Branch) → IsAscending LegLess (rows_from leg_rows 0 bs)
legs_rise bs =
    rising (λ b (x : Branch). rows_in leg_rows b x.records) LegLess (λ b l. l.branch ≡ pos b)
    (λ n m x y h e f. first_less (int_cmp x.branch y.branch) _ (low_at n m x.branch y.branch h e f))
    (λ b x. all_blocks (leg_rows b) (λ (l : LegRow). l.branch ≡ pos b)
    (λ n r. all_numbered (leg_row b n) (λ (l : LegRow). l.branch ≡ pos b) (λ k y. refl) 1 r.entry.legs) 1 x.records)
    0 bs
    (all_of (λ (x : Branch). (m : ℕ) → IsAscending LegLess (rows_in leg_rows m x.records)) (λ x m. legs_in m x.records)
    bs)

-- ---- assertions: those of an entry stand in the order of its legs
abbrev IsNoEarlier : Placed → Placed → Type 0
IsNoEarlier x y = x.leg ≤ y.leg

placed_rise : (k j : ℕ) (o : Option Claim) (xs : List Placed) → k ≤ j → AllByRecursion (λ (y : Placed). j ≤ y.leg) xs
    → IsAscending IsNoEarlier xs
    → AllByRecursion (λ (y : Placed). k ≤ y.leg) (placed k o ++ xs) × IsAscending IsNoEarlier (placed k o ++ xs)
placed_rise k j None xs h all up =
    (all_weaker (λ (y : Placed). j ≤ y.leg) (λ (y : Placed). k ≤ y.leg) xs (λ y l. omega (arith, l, h)) all, up)
placed_rise k j (Some c) xs h all up =
    let wide = all_weaker (λ (y : Placed). j ≤ y.leg) (λ (y : Placed). k ≤ y.leg) xs (λ y l. omega (arith, l, h)) all in
    ((omega arith, wide), (wide, up))

claims_up : (styles : List Style) (all : List Posting) (k : ℕ) (xs : List Posting)
    → AllByRecursion (λ (y : Placed). k ≤ y.leg) (claims_among styles all k xs)
    × IsAscending IsNoEarlier (claims_among styles all k xs)
claims_up styles all k [] = (tt, tt)
claims_up styles all k (x ∷ xs) =
    let j = k + length (posting_legs styles all x.account x.amount x.price) in
    let rest = claims_up styles all j xs in
    placed_rise k j x.claim (claims_among styles all j xs) (omega arith) rest.0 rest.1

legs_ascend_strictly : (xs : List Placed) → IsAscending IsNoEarlier xs → AreApart xs
    → IsAscending (λ (x y : Placed). x.leg < y.leg) xs
legs_ascend_strictly [] h k = tt
legs_ascend_strictly (x ∷ xs) h k = (both xs h.0 k.0, legs_ascend_strictly xs h.1 k.1)
  where
    both : (ys : List Placed) → AllByRecursion (IsNoEarlier x) ys
        → AllByRecursion (λ (y : Placed). x.leg ≡ y.leg → ⊥) ys → AllByRecursion (λ (y : Placed). x.leg < y.leg) ys
    both [] a b = tt
    both (y ∷ ys) a b = (let le = a.0 in let ne = b.0 in omega (arith, le, ne), both ys a.1 b.1)

entry_is : (e f : Entry) (o : Option Cause) → entry_unless e o ≡ Ok f → f ≡ e
entry_is e f None h = cc
entry_is e f (Some c) h = absurd cc

abbrev ClaimLess : ClaimRow → ClaimRow → Type 0
ClaimLess x y = claim_cmp x y ≡ Less

claims_at : (b n : ℕ) (xs : List Placed) → IsAscending (λ (x y : Placed). x.leg < y.leg) xs
    → IsAscending ClaimLess (map (claim_row b n) xs)
claims_at b n [] h = tt
claims_at b n (x ∷ xs) h = (behind xs h.0, claims_at b n xs h.1)
  where
    behind : (ys : List Placed) → AllByRecursion (λ (y : Placed). x.leg < y.leg) ys
        → AllByRecursion (ClaimLess (claim_row b n x)) (map (claim_row b n) ys)
    behind [] a = tt
    behind (y ∷ ys) a = (
      then_less (int_cmp (pos b) (pos b)) _ (even_at b (pos b) (pos b) refl refl)
          (then_less (int_cmp (pos n) (pos n)) (int_cmp (pos x.leg) (pos y.leg)) (even_at n (pos n) (pos n) refl refl)
          (int_cmp_less x.leg y.leg a.0)),
      behind ys a.1,
    )

-- what a record's claims are
abbrev AreInPlace : Record → Type 0
AreInPlace r = IsAscending (λ (x y : Placed). x.leg < y.leg) r.entry.claims

in_place : (styles : List Style) (r : Record) → IsGoodRecord styles r → IsFit r.entry → AreInPlace r
unfolding balanced_entry
in_place styles r good fit =
    let is = entry_is (entry_of styles r.txn) r.entry (balancing_fault styles r.txn) good.legs in
    legs_ascend_strictly r.entry.claims (subst (λ (e : Entry). IsAscending IsNoEarlier e.claims) (sym is)
    (claims_up styles r.txn.postings 1 r.txn.postings).1) fit.apart

all_in_place : (styles : List Style) (rs : List Record) → AllByRecursion (IsGoodRecord styles) rs
    → AllByRecursion IsFit (entries rs) → AllByRecursion AreInPlace rs
all_in_place styles [] h k = tt
all_in_place styles (r ∷ rs) h k = (in_place styles r h.0 k.0, all_in_place styles rs h.1 k.1)

all_mapped : {X Y : Type 0} (row : X → Y) (P : Y → Type 0) → ((x : X) → P (row x)) → (xs : List X)
    → AllByRecursion P (map row xs)
all_mapped row P h [] = tt
all_mapped row P h (x ∷ xs) = (h x, all_mapped row P h xs)

claims_in : (b : ℕ) (rs : List Record) → AllByRecursion AreInPlace rs → IsAscending ClaimLess (rows_in claim_rows b rs)
claims_in b rs h =
    rising (claim_rows b) ClaimLess (λ n l. (l.branch ≡ pos b) × (l.entry ≡ pos n))
    (λ n m x y h e f. then_less (int_cmp x.branch y.branch) _ (even_at b x.branch y.branch e.0 f.0)
    (first_less (int_cmp x.entry y.entry) (int_cmp x.leg y.leg) (low_at n m x.entry y.entry h e.1 f.1)))
    (λ n r. all_mapped (claim_row b n) (λ (l : ClaimRow). (l.branch ≡ pos b) × (l.entry ≡ pos n)) (λ x. (refl, refl))
    r.entry.claims) 1 rs
    (all_weaker AreInPlace (λ (r : Record). (m : ℕ) → IsAscending ClaimLess (claim_rows b m r)) rs
    (λ r k m. claims_at b m r.entry.claims k) h)

claims_rise : (bs : List Branch) → AllByRecursion (λ (b : Branch). AllByRecursion AreInPlace b.records) bs
    → IsAscending ClaimLess (rows_from claim_rows 0 bs)
claims_rise bs h =
    rising (λ b (x : Branch). rows_in claim_rows b x.records) ClaimLess (λ b l. l.branch ≡ pos b)
    (λ n m x y h e f. first_less (int_cmp x.branch y.branch) _ (low_at n m x.branch y.branch h e f))
    (λ b x. all_blocks (claim_rows b) (λ (l : ClaimRow). l.branch ≡ pos b)
    (λ n r. all_mapped (claim_row b n) (λ (l : ClaimRow). l.branch ≡ pos b) (λ y. refl) r.entry.claims) 1 x.records)
    0 bs
    (all_weaker (λ (b : Branch). AllByRecursion AreInPlace b.records)
    (λ (x : Branch). (m : ℕ) → IsAscending ClaimLess (rows_in claim_rows m x.records)) bs
    (λ x k m. claims_in m x.records k) h)

-- ---- transfers
transfers_rise : (bs : List Branch) (ts : List Transfer) → AreAscending ts
    → IsAscending (λ (x y : TransferRow). transfer_cmp x y ≡ Less) (map (transfer_row bs) ts)
transfers_rise bs [] h = tt
transfers_rise bs (t ∷ ts) h = (behind ts h.0, transfers_rise bs ts h.1)
  where
    behind : (xs : List Transfer) → AllByRecursion
        (λ (x : Transfer). transfer_cmp (transfer_row bs t) (transfer_row bs x) ≡ Less) xs
        → AllByRecursion (λ (y : TransferRow). transfer_cmp (transfer_row bs t) y ≡ Less) (map (transfer_row bs) xs)
    behind [] a = tt
    behind (x ∷ xs) a = (a.0, behind xs a.1)

-- ---- receipts of parts
abbrev PartLess : PartRow → PartRow → Type 0
PartLess x y = part_cmp x y ≡ Less

same_name : (id : List ℕ) → name_cmp id id ≡ Equal
same_name id = equal_is (name_cmp id id) (is_eq-slice_cmp id id ∙ bytes_eq-refl id)

parts_at : (id : List ℕ) (ps : List Part) → AreKeyed ps → IsAscending PartLess (map (part_row id) ps)
parts_at id [] h = tt
parts_at id (p ∷ ps) h = (behind ps h.0, parts_at id ps h.1)
  where
    behind : (xs : List Part) → AllByRecursion (λ (x : Part). name_cmp p.key x.key ≡ Less) xs
        → AllByRecursion (PartLess (part_row id p)) (map (part_row id) xs)
    behind [] a = tt
    behind (x ∷ xs) a = (then_less (name_cmp id id) (name_cmp p.key x.key) (same_name id) a.0, behind xs a.1)

parts_later : (id : List ℕ) (p : Part) (ts : List Transfer)
    → AllByRecursion (λ (x : Transfer). name_cmp id x.id ≡ Less) ts
    → AllByRecursion (PartLess (part_row id p)) (part_rows ts)
parts_later id p [] h = tt
parts_later id p (t ∷ ts) h =
    all-append (PartLess (part_row id p)) (map (part_row t.id) t.parts) (part_rows ts)
    (all_mapped (part_row t.id) (PartLess (part_row id p))
    (λ q. first_less (name_cmp id t.id) (name_cmp p.key q.key) h.0) t.parts) (parts_later id p ts h.1)

parts_rise : (ts : List Transfer) → AreAscending ts → AllByRecursion (λ (t : Transfer). AreKeyed t.parts) ts
    → IsAscending PartLess (part_rows ts)
parts_rise [] h k = tt
parts_rise (t ∷ ts) h k =
    asc_append PartLess (map (part_row t.id) t.parts) (part_rows ts) (parts_at t.id t.parts k.0) (parts_rise ts h.1 k.1)
    (all_mapped (part_row t.id) (λ (r : PartRow). AllByRecursion (PartLess r) (part_rows ts))
    (λ p. parts_later t.id p ts h.0) t.parts)

pub rows_in_order : (f : Federation) → IsGoodState f → InOrder (rows f)
rows_in_order f good = record {
  units = numbered_rise unit_row (λ (u : UnitRow). u.nr) (λ n x. refl) f.styles;
  branches = numbered_rise branch_row (λ (b : BranchRow). b.nr) (λ n x. refl) f.branches;
  entries =
      subst (IsAscending (EntryLess [])) (rows_from_entry_alone f.styles f.branches) (entries_rise f.styles f.branches);
  legs = legs_rise f.branches;
  claims = claims_rise f.branches
      (all_weaker (IsGoodBranch f.styles) (λ (b : Branch). AllByRecursion AreInPlace b.records) f.branches
      (λ b h. all_in_place f.styles b.records h.records h.book.fit) good.branches);
  transfers = transfers_rise f.branches f.transfers good.ids;
  receipts = parts_rise f.transfers good.ids
      (all_weaker (IsGoodTransfer f.branches) (λ (t : Transfer). AreKeyed t.parts) f.transfers (λ t h. h.parts.keyed)
      good.transfers);
}
