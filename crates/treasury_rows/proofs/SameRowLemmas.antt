-- a list beside its rows
use Rattle.std.proofs.Common.{◌≡◌, ◌<◌, ◌≤◌, ◌+◌, ℕ, zero, suc, None, Bool, true, false, List, [], ◌∷◌, ◌++◌, length}
use Rattle.std.proofs.Common.{drop, get_or, refl, ap, ◌∙◌, sym, subst, arith, map}
use Rattle.std.specs.Prelude.{◌↔◌, IsTrue, if◌then◌else◌}
use Rattle.std.specs.Str.{bytes_eq}
use Rattle.std.specs.List.{slice_get}
use Rattle.std.proofs.lemmas.List.{drop_all}
use Rattle.money_core.specs.declared.style.Style.{Style}
use Rattle.money_core.proofs.ListLemmas.{drop_at}
use Rattle.money_core.proofs.BytesLemmas.{bytes_eq-refl, same_bytes}
use Rattle.treasury_state.specs.declared.record.Record.{Record}
use Rattle.treasury_state.specs.declared.transfer.Transfer.{Transfer}
use Rattle.treasury_state.specs.declared.rows.UnitRow.{UnitRow}
use Rattle.treasury_state.specs.declared.rows.BranchRow.{BranchRow}
use Rattle.treasury_state.specs.declared.rows.EntryRow.{EntryRow}
use Rattle.treasury_state.specs.declared.rows.LegRow.{LegRow}
use Rattle.treasury_state.specs.declared.rows.ClaimRow.{ClaimRow}
use Rattle.treasury_state.specs.declared.rows.TransferRow.{TransferRow}
use Rattle.treasury_state.specs.declared.rows.PartRow.{PartRow}
use Rattle.treasury_state.specs.declared.rows.Parts.{Parts}
use Rattle.treasury_state.specs.Federation.{Branch, Federation, name_place}
use Rattle.treasury_state.specs.Rows.{unit_rows, branch_rows_from, entry_rows_in}
use Rattle.treasury_state.specs.Rows.{leg_rows_in, claim_rows_in, transfer_row, part_rows, rows}
use Rattle.treasury_state.proofs.RestLemmas.{numbered, same_heads, same_tails}
use Rattle.treasury_rows.specs.Drafted.{record_rows_from, record_rows_in}

-- a test's answer
pub says_no : (W : Type 0) → (W → ⊥) → IsTrue false ↔ W
says_no W n = (λ h. absurd cc, λ w. absurd (n w))

pub says_yes : (W : Type 0) → W → IsTrue true ↔ W
says_yes W w = (λ h. w, λ x. refl)

-- where the lengths differ the rows are others
pub length-numbered : {X Y : Type 0} (g : ℕ → X → Y) (n : ℕ) (xs : List X) → length (numbered g n xs) ≡ length xs
length-numbered g n [] = refl
length-numbered g n (x ∷ xs) = ap suc (length-numbered g (n + 1) xs)

pub other_length : {X Y : Type 0} (g : ℕ → X → Y) (n : ℕ) (xs : List X) (ys : List Y) → (length xs ≡ length ys → ⊥)
    → numbered g n xs ≡ ys → ⊥
other_length g n xs ys differ e = differ (sym (length-numbered g n xs) ∙ ap (λ zs. length zs) e)

-- whether all rows are as they should, as far as that is still open
abbrev pub Walk : {X Y : Type 0} → (ℕ → X → Y) → ℕ → ℕ → ℕ → List X → List Y → Type 0
Walk g first n i xs ys = (numbered g n (drop i xs) ≡ drop i ys) ↔ (numbered g first xs ≡ ys)

pub walk_next : {X Y : Type 0} (g : ℕ → X → Y) (first n i : ℕ) (xs : List X) (ys : List Y) (x : X) (y : Y)
    → i < length xs → x ≡ get_or xs i x → i < length ys → y ≡ get_or ys i y → g n x ≡ y
    → Walk g first n i xs ys → Walk g first (n + 1) (i + 1) xs ys
walk_next g first n i xs ys x y h is k at same walk =
    let front = drop_at xs i x h is in
    let back = drop_at ys i y k at in (
      λ e. walk.0 (ap (numbered g n) front ∙
          (ap (λ z. z ∷ numbered g (n + 1) (drop (i + 1) xs)) same ∙ (ap (λ zs. y ∷ zs) e ∙ sym back))),
      λ e. same_tails (g n x) y (numbered g (n + 1) (drop (i + 1) xs)) (drop (i + 1) ys)
          (sym (ap (numbered g n) front) ∙ (walk.1 e ∙ back)),
    )

pub walk_stop : {X Y : Type 0} (g : ℕ → X → Y) (first n i : ℕ) (xs : List X) (ys : List Y) (x : X) (y : Y)
    → i < length xs → x ≡ get_or xs i x → i < length ys → y ≡ get_or ys i y → (g n x ≡ y → ⊥)
    → Walk g first n i xs ys → numbered g first xs ≡ ys → ⊥
walk_stop g first n i xs ys x y h is k at other walk e =
    other (same_heads (g n x) y (numbered g (n + 1) (drop (i + 1) xs)) (drop (i + 1) ys)
    (sym (ap (numbered g n) (drop_at xs i x h is)) ∙ (walk.1 e ∙ drop_at ys i y k at)))

pub walk_end : {X Y : Type 0} (g : ℕ → X → Y) (first n i : ℕ) (xs : List X) (ys : List Y) → length xs ≤ i
    → length ys ≤ i → Walk g first n i xs ys → numbered g first xs ≡ ys
walk_end g first n i xs ys h k walk = walk.0 (ap (numbered g n) (drop_all i xs h) ∙ sym (drop_all i ys k))

-- lists that begin with the rows of records
pub append_same : {T : Type 0} (own a b : List T) → own ++ a ≡ own ++ b → a ≡ b
append_same [] a b e = e
append_same (x ∷ own) a b e = append_same own a b (same_tails x x (own ++ a) (own ++ b) e)

-- what more stands after all rows stands after those of the records that are left
abbrev pub Behind : {T : Type 0} → (ℕ → Record → List T) → ℕ → ℕ → List Record → List T → List T → Type 0
Behind {T = T} g n i rs list left = (more : List T)
    → (list ≡ record_rows_from g 1 rs ++ more) ↔ (left ≡ record_rows_from g n (drop i rs) ++ more)

pub behind_end : {T : Type 0} (g : ℕ → Record → List T) (n i : ℕ) (rs : List Record) (list left : List T)
    → length rs ≤ i → Behind g n i rs list left → list ≡ record_rows_from g 1 rs ++ left
behind_end g n i rs list left h behind =
    (behind left).1 (sym (ap (λ xs. record_rows_from g n xs ++ left) (drop_all i rs h)))

-- whether all rows are those of the branches, as far as that is still open
abbrev pub Whole : {T : Type 0} → (ℕ → ℕ → Record → List T) → ℕ → ℕ → List Branch → List T → List T → Type 0
Whole g b i bs list left = (record_rows_in g b (drop i bs) ≡ left) ↔ (record_rows_in g 0 bs ≡ list)

pub whole_start : {T : Type 0} (g : ℕ → ℕ → Record → List T) (bs : List Branch) (list : List T)
    → Whole g 0 0 bs list list
whole_start g bs list = (λ e. e, λ e. e)

pub whole_next : {T : Type 0} (g : ℕ → ℕ → Record → List T) (b i : ℕ) (bs : List Branch) (list left rest : List T)
    (x : Branch) → i < length bs → x ≡ get_or bs i x
    → left ≡ record_rows_from (g b) 1 x.records ++ rest → Whole g b i bs list left
    → Whole g (b + 1) (i + 1) bs list rest
whole_next g b i bs list left rest x h is split whole =
    let own = record_rows_from (g b) 1 x.records in
    let others = record_rows_in g (b + 1) (drop (i + 1) bs) in
    let front : record_rows_in g b (drop i bs) ≡ own ++ others = ap (record_rows_in g b) (drop_at bs i x h is) in (
      λ e. whole.0 (front ∙ (ap (λ xs. own ++ xs) e ∙ sym split)),
      λ e. append_same own others rest (sym front ∙ (whole.1 e ∙ split)),
    )

pub same_parts : (p q : Parts) → p.units ≡ q.units → p.branches ≡ q.branches → p.entries ≡ q.entries → p.legs ≡ q.legs
    → p.claims ≡ q.claims → p.transfers ≡ q.transfers → p.receipts ≡ q.receipts → p ≡ q
same_parts p q a b c d e f g =
    ap (λ (x : List UnitRow). let y : Parts = record p { units = x } in y) a
    ∙ ap (λ (x : List BranchRow). let y : Parts = record p { units = q.units; branches = x } in y) b
    ∙ ap (λ (x : List EntryRow). let y : Parts = record p { units = q.units; branches = q.branches; entries = x } in y)
    c
    ∙ ap (λ (x : List LegRow). let y : Parts =
    record q { legs = x; claims = p.claims; transfers = p.transfers; receipts = p.receipts } in y) d
    ∙ ap (λ (x : List ClaimRow). let y : Parts =
    record q { claims = x; transfers = p.transfers; receipts = p.receipts } in y) e
    ∙ ap (λ (x : List TransferRow). let y : Parts = record q { transfers = x; receipts = p.receipts } in y) f
    ∙ ap (λ (x : List PartRow). let y : Parts = record q { receipts = x } in y) g

-- whether all rows are those of the parts of transfers, as far as that is still open
abbrev pub PartsLeft : ℕ → List Transfer → List PartRow → List PartRow → Type 0
PartsLeft i ts list left = (part_rows (drop i ts) ≡ left) ↔ (part_rows ts ≡ list)

pub parts_start : (ts : List Transfer) (list : List PartRow) → PartsLeft 0 ts list list
parts_start ts list = (λ e. e, λ e. e)

-- nothing stands past the end
pub none_past : {X : Type 0} (xs : List X) (i : ℕ) → slice_get xs i ≡ None → length xs ≤ i
none_past [] i e = omega arith
none_past (x ∷ xs) zero e = absurd cc
none_past (x ∷ xs) (suc i) e = let h = none_past xs i e in omega (arith, h)

-- an item does not depend on what stands for none
pub same_at : {X : Type 0} (xs : List X) (i : ℕ) (d e : X) → i < length xs → get_or xs i d ≡ get_or xs i e
same_at [] i d e h = absurd (omega arith)
same_at (x ∷ xs) zero d e h = refl
same_at (x ∷ xs) (suc i) d e h = same_at xs i d e (omega (arith, h))

-- the place of a name
not_bytes : (a b : List ℕ) → (a ≡ b → ⊥) → bytes_eq a b ≡ false
not_bytes a b differ = by_test (bytes_eq a b) refl
  where
    by_test : (t : Bool) → bytes_eq a b ≡ t → t ≡ false
    by_test true e = absurd (differ (same_bytes a b e))
    by_test false e = refl

pub place_here : (bs : List Branch) (name : List ℕ) (i all : ℕ) (x : Branch) → i < length bs → x ≡ get_or bs i x
    → x.name ≡ name → i + name_place (drop i bs) name ≡ all → i ≡ all
place_here bs name i all x h is same e =
    let z : name_place (drop i bs) name ≡ 0 =
    ap (λ xs. name_place xs name) (drop_at bs i x h is) ∙ ap
    (λ (t : Bool). if t then 0 else suc (name_place (drop (i + 1) bs) name))
    (ap (bytes_eq x.name) (sym same) ∙ bytes_eq-refl x.name) in
    omega (arith, z, e)

pub place_next : (bs : List Branch) (name : List ℕ) (i all : ℕ) (x : Branch) → i < length bs → x ≡ get_or bs i x
    → (x.name ≡ name → ⊥) → i + name_place (drop i bs) name ≡ all → i + 1 + name_place (drop (i + 1) bs) name ≡ all
place_next bs name i all x h is differ e =
    let z : name_place (drop i bs) name ≡ suc (name_place (drop (i + 1) bs) name) =
    ap (λ xs. name_place xs name) (drop_at bs i x h is) ∙ ap
    (λ (t : Bool). if t then 0 else suc (name_place (drop (i + 1) bs) name)) (not_bytes x.name name differ) in
    omega (arith, z, e)

pub place_end : (bs : List Branch) (name : List ℕ) (i all : ℕ) → length bs ≤ i → i ≤ length bs
    → i + name_place (drop i bs) name ≡ all → length bs ≡ all
place_end bs name i all h k e =
    let z : name_place (drop i bs) name ≡ 0 = ap (λ xs. name_place xs name) (drop_all i bs h) in omega (arith, z, e)

-- a draft as it is held, and as it is seen
pub record Seen (f : Federation) (styles : List Style) (xs : List Branch) (ts : List Transfer) : Type 0 where
  pub styled : styles ≡ f.styles
  pub branched : xs ≡ f.branches
  pub sent : ts ≡ f.transfers

pub legs_of_rows : (f : Federation) (parts : Parts) (styles : List Style) (xs : List Branch) (ts : List Transfer)
    → Seen f styles xs ts → rows f ≡ parts → leg_rows_in 0 xs ≡ parts.legs
legs_of_rows f parts styles xs ts h e = ap (leg_rows_in 0) h.branched ∙ ap (λ (p : Parts). p.legs) e

pub claims_of_rows : (f : Federation) (parts : Parts) (styles : List Style) (xs : List Branch) (ts : List Transfer)
    → Seen f styles xs ts → rows f ≡ parts → claim_rows_in 0 xs ≡ parts.claims
claims_of_rows f parts styles xs ts h e = ap (claim_rows_in 0) h.branched ∙ ap (λ (p : Parts). p.claims) e

pub all_rows : (f : Federation) (parts : Parts) (styles : List Style) (xs : List Branch) (ts : List Transfer)
    → Seen f styles xs ts → unit_rows styles ≡ parts.units → branch_rows_from 0 xs ≡ parts.branches
    → entry_rows_in f.styles 0 f.branches ≡ parts.entries → leg_rows_in 0 xs ≡ parts.legs
    → claim_rows_in 0 xs ≡ parts.claims
    → map (transfer_row xs) ts ≡ parts.transfers → part_rows ts ≡ parts.receipts → rows f ≡ parts
all_rows f parts styles xs ts h u b e l c t p =
    same_parts (rows f) parts (ap unit_rows (sym h.styled) ∙ u) (ap (branch_rows_from 0) (sym h.branched) ∙ b)
    e (ap (leg_rows_in 0) (sym h.branched) ∙ l) (ap (claim_rows_in 0) (sym h.branched) ∙ c)
    (ap (λ (us : List Transfer). map (transfer_row f.branches) us) (sym h.sent) ∙
    (ap (λ (ys : List Branch). map (transfer_row ys) ts) (sym h.branched) ∙ t))
    (ap part_rows (sym h.sent) ∙ p)
