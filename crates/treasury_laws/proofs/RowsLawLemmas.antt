-- two good states with the same rows are equal
use Rattle.std.proofs.Common.{◌≡◌, ◌+◌, ℕ, ℤ, pos, Bool, true, false, List, [], ◌∷◌, ◌++◌, refl, ap, ◌∙◌, sym, subst}
use Rattle.std.proofs.Common.{arith, map, Option, Some, None, Ok}
use Rattle.std.specs.Prelude.{Result}
use Rattle.std.specs.List.{list_any, slice_get, AllByRecursion}
use Rattle.std.specs.Option.{option_map}
use Rattle.std.proofs.lemmas.Int.{ints}
use Rattle.money_core.specs.declared.cause.Cause.{Cause}
use Rattle.money_core.specs.declared.day.Day.{Day}
use Rattle.money_core.specs.declared.unit.Unit.{Unit as Commodity}
use Rattle.money_core.specs.declared.mark.Mark.{Mark}
use Rattle.money_core.specs.declared.mark.Mark.TheVariants.{Point, Comma}
use Rattle.money_core.specs.declared.style.Style.{Style}
use Rattle.money_core.specs.Mark.{decimal_byte}
use Rattle.money_core.specs.Style.{AreStyles}
use Rattle.money_core.proofs.ListLemmas.{all_weaker}
use Rattle.book_core.specs.declared.entry.Entry.{Entry}
use Rattle.journal_format.specs.declared.txn.Located.{Located}
use Rattle.journal_format.specs.CanonicalText.{body_text, marked}
use Rattle.journal_format.specs.Pieces.{located}
use Rattle.journal_format.proofs.FaultLemmas.{one_list}
use Rattle.journal_balance.specs.Legs.{balanced_entry}
use Rattle.treasury_state.specs.declared.record.Record.{Record}
use Rattle.treasury_state.specs.declared.rows.UnitRow.{UnitRow}
use Rattle.treasury_state.specs.declared.rows.BranchRow.{BranchRow}
use Rattle.treasury_state.specs.declared.rows.EntryRow.{EntryRow}
use Rattle.treasury_state.specs.declared.rows.TransferRow.{TransferRow}
use Rattle.treasury_state.specs.declared.rows.Parts.{Parts}
use Rattle.treasury_state.specs.declared.transfer.Part.{Part}
use Rattle.treasury_state.specs.declared.transfer.Receipt.{Receipt}
use Rattle.treasury_state.specs.declared.transfer.Transfer.{Transfer}
use Rattle.treasury_state.specs.Federation.{Branch, Federation, has_name, name_place}
use Rattle.treasury_state.specs.Transfer.{has_id}
use Rattle.treasury_state.specs.Good.{IsGoodRecord, IsGoodTransfer, IsGoodState}
use Rattle.treasury_state.specs.Rows.{truth, unit_row, branch_row, branch_rows_from, entry_row, entry_rows_from}
use Rattle.treasury_state.specs.Rows.{entry_rows_in, transfer_row, part_row, part_rows, rows}
use Rattle.treasury_state.proofs.RestLemmas.{numbered, same_heads, same_tails}
use Rattle.treasury_state.proofs.UnitRowLemmas.{same_style}
use Rattle.treasury_state.proofs.EntryRowLemmas.{IsBodyOf, ReadsRow, printable_unmarked, body_reads, record_only}
use Rattle.treasury_state.proofs.BranchRowLemmas.{AreGood, own_rows, other_rows}
use Rattle.treasury_state.proofs.AskedLemmas.{HaveOwnIds}
use Rattle.treasury_state.proofs.OrderLemmas.{own_ids}
use Rattle.treasury_state.proofs.TransferRowLemmas.{numbered_const, name_found}
use Rattle.treasury_state.proofs.PartRowLemmas.{IsOf, same_part, own_rows as part_own_rows}
use Rattle.treasury_state.proofs.PartRowLemmas.{other_rows as part_other_rows}
use Rattle.treasury_laws.proofs.JoinedLemmas.{good_records}

-- lists with the same rows are equal, where items are
same_numbered : {X Y : Type 0} (g : ℕ → X → Y) (Q : X → Type 0)
    → ((n : ℕ) (x y : X) → Q x → Q y → g n x ≡ g n y → x ≡ y) → (n : ℕ) (xs ys : List X) → AllByRecursion Q xs
    → AllByRecursion Q ys
    → numbered g n xs ≡ numbered g n ys → xs ≡ ys
same_numbered g Q f n [] [] h k e = refl
same_numbered g Q f n [] (y ∷ ys) h k e = absurd cc
same_numbered g Q f n (x ∷ xs) [] h k e = absurd cc
same_numbered g Q f n (x ∷ xs) (y ∷ ys) h k e =
    let first = f n x y h.0 k.0 (same_heads (g n x) (g n y) (numbered g (n + 1) xs) (numbered g (n + 1) ys) e) in
    let others = same_numbered g Q f (n + 1) xs ys h.1 k.1
    (same_tails (g n x) (g n y) (numbered g (n + 1) xs) (numbered g (n + 1) ys) e) in
    ap (λ z. z ∷ xs) first ∙ ap (λ zs. y ∷ zs) others

all_any : {X : Type 0} (xs : List X) → AllByRecursion (λ x. Unit {0}) xs
all_any [] = tt
all_any (x ∷ xs) = (tt, all_any xs)

-- commodities
same_truth : (a b : Bool) → truth a ≡ truth b → a ≡ b
same_truth true true e = refl
same_truth false false e = refl
same_truth true false e = absurd (omega (arith, ints))
same_truth false true e = absurd (omega (arith, ints))

same_mark : (a b : Mark) → decimal_byte a ≡ decimal_byte b → a ≡ b
same_mark Point Point e = refl
same_mark Comma Comma e = refl
same_mark Point Comma e = absurd (omega arith)
same_mark Comma Point e = absurd (omega arith)

pub same_pos : (a b : ℕ) → pos a ≡ pos b → a ≡ b
same_pos a b e = let k : a ≡ b = cc in k

same_unit : (n : ℕ) (s t : Style) → Unit {0} → Unit {0} → unit_row n s ≡ unit_row n t → s ≡ t
same_unit n s t h k e =
    same_style s t (ap (λ (r : UnitRow). r.symbol) e) (same_truth s.left t.left (ap (λ (r : UnitRow). r.leftside) e))
    (same_truth s.spaced t.spaced (ap (λ (r : UnitRow). r.spaced) e))
    (same_mark s.mark t.mark (same_heads (decimal_byte s.mark) (decimal_byte t.mark) [] []
    (ap (λ (r : UnitRow). r.mark) e))) (same_pos s.decimals t.decimals (ap (λ (r : UnitRow). r.decimals) e))
    (same_truth s.grouped t.grouped (ap (λ (r : UnitRow). r.grouped) e))

-- records
same_entry : (a b : Entry) → ◌≡◌ {A = Result Entry Cause} (Ok a) (Ok b) → a ≡ b
same_entry a b e = let k : a ≡ b = cc in k

body_of : (styles : List Style) (r : Record) → IsGoodRecord styles r
    → IsBodyOf styles (body_text styles r.txn) (marked r.txn None)
body_of styles r good = (printable_unmarked styles r.txn good.printable, (refl, refl))

reads_of : (styles : List Style) → AreStyles styles → (b n : ℕ) (s : Record) → IsGoodRecord styles s
    → ReadsRow styles (entry_row styles b n s) (marked s.txn None) s.mark
reads_of styles are b n s good =
    let text = body_text styles s.txn in
    let own = marked s.txn None in
    record {
      text = text;
      body = refl;
      only = λ x p.
          let e = one_list styles text (located 1 x ∷ []) (located 1 own ∷ []) (body_reads styles are text x p)
          (body_reads styles are text own (body_of styles s good)) in
          ap (λ (y : Located). y.txn) (same_heads (located 1 x) (located 1 own) [] [] e);
      mark = refl;
    }

same_record : (styles : List Style) → AreStyles styles → (b n : ℕ) (r s : Record) → IsGoodRecord styles r
    → IsGoodRecord styles s → entry_row styles b n r ≡ entry_row styles b n s → r ≡ s
same_record styles are b n r s good other e =
    record_only styles b n (entry_row styles b n s) (marked s.txn None) s.mark s.mark s.entry
    (reads_of styles are b n s other) refl
    (λ x h. same_entry x s.entry (sym h ∙
    (ap (λ (o : Option (List ℕ)). balanced_entry styles (marked s.txn o)) (sym other.marked) ∙ other.legs))) r (good, e)
    ∙ ap (λ (o : Option (List ℕ)). let x : Record =
    record { mark = s.mark; txn = marked s.txn o; entry = s.entry } in x) (sym other.marked)

-- branches
same_split : {T : Type 0} (P : T → Type 0) (a b c d : List T) → AllByRecursion P a → AllByRecursion (λ r. P r → ⊥) b
    → AllByRecursion P c → AllByRecursion (λ r. P r → ⊥) d → a ++ b ≡ c ++ d → (a ≡ c) × (b ≡ d)
same_split P [] b [] d h i j k e = (refl, e)
same_split P [] b (y ∷ c) d h i j k e = absurd ((subst (AllByRecursion (λ r. P r → ⊥)) e i).0 j.0)
same_split P (x ∷ a) b [] d h i j k e = absurd ((subst (AllByRecursion (λ r. P r → ⊥)) (sym e) k).0 h.0)
same_split P (x ∷ a) b (y ∷ c) d h i j k e =
    let rest = same_split P a b c d h.1 i j.1 k (same_tails x y (a ++ b) (c ++ d) e) in
    (ap (λ z. z ∷ a) (same_heads x y (a ++ b) (c ++ d) e) ∙ ap (λ zs. y ∷ zs) rest.0, rest.1)

same_lock : (o p : Option Day) → option_map (λ (d : Day). d.0) o ≡ option_map (λ (d : Day). d.0) p → o ≡ p
same_lock None None e = refl
same_lock None (Some d) e = absurd cc
same_lock (Some d) None e = absurd cc
same_lock (Some c) (Some d) e =
    let k : c.0 ≡ d.0 = cc in ap (λ (z : ℤ). let o : Option Day = Some (record { 0 = z }) in o) k

same_branch : (x y : Branch) → x.name ≡ y.name → x.locked ≡ y.locked → x.records ≡ y.records → x ≡ y
same_branch x y a b c =
    ap (λ (n : List ℕ). let z : Branch = record { name = n; locked = x.locked; records = x.records } in z) a
    ∙ ap (λ (o : Option Day). let z : Branch = record { name = y.name; locked = o; records = x.records } in z) b
    ∙ ap (λ (rs : List Record). let z : Branch = record { name = y.name; locked = y.locked; records = rs } in z) c

same_branches : (styles : List Style) → AreStyles styles → (n : ℕ) (bs cs : List Branch) → AreGood styles bs
    → AreGood styles cs → branch_rows_from n bs ≡ branch_rows_from n cs
    → entry_rows_in styles n bs ≡ entry_rows_in styles n cs → bs ≡ cs
same_branches styles are n [] [] g h e f = refl
same_branches styles are n [] (y ∷ cs) g h e f = absurd cc
same_branches styles are n (x ∷ bs) [] g h e f = absurd cc
same_branches styles are n (x ∷ bs) (y ∷ cs) g h e f =
    let row = same_heads (branch_row n x) (branch_row n y) (branch_rows_from (n + 1) bs) (branch_rows_from (n + 1) cs)
    e in
    let split = same_split (λ (r : EntryRow). r.branch ≡ pos n) (entry_rows_from styles n 1 x.records)
    (entry_rows_in styles (n + 1) bs) (entry_rows_from styles n 1 y.records) (entry_rows_in styles (n + 1) cs)
    (own_rows styles n 1 x.records) (other_rows styles n (n + 1) bs (omega arith)) (own_rows styles n 1 y.records)
    (other_rows styles n (n + 1) cs (omega arith)) f in
    let records = same_numbered (entry_row styles n) (IsGoodRecord styles) (λ k r s. same_record styles are n k r s) 1
    x.records y.records g.0 h.0 split.0 in
    let first = same_branch x y (ap (λ (r : BranchRow). r.name) row)
    (same_lock x.locked y.locked (ap (λ (r : BranchRow). r.locked) row)) records in
    let others = same_branches styles are (n + 1) bs cs g.1 h.1
    (same_tails (branch_row n x) (branch_row n y) (branch_rows_from (n + 1) bs) (branch_rows_from (n + 1) cs) e) split.1
    in
    ap (λ z. z ∷ bs) first ∙ ap (λ zs. y ∷ zs) others

-- transfers
pub same_name : (bs : List Branch) (a b : List ℕ) → list_any (has_name a) bs ≡ true → list_any (has_name b) bs ≡ true
    → name_place bs a ≡ name_place bs b → a ≡ b
same_name bs a b h k e =
    let x = name_found bs a h in
    let y = name_found bs b k in
    let same : ◌≡◌ {A = Option Branch} (Some x.0) (Some y.0) = sym x.1.0 ∙ (ap (slice_get bs) e ∙ y.1.0) in
    let one : x.0 ≡ y.0 = cc in
    sym x.1.1 ∙ (ap (λ (z : Branch). z.name) one ∙ y.1.1)

same_receipt : (o p : Option Receipt)
    → option_map (λ (r : Receipt). r.day.0) o ≡ option_map (λ (r : Receipt). r.day.0) p
    → option_map (λ (r : Receipt). r.payee) o ≡ option_map (λ (r : Receipt). r.payee) p → o ≡ p
same_receipt None None e f = refl
same_receipt None (Some d) e f = absurd cc
same_receipt (Some d) None e f = absurd cc
same_receipt (Some c) (Some d) e f =
    let day : c.day.0 ≡ d.day.0 = cc in
    let payee : c.payee ≡ d.payee = cc in
    ap (λ (z : ℤ). let o : Option Receipt = Some (record { day = record { 0 = z }; payee = c.payee }) in o) day
    ∙ ap (λ (a : List ℕ). let o : Option Receipt = Some (record { day = d.day; payee = a }) in o) payee

-- both branches of a transfer are there
abbrev pub IsThere : List Branch → Transfer → Type 0
IsThere bs t = (list_any (has_name t.source) bs ≡ true) × (list_any (has_name t.target) bs ≡ true)

same_transfer_of : (t u : Transfer) → t.id ≡ u.id → t.source ≡ u.source → t.target ≡ u.target → t.unit ≡ u.unit
    → t.qty ≡ u.qty → t.day ≡ u.day → t.payer ≡ u.payer → t.parts ≡ u.parts → t.receipt ≡ u.receipt → t ≡ u
same_transfer_of t u a b c d e f g i h =
    ap (λ (x : List ℕ). let y : Transfer = record t { id = x } in y) a
    ∙ ap (λ (x : List ℕ). let y : Transfer = record t { id = u.id; source = x } in y) b
    ∙ ap (λ (x : List ℕ). let y : Transfer = record t { id = u.id; source = u.source; target = x } in y) c
    ∙ ap (λ (x : Commodity). let y : Transfer =
    record t { id = u.id; source = u.source; target = u.target; unit = x } in y) d
    ∙ ap (λ (x : ℤ). let y : Transfer =
    record t { id = u.id; source = u.source; target = u.target; unit = u.unit; qty = x } in y) e
    ∙ ap (λ (x : Day). let y : Transfer =
    record t { id = u.id; source = u.source; target = u.target; unit = u.unit; qty = u.qty; day = x } in y) f
    ∙ ap (λ (x : List ℕ). let y : Transfer = record u { payer = x; parts = t.parts; receipt = t.receipt } in y) g
    ∙ ap (λ (x : List Part). let y : Transfer = record u { parts = x; receipt = t.receipt } in y) i
    ∙ ap (λ (x : Option Receipt). let y : Transfer = record u { receipt = x } in y) h

same_row : (bs : List Branch) (t u : Transfer) → IsThere bs t → IsThere bs u → transfer_row bs t ≡ transfer_row bs u
    → t.parts ≡ u.parts → t ≡ u
same_row bs t u h k e parts =
    same_transfer_of t u (ap (λ (r : TransferRow). r.id) e)
    (same_name bs t.source u.source h.0 k.0
    (same_pos (name_place bs t.source) (name_place bs u.source) (ap (λ (r : TransferRow). r.source) e)))
    (same_name bs t.target u.target h.1 k.1
    (same_pos (name_place bs t.target) (name_place bs u.target) (ap (λ (r : TransferRow). r.target) e)))
    (ap (λ (z : ℕ). let x : Commodity = record { 0 = z } in x)
    (same_pos t.unit.0 u.unit.0 (ap (λ (r : TransferRow). r.unit) e)))
    (ap (λ (r : TransferRow). r.qty) e)
    (ap (λ (z : ℤ). let x : Day = record { 0 = z } in x) (ap (λ (r : TransferRow). r.dispatched) e))
    (ap (λ (r : TransferRow). r.payer) e)
    parts
    (same_receipt t.receipt u.receipt (ap (λ (r : TransferRow). r.received) e) (ap (λ (r : TransferRow). r.payee) e))

transfer_branches_there : (bs : List Branch) (ts : List Transfer) → AllByRecursion (IsGoodTransfer bs) ts
    → AllByRecursion (IsThere bs) ts
transfer_branches_there bs ts h = all_weaker (IsGoodTransfer bs) (IsThere bs) ts (λ t k. (k.source, k.target)) h

-- the rows of parts at the front are those of the first transfer, and the others those of the next ones
same_front : (id : List ℕ) (ps qs : List Part) (ts us : List Transfer) → list_any (has_id id) ts ≡ false
    → list_any (has_id id) us ≡ false → map (part_row id) ps ++ part_rows ts ≡ map (part_row id) qs ++ part_rows us
    → (ps ≡ qs) × (part_rows ts ≡ part_rows us)
same_front id ps qs ts us h k e =
    let split = same_split (IsOf id) (map (part_row id) ps) (part_rows ts) (map (part_row id) qs) (part_rows us)
    (part_own_rows id ps) (part_other_rows id ts h) (part_own_rows id qs) (part_other_rows id us k) e in (
      same_numbered (λ (n : ℕ). part_row id) (λ p. Unit {0}) (λ n p q h k f. same_part id p q f) 0 ps qs (all_any ps)
          (all_any qs) (numbered_const (part_row id) 0 ps ∙ (split.0 ∙ sym (numbered_const (part_row id) 0 qs))),
      split.1,
    )

same_transfers : (bs : List Branch) (ts us : List Transfer) → AllByRecursion (IsThere bs) ts
    → AllByRecursion (IsThere bs) us → HaveOwnIds ts → HaveOwnIds us
    → map (transfer_row bs) ts ≡ map (transfer_row bs) us → part_rows ts ≡ part_rows us → ts ≡ us
same_transfers bs [] [] h k m n e f = refl
same_transfers bs [] (u ∷ us) h k m n e f = absurd cc
same_transfers bs (t ∷ ts) [] h k m n e f = absurd cc
same_transfers bs (t ∷ ts) (u ∷ us) h k m n e f =
    let row = same_heads (transfer_row bs t) (transfer_row bs u) (map (transfer_row bs) ts) (map (transfer_row bs) us)
    e in
    let id : t.id ≡ u.id = ap (λ (r : TransferRow). r.id) row in
    let here : map (part_row t.id) t.parts ++ part_rows ts ≡ map (part_row t.id) u.parts ++ part_rows us =
    f ∙ ap (λ (k : List ℕ). map (part_row k) u.parts ++ part_rows us) (sym id) in
    let both = same_front t.id t.parts u.parts ts us m.0 (ap (λ (k : List ℕ). list_any (has_id k) us) id ∙ n.0) here in
    let first = same_row bs t u h.0 k.0 row both.0 in
    let others = same_transfers bs ts us h.1 k.1 m.1 n.1
    (same_tails (transfer_row bs t) (transfer_row bs u) (map (transfer_row bs) ts) (map (transfer_row bs) us) e) both.1
    in
    ap (λ (x : Transfer). x ∷ ts) first ∙ ap (λ (xs : List Transfer). u ∷ xs) others

pub same_state : (f g : Federation) → IsGoodState f → IsGoodState g → rows f ≡ rows g → f ≡ g
same_state f g good other e =
    let styles = same_numbered unit_row (λ s. Unit {0}) same_unit 0 f.styles g.styles (all_any f.styles)
    (all_any g.styles) (ap (λ (p : Parts). p.units) e) in
    let records = subst (λ (ss : List Style). AreGood ss f.branches) styles (good_records f good) in
    let entered = subst (λ (ss : List Style). entry_rows_in ss 0 f.branches ≡ entry_rows_in g.styles 0 g.branches)
    styles (ap (λ (p : Parts). p.entries) e) in
    let branches = same_branches g.styles other.styles 0 f.branches g.branches records (good_records g other)
    (ap (λ (p : Parts). p.branches) e) entered in
    let mine = subst (λ (bs : List Branch). AllByRecursion (IsThere bs) f.transfers) branches
    (transfer_branches_there f.branches f.transfers good.transfers) in
    let sent = subst (λ (bs : List Branch).
    map (transfer_row bs) f.transfers ≡ map (transfer_row g.branches) g.transfers) branches
    (ap (λ (p : Parts). p.transfers) e) in
    let transfers = same_transfers g.branches f.transfers g.transfers mine
    (transfer_branches_there g.branches g.transfers other.transfers) (own_ids f.transfers good.ids)
    (own_ids g.transfers other.ids) sent (ap (λ (p : Parts). p.receipts) e) in
    ap (λ (x : List Style). let y : Federation =
    record { styles = x; branches = f.branches; transfers = f.transfers } in y) styles
    ∙ ap (λ (x : List Branch). let y : Federation =
    record { styles = g.styles; branches = x; transfers = f.transfers } in y) branches
    ∙ ap (λ (x : List Transfer). let y : Federation =
    record { styles = g.styles; branches = g.branches; transfers = x } in y) transfers
