-- What the changes by additions make of the rows of a state.
use Rattle.std.proofs.Common.{◌≡◌, ℕ, ℤ, zero, suc, ◌+◌, ◌<◌, ◌≤◌, ◌⊎◌, inl, inr, pos, Bool, true, false, cond, ◌||◌}
use Rattle.std.proofs.Common.{List, [], ◌∷◌, ◌++◌, map, length, get_or, set, refl, sym, ap, subst, subst₂, ◌∙◌}
use Rattle.std.proofs.Common.{IsPermutation, true≢false, arith, bytes_eq, Some, nat_lt}
use Rattle.std.specs.Prelude.{if◌then◌else◌}
use Rattle.std.specs.List.{enumerate_from, flat_map, list_any, AllByRecursion}
use Rattle.std.specs.Ordering.{is_lt}
use Rattle.std.proofs.lemmas.List.{map-append, append-nil, length-append, length-map, set_past}
use Rattle.std.proofs.lemmas.List.Concat.{flat_map_single}
use Rattle.std.proofs.lemmas.List.Sorted.{IsPermutation-refl, IsPermutation-trans, IsPermutation-cons}
use Rattle.std.proofs.lemmas.List.Sorted.{IsPermutation-map, IsPermutation-append, IsPermutation-append_right}
use Rattle.std.proofs.lemmas.Bool.{ltb-true, lt-ltb, or_parts}
use Rattle.money_core.specs.declared.day.Day.{Day}
use Rattle.money_core.specs.declared.style.Style.{Style}
use Rattle.money_core.proofs.BytesLemmas.{same_bytes}
use Rattle.book_core.specs.Account.{name_cmp}
use Rattle.journal_format.proofs.MoreStylesLemmas.{printable_stays}
use Rattle.treasury_state.specs.declared.record.Record.{Record}
use Rattle.treasury_state.specs.declared.transfer.Part.{Part}
use Rattle.treasury_state.specs.declared.transfer.Transfer.{Transfer}
use Rattle.treasury_state.specs.declared.delta.Addition.{Addition}
use Rattle.treasury_state.specs.declared.delta.Addition.TheVariants as add
use Rattle.treasury_state.specs.declared.rows.EntryRow.{EntryRow}
use Rattle.treasury_state.specs.declared.rows.LegRow.{LegRow}
use Rattle.treasury_state.specs.declared.rows.ClaimRow.{ClaimRow}
use Rattle.treasury_state.specs.declared.rows.TransferRow.{TransferRow}
use Rattle.treasury_state.specs.Federation.{Branch, Federation, has_name, name_place, names_of}
use Rattle.treasury_state.specs.Good.{IsGoodRecord, IsGoodBranch, IsGoodTransfer, IsGoodState}
use Rattle.treasury_state.specs.Joined.{new_branch, with_records, with_lock, changed, inserted, put_part, parts_with}
use Rattle.treasury_state.specs.Joined.{rest_with, with_receipt, received, with_entered, with_received, joined_one}
use Rattle.treasury_state.specs.Joined.{joined}
use Rattle.treasury_state.specs.Room.{IsRoomy}
use Rattle.treasury_state.specs.Rows.{unit_row, branch_row, entry_row, entry_rows_from, leg_rows, claim_rows}
use Rattle.treasury_state.specs.Rows.{transfer_row, part_row, part_rows, rows}
use Rattle.treasury_state.specs.Transfer.{is_all, has_id}
use Rattle.treasury_state.proofs.AskedLemmas.{HaveOwnIds}
use Rattle.treasury_state.proofs.BackLemmas.{room_back}
use Rattle.treasury_state.proofs.OrderLemmas.{own_ids}
use Rattle.treasury_state.proofs.PlaceLemmas.{changed_past}
use Rattle.treasury_laws.specs.History.{Grows}
use Rattle.treasury_laws.proofs.HeadlineLemmas.{grows_twice}
use Rattle.treasury_tables.specs.declared.change.Change.TheVariants as change
use Rattle.treasury_tables.specs.Rows.{Tables, row_locked, row_received as takes, written}
use Rattle.treasury_tables.proofs.SameLemmas.{Same, same_refl, same_trans, same_written, other_units, written-append}
use Rattle.treasury_tables.proofs.SameLemmas.{legs_written, claims_written, front_past, second_first}
use Rattle.treasury_store.specs.Numbers.{records_each, numbers_of}
use Rattle.treasury_store.specs.Store.{Finds, FindsAll}
use Rattle.treasury_store.specs.Changes.{Counts, branches_named, place_in, record_changes, receipt_change, changes_by}
use Rattle.treasury_store.specs.Changes.{counts_after}
use Rattle.treasury_store.specs.Changes.{changes_from, counts_after_all, styles_with_one, names_with_one, styles_with}
use Rattle.treasury_store.specs.Changes.{names_with}
use Rattle.treasury_store.specs.Changes.{counts_of_numbering, changes_of, numbers_with}
use Rattle.treasury_store.proofs.NumberedLemmas.{place_named, IsFront, front_place, one_more, rows_from}
use Rattle.treasury_store.proofs.NumberedLemmas.{none_more, rows-locked, record_in, branch_rows, branches-entered}
use Rattle.treasury_store.proofs.NumberedLemmas.{none_locked, branch_locked, each-entered, each-locked, names-changed}

-- ---- the rows of a state, with bodies under these styles and transfers between branches of these names
abbrev pub rows_under : List Style → List (List ℕ) → Federation → Tables
rows_under S N f = record {
  units = map (λ (p : ℕ × Style). unit_row p.0 p.1) (enumerate_from 0 f.styles);
  branches = branch_rows 0 f.branches;
  entries = flat_map (λ (p : ℕ × Branch). entry_rows_from S p.0 1 p.1.records) (enumerate_from 0 f.branches);
  legs = rows_from leg_rows 0 f.branches;
  claims = rows_from claim_rows 0 f.branches;
  transfers = map (transfer_row (branches_named N)) f.transfers;
  receipts = part_rows f.transfers;
}

same_rows : {X : Type 0} (xs ys : List X) → xs ≡ ys → IsPermutation xs ys
same_rows xs ys e = subst (IsPermutation xs) e (IsPermutation-refl xs)

lt_or_le : (p n : ℕ) → (p < n) ⊎ (n ≤ p)
lt_or_le p zero = inr (omega arith)
lt_or_le zero (suc n) = inl (omega arith)
lt_or_le (suc p) (suc n) = elim (lt_or_le p n) [ inl l ↦ inl (omega (arith, l)) | inr l ↦ inr (omega (arith, l)) ]

-- an entry's row alone
abbrev pub entry_alone : List Style → ℕ → ℕ → Record → List EntryRow
entry_alone S b n r = entry_row S b n r ∷ []

pub rows_from_entry_alone : (S : List Style) (bs : List Branch)
    → rows_from (entry_alone S) 0 bs
    ≡ flat_map (λ (p : ℕ × Branch). entry_rows_from S p.0 1 p.1.records) (enumerate_from 0 bs)
rows_from_entry_alone S bs = λ i. flat_map (λ (p : ℕ × Branch).
    flat_map_single (λ (q : ℕ × Record). entry_row S p.0 q.0 q.1) (enumerate_from 1 p.1.records) i)
    (enumerate_from 0 bs)

-- ---- transfers
inserted_at : (t x : Transfer) (xs : List Transfer) (c : Bool) → IsPermutation (t ∷ xs) (inserted t xs)
    → IsPermutation (t ∷ x ∷ xs) (if c then x ∷ inserted t xs else t ∷ x ∷ xs)
inserted_at t x xs true h = IsPermutation-trans _ _ _ (second_first t x xs) (IsPermutation-cons x _ _ h)
inserted_at t x xs false h = IsPermutation-refl (t ∷ x ∷ xs)

put_in : (t : Transfer) (ts : List Transfer) → IsPermutation (t ∷ ts) (inserted t ts)
put_in t [] = IsPermutation-refl (t ∷ [])
put_in t (x ∷ xs) = inserted_at t x xs (is_lt (name_cmp x.id t.id)) (put_in t xs)

none_taken : (bs : List Branch) (id : List ℕ) (day : ℤ) (payee : List ℕ) (ts : List Transfer)
    → list_any (has_id id) ts ≡ false → map (takes id day payee) (map (transfer_row bs) ts) ≡ map (transfer_row bs) ts
none_taken bs id day payee [] h = refl
none_taken bs id day payee (x ∷ xs) h =
    let n = or_parts (bytes_eq x.id id) (list_any (has_id id) xs) h in
    ap (λ (c : Bool). cond c (let r : TransferRow =
    record (transfer_row bs x) { received = Some day; payee = Some payee } in r) (transfer_row bs x)
    ∷ map (takes id day payee) (map (transfer_row bs) xs)) n.0
    ∙ ap (λ l. transfer_row bs x ∷ l) (none_taken bs id day payee xs n.1)

-- the row of a transfer whose rest is received, and of one of which a part is
rest_row : (bs : List Branch) (p : Part) (x : Transfer) → is_all p.key ≡ true
    → transfer_row bs (with_receipt p x) ≡ record (transfer_row bs x) { received = Some p.day.0; payee = Some p.payee }
rest_row bs p x e = ap (λ (b : Bool).
    transfer_row bs (record x { parts = parts_with b p x.parts; receipt = rest_with b p x.receipt })) e

part_leaves : (bs : List Branch) (p : Part) (x : Transfer) → is_all p.key ≡ false
    → transfer_row bs (with_receipt p x) ≡ transfer_row bs x
part_leaves bs p x e = ap (λ (b : Bool).
    transfer_row bs (record x { parts = parts_with b p x.parts; receipt = rest_with b p x.receipt })) e

taken_at : (bs : List Branch) (id : List ℕ) (p : Part) (x : Transfer) (xs : List Transfer) (c : Bool)
    → is_all p.key ≡ true → bytes_eq x.id id ≡ c → list_any (has_id x.id) xs ≡ false
    → map (takes id p.day.0 p.payee) (map (transfer_row bs) xs) ≡ map (transfer_row bs) (received id p xs)
    → map (takes id p.day.0 p.payee) (map (transfer_row bs) (x ∷ xs))
    ≡ map (transfer_row bs) (if c then with_receipt p x ∷ xs else x ∷ received id p xs)
taken_at bs id p x xs true all e own h =
    ap (λ (c : Bool). cond c (let y : TransferRow =
    record (transfer_row bs x) { received = Some p.day.0; payee = Some p.payee } in y) (transfer_row bs x)
    ∷ map (takes id p.day.0 p.payee) (map (transfer_row bs) xs)) e
    ∙ (ap (λ y. y ∷ map (takes id p.day.0 p.payee) (map (transfer_row bs) xs)) (sym (rest_row bs p x all))
    ∙ ap (λ l. transfer_row bs (with_receipt p x) ∷ l)
    (none_taken bs id p.day.0 p.payee xs
    (subst (λ (k : List ℕ). list_any (has_id k) xs ≡ false) (same_bytes x.id id e) own)))
taken_at bs id p x xs false all e own h =
    ap (λ (c : Bool). cond c (let y : TransferRow =
    record (transfer_row bs x) { received = Some p.day.0; payee = Some p.payee } in y) (transfer_row bs x)
    ∷ map (takes id p.day.0 p.payee) (map (transfer_row bs) xs)) e
    ∙ ap (λ l. transfer_row bs x ∷ l) h

takes_is_received : (bs : List Branch) (id : List ℕ) (p : Part) (ts : List Transfer) → is_all p.key ≡ true
    → HaveOwnIds ts
    → map (takes id p.day.0 p.payee) (map (transfer_row bs) ts) ≡ map (transfer_row bs) (received id p ts)
takes_is_received bs id p [] all h = refl
takes_is_received bs id p (x ∷ xs) all h =
    taken_at bs id p x xs (bytes_eq x.id id) all refl h.0 (takes_is_received bs id p xs all h.1)

-- a part leaves the rows of transfers
left_at : (bs : List Branch) (id : List ℕ) (p : Part) (x : Transfer) (xs : List Transfer) (c : Bool)
    → is_all p.key ≡ false → map (transfer_row bs) (received id p xs) ≡ map (transfer_row bs) xs
    → map (transfer_row bs) (if c then with_receipt p x ∷ xs else x ∷ received id p xs) ≡ map (transfer_row bs) (x ∷ xs)
left_at bs id p x xs true part h = ap (λ y. y ∷ map (transfer_row bs) xs) (part_leaves bs p x part)
left_at bs id p x xs false part h = ap (λ l. transfer_row bs x ∷ l) h

left_rows : (bs : List Branch) (id : List ℕ) (p : Part) (ts : List Transfer) → is_all p.key ≡ false
    → map (transfer_row bs) (received id p ts) ≡ map (transfer_row bs) ts
left_rows bs id p [] part = refl
left_rows bs id p (x ∷ xs) part = left_at bs id p x xs (bytes_eq x.id id) part (left_rows bs id p xs part)

-- and is one row more, up to order
put_permutes : (id : List ℕ) (p : Part) (ps : List Part)
    → IsPermutation (part_row id p ∷ map (part_row id) ps) (map (part_row id) (put_part p ps))
put_permutes id p [] = IsPermutation-refl _
put_permutes id p (x ∷ xs) = by_test (is_lt (name_cmp x.key p.key)) (put_permutes id p xs)
  where
    by_test : (c : Bool) → IsPermutation (part_row id p ∷ map (part_row id) xs) (map (part_row id) (put_part p xs))
        → IsPermutation (part_row id p ∷ part_row id x ∷ map (part_row id) xs)
        (map (part_row id) (if c then x ∷ put_part p xs else p ∷ x ∷ xs))
    by_test true h = IsPermutation-trans _ _ _ (second_first (part_row id p) (part_row id x) (map (part_row id) xs))
        (IsPermutation-cons (part_row id x) _ _ h)
    by_test false h = IsPermutation-refl _

more_at : (p : Part) (x : Transfer) (xs : List Transfer) → is_all p.key ≡ false
    → IsPermutation (part_row x.id p ∷ part_rows (x ∷ xs)) (part_rows (with_receipt p x ∷ xs))
more_at p x xs part =
    subst (λ (b : Bool). IsPermutation (part_row x.id p ∷ part_rows (x ∷ xs))
    (map (part_row x.id) (parts_with b p x.parts) ++ part_rows xs)) (sym part)
    (IsPermutation-append (part_row x.id p ∷ map (part_row x.id) x.parts) (map (part_row x.id) (put_part p x.parts))
    (part_rows xs) (part_rows xs) (put_permutes x.id p x.parts) (IsPermutation-refl (part_rows xs)))

one_row_more : (id : List ℕ) (p : Part) (ts : List Transfer) → is_all p.key ≡ false → list_any (has_id id) ts ≡ true
    → IsPermutation (part_row id p ∷ part_rows ts) (part_rows (received id p ts))
one_row_more id p [] part e = absurd cc
one_row_more id p (x ∷ xs) part e = by_test (bytes_eq x.id id) refl e (one_row_more id p xs part)
  where
    by_test : (b : Bool) → bytes_eq x.id id ≡ b → (b || list_any (has_id id) xs) ≡ true
        → (list_any (has_id id) xs ≡ true → IsPermutation (part_row id p ∷ part_rows xs) (part_rows (received id p xs)))
        → IsPermutation (part_row id p ∷ part_rows (x ∷ xs))
        (part_rows (if b then with_receipt p x ∷ xs else x ∷ received id p xs))
    by_test true g k later = subst (λ (m : List ℕ).
        IsPermutation (part_row m p ∷ part_rows (x ∷ xs)) (part_rows (with_receipt p x ∷ xs))) (same_bytes x.id id g)
        (more_at p x xs part)
    by_test false g k later =
        let front = map (part_row x.id) x.parts in
        IsPermutation-trans _ _ _ (front_past (part_row id p ∷ []) front (part_rows xs))
        (IsPermutation-append_right front _ _ (later k))

-- the receipt of the rest leaves the rows of parts
rest_leaves : (id : List ℕ) (p : Part) (ts : List Transfer) → is_all p.key ≡ true
    → part_rows (received id p ts) ≡ part_rows ts
rest_leaves id p [] all = refl
rest_leaves id p (x ∷ xs) all = by_test (bytes_eq x.id id) (rest_leaves id p xs all)
  where
    by_test : (b : Bool) → part_rows (received id p xs) ≡ part_rows xs
        → part_rows (if b then with_receipt p x ∷ xs else x ∷ received id p xs) ≡ part_rows (x ∷ xs)
    by_test true h = ap (λ (b : Bool). map (part_row x.id) (parts_with b p x.parts) ++ part_rows xs) all
    by_test false h = ap (λ l. map (part_row x.id) x.parts ++ l) h

-- and so does a new transfer
new_leaves : (t : Transfer) (ts : List Transfer) → t.parts ≡ [] → part_rows (inserted t ts) ≡ part_rows ts
new_leaves t [] e = ap (λ (ps : List Part). map (part_row t.id) ps ++ []) e
new_leaves t (x ∷ xs) e = by_test (is_lt (name_cmp x.id t.id)) (new_leaves t xs e)
  where
    by_test : (c : Bool) → part_rows (inserted t xs) ≡ part_rows xs
        → part_rows (if c then x ∷ inserted t xs else t ∷ x ∷ xs) ≡ part_rows (x ∷ xs)
    by_test true h = ap (λ l. map (part_row x.id) x.parts ++ l) h
    by_test false h = ap (λ (ps : List Part). map (part_row t.id) ps ++ part_rows (x ∷ xs)) e

-- ---- one addition
record_written : (e : EntryRow) (ls : List LegRow) (cs : List ClaimRow) (t : Tables)
    → Same (written (change.Entry e ∷ (map change.Leg ls ++ map change.Claim cs)) t)
    (record t { entries = e ∷ t.entries; legs = ls ++ t.legs; claims = cs ++ t.claims })
record_written e ls cs t =
    let u : Tables = record t { entries = e ∷ t.entries } in
    let v : Tables = record u { legs = ls ++ u.legs } in
    let w : Tables = record v { claims = cs ++ v.claims } in
    subst (λ x. Same x w) (sym (written-append (map change.Leg ls) (map change.Claim cs) u))
    (same_trans (written (map change.Claim cs) (written (map change.Leg ls) u)) (written (map change.Claim cs) v) w
    (same_written (map change.Claim cs) _ v (legs_written ls u)) (claims_written cs v))

module _ (S : List Style) (N : List (List ℕ)) (f : Federation) (more : List (List ℕ))
    (names : N ≡ names_of f.branches ++ more) where
  abbrev bs : List Branch
  bs = f.branches

  pub place_front : (name : List ℕ) → IsFront (length bs) (name_place bs name) (place_in N name)
  place_front name =
      subst₂ (λ (n p : ℕ). IsFront n p (place_in N name)) (length-map bs (λ (b : Branch). b.name))
      (sym (place_named bs name))
      (subst (λ (ns : List (List ℕ)). IsFront (length (names_of bs)) (place_in (names_of bs) name) (place_in ns name))
      (sym names) (front_place (names_of bs) more name))

  -- where the name is among those of the branches, its place is the same; else it is past them
  pub place_same : (name : List ℕ) → place_in N name < length bs → place_in N name ≡ name_place bs name
  place_same name h = let w = place_front name in elim (lt_or_le (name_place bs name) (length bs))
      [ inl l ↦ w.inside l | inr l ↦ absurd (omega (arith, w.past l, h)) ]

  place_past : (name : List ℕ) → length bs ≤ place_in N name → length bs ≤ name_place bs name
  place_past name h = let w = place_front name in elim (lt_or_le (name_place bs name) (length bs))
      [ inl l ↦ absurd (omega (arith, w.inside l, l, h)) | inr l ↦ l ]

  count_of : length (records_each bs) ≡ length bs
  count_of = length-map bs (λ (b : Branch). length b.records)

  branch_step : (name : List ℕ) → Same
      (written (changes_by S N (counts_of_numbering (numbers_of f)) (add.Branch name)) (rows_under S N f))
      (rows_under S N (joined_one f (add.Branch name)))
  branch_step name = record {
    units = IsPermutation-refl (rows_under S N f).units;
    transfers = IsPermutation-refl (rows_under S N f).transfers;
    receipts = IsPermutation-refl (rows_under S N f).receipts;
    branches = subst (λ (n : ℕ). IsPermutation (branch_row n (new_branch name) ∷ branch_rows 0 bs)
        (branch_rows 0 (bs ++ new_branch name ∷ []))) (sym count_of) (one_more branch_row bs (new_branch name));
    entries = same_rows _ _ (sym (sym (rows_from_entry_alone S (bs ++ new_branch name ∷ [])) ∙
        (none_more (entry_alone S) bs name ∙ rows_from_entry_alone S bs)));
    legs = same_rows _ _ (sym (none_more leg_rows bs name));
    claims = same_rows _ _ (sym (none_more claim_rows bs name));
  }

  record_in_place : (name : List ℕ) (r : Record) → place_in N name < length bs
      → Same (written (record_changes S (place_in N name) (suc (get_or (records_each bs) (place_in N name) 0)) r)
      (rows_under S N f)) (rows_under S N (with_entered f name (r ∷ [])))
  record_in_place name r h =
      let p = place_in N name in
      let k = get_or (records_each bs) p 0 in
      let same = place_same name h in
      let at : p ≡ 0 + name_place bs name = omega (arith, same) in
      let low : name_place bs name < length bs = omega (arith, same, h) in
      let count : k ≡ get_or (records_each bs) (name_place bs name) 0 =
      ap (λ (q : ℕ). get_or (records_each bs) q 0) same in
      let t = rows_under S N f in
      let mid : Tables = record t {
        entries = entry_row S p (suc k) r ∷ t.entries;
        legs = leg_rows p (suc k) r ++ t.legs;
        claims = claim_rows p (suc k) r ++ t.claims;
      } in
      same_trans _ mid _ (record_written (entry_row S p (suc k) r) (leg_rows p (suc k) r) (claim_rows p (suc k) r) t)
      (record {
        units = IsPermutation-refl t.units;
        branches = same_rows _ _ (sym (branches-entered 0 (r ∷ []) name bs));
        entries = subst₂ (λ xs ys. IsPermutation (entry_row S p (suc k) r ∷ xs) ys) (rows_from_entry_alone S bs)
            (rows_from_entry_alone S (changed (with_records (r ∷ [])) name bs))
            (record_in (entry_alone S) 0 p k r name bs at low count);
        legs = record_in leg_rows 0 p k r name bs at low count;
        claims = record_in claim_rows 0 p k r name bs at low count;
        transfers = IsPermutation-refl t.transfers;
        receipts = IsPermutation-refl t.receipts;
      })

  entered_nowhere : (name : List ℕ) (r : Record) → length bs ≤ place_in N name → with_entered f name (r ∷ []) ≡ f
  entered_nowhere name r h = ap (λ (xs : List Branch). let g : Federation = record f { branches = xs } in g)
      (changed_past (with_records (r ∷ [])) name bs (place_past name h))

  record_step : (name : List ℕ) (r : Record) (c : Bool) → nat_lt (place_in N name) (length (records_each bs)) ≡ c
      → Same (written (if c then record_changes S (place_in N name) (suc (get_or (records_each bs) (place_in N name) 0))
      r else []) (rows_under S N f)) (rows_under S N (with_entered f name (r ∷ [])))
  record_step name r true e =
      record_in_place name r (omega (arith, ltb-true (place_in N name) (length (records_each bs)) e, count_of))
  record_step name r false e =
      let past : length bs ≤ place_in N name =
      elim (lt_or_le (place_in N name) (length bs)) [
        | inl l ↦ absurd
            (true≢false (sym (lt-ltb (place_in N name) (length (records_each bs)) (omega (arith, l, count_of))) ∙ e))
        | inr l ↦ l
      ] in
      subst (λ (g : Federation). Same (rows_under S N f) (rows_under S N g)) (sym (entered_nowhere name r past))
      (same_refl (rows_under S N f))

  lock_rows : (name : List ℕ) (day : Day)
      → map (row_locked (pos (place_in N name)) day.0) (branch_rows 0 bs) ≡ branch_rows 0
      (changed (with_lock day) name bs)
  lock_rows name day = elim (lt_or_le (place_in N name) (length bs)) [
    | inl l ↦ branch_locked (place_in N name) 0 day name bs (let same = place_same name l in omega (arith, same))
    | inr l ↦ none_locked (place_in N name) 0 day.0 bs (inr (omega (arith, l))) ∙ ap (branch_rows 0)
        (sym (changed_past (with_lock day) name bs (place_past name l)))
  ]

  lock_step : (name : List ℕ) (day : Day)
      → Same (written (changes_by S N (counts_of_numbering (numbers_of f)) (add.Locked name day)) (rows_under S N f))
      (rows_under S N (joined_one f (add.Locked name day)))
  lock_step name day = record {
    units = IsPermutation-refl (rows_under S N f).units;
    transfers = IsPermutation-refl (rows_under S N f).transfers;
    receipts = IsPermutation-refl (rows_under S N f).receipts;
    branches = same_rows _ _ (lock_rows name day);
    entries = same_rows _ _ (sym (sym (rows_from_entry_alone S (changed (with_lock day) name bs)) ∙
        (rows-locked (entry_alone S) 0 day name bs ∙ rows_from_entry_alone S bs)));
    legs = same_rows _ _ (sym (rows-locked leg_rows 0 day name bs));
    claims = same_rows _ _ (sym (rows-locked claim_rows 0 day name bs));
  }

  received_step : (id : List ℕ) (p : Part) (b : Bool) → is_all p.key ≡ b → HaveOwnIds f.transfers
      → (is_all p.key ≡ false → list_any (has_id id) f.transfers ≡ true)
      → Same (written (receipt_change b id p ∷ []) (rows_under S N f)) (rows_under S N (with_received f id p))
  received_step id p true e h found =
      let t = rows_under S N f in
      record {
        units = IsPermutation-refl t.units;
        branches = IsPermutation-refl t.branches;
        entries = IsPermutation-refl t.entries;
        legs = IsPermutation-refl t.legs;
        claims = IsPermutation-refl t.claims;
        transfers = same_rows _ _ (takes_is_received (branches_named N) id p f.transfers e h);
        receipts = same_rows _ _ (sym (rest_leaves id p f.transfers e));
      }
  received_step id p false e h found =
      let t = rows_under S N f in
      record {
        units = IsPermutation-refl t.units;
        branches = IsPermutation-refl t.branches;
        entries = IsPermutation-refl t.entries;
        legs = IsPermutation-refl t.legs;
        claims = IsPermutation-refl t.claims;
        transfers = same_rows _ _ (sym (left_rows (branches_named N) id p f.transfers e));
        receipts = one_row_more id p f.transfers e (found e);
      }

  dispatched_step : (t : Transfer) → t.parts ≡ []
      → Same (written (changes_by S N (counts_of_numbering (numbers_of f)) (add.Dispatched t)) (rows_under S N f))
      (rows_under S N (joined_one f (add.Dispatched t)))
  dispatched_step t e =
      let u = rows_under S N f in
      record {
        units = IsPermutation-refl u.units;
        branches = IsPermutation-refl u.branches;
        entries = IsPermutation-refl u.entries;
        legs = IsPermutation-refl u.legs;
        claims = IsPermutation-refl u.claims;
        transfers = IsPermutation-map (transfer_row (branches_named N)) (t ∷ f.transfers) (inserted t f.transfers)
            (put_in t f.transfers);
        receipts = same_rows _ _ (sym (new_leaves t f.transfers e));
      }

  pub written_step : (x : Addition) → HaveOwnIds f.transfers → Finds f x
      → Same (written (changes_by S N (counts_of_numbering (numbers_of f)) x) (rows_under S N f))
      (rows_under S N (joined_one f x))
  written_step (add.Commodity style) h found =
      let t = rows_under S N f in other_units t t _ _ (same_refl t) (one_more unit_row f.styles style)
  written_step (add.Branch name) h found = branch_step name
  written_step (add.Record name r) h found =
      record_step name r (nat_lt (place_in N name) (length (records_each bs))) refl
  written_step (add.Dispatched t) h found = dispatched_step t found
  written_step (add.Received id p) h found = received_step id p (is_all p.key) refl h found
  written_step (add.Locked name day) h found = lock_step name day

  -- the counts after it are those of the next state
  one_count : (name : List ℕ) (r : Record)
      → set (records_each bs) (place_in N name) (suc (get_or (records_each bs) (place_in N name) 0))
      ≡ records_each (changed (with_records (r ∷ [])) name bs)
  one_count name r = elim (lt_or_le (place_in N name) (length bs)) [
    | inl l ↦ ap (λ (p : ℕ). set (records_each bs) p (suc (get_or (records_each bs) p 0))) (place_same name l) ∙ sym
        (each-entered r name bs)
    | inr l ↦ set_past (records_each bs) (place_in N name) _ (omega (arith, l, count_of)) ∙ ap records_each
        (sym (changed_past (with_records (r ∷ [])) name bs (place_past name l)))
  ]

  abbrev counts_as : ℕ → List ℕ → Counts
  counts_as n ks = record { units = n; records = ks }

  pub count_step : (x : Addition)
      → counts_after N (counts_of_numbering (numbers_of f)) x ≡ counts_of_numbering (numbers_of (joined_one f x))
  count_step (add.Commodity style) =
      ap (λ (n : ℕ). counts_as n (records_each bs)) (let l = length-append f.styles (style ∷ []) in omega (arith, l))
  count_step (add.Branch name) =
      ap (counts_as (length f.styles)) (sym (map-append (λ (b : Branch). length b.records) bs (new_branch name ∷ [])))
  count_step (add.Record name r) = ap (counts_as (length f.styles)) (one_count name r)
  count_step (add.Dispatched t) = refl
  count_step (add.Received id p) = refl
  count_step (add.Locked name day) = ap (counts_as (length f.styles)) (sym (each-locked day name bs))

-- ---- styles and names grow
style_joined : (f : Federation) (x : Addition) → styles_with_one f.styles x ≡ (joined_one f x).styles
style_joined f (add.Commodity style) = refl
style_joined f (add.Branch name) = refl
style_joined f (add.Record name r) = refl
style_joined f (add.Dispatched t) = refl
style_joined f (add.Received id p) = refl
style_joined f (add.Locked name day) = refl

pub styles_joined : (xs : List Addition) (f : Federation) → styles_with f.styles xs ≡ (joined f xs).styles
styles_joined [] f = refl
styles_joined (x ∷ xs) f =
    ap (λ (styles : List Style). styles_with styles xs) (style_joined f x) ∙ styles_joined xs (joined_one f x)

name_joined : (f : Federation) (x : Addition)
    → names_with_one (names_of f.branches) x ≡ names_of (joined_one f x).branches
name_joined f (add.Commodity style) = refl
name_joined f (add.Branch name) = sym (map-append (λ (b : Branch). b.name) f.branches (new_branch name ∷ []))
name_joined f (add.Record name r) = sym (names-changed (with_records (r ∷ [])) name f.branches (λ b. refl))
name_joined f (add.Dispatched t) = refl
name_joined f (add.Received id p) = refl
name_joined f (add.Locked name day) = sym (names-changed (with_lock day) name f.branches (λ b. refl))

pub names_joined : (xs : List Addition) (f : Federation)
    → names_with (names_of f.branches) xs ≡ names_of (joined f xs).branches
names_joined [] f = refl
names_joined (x ∷ xs) f =
    ap (λ (ns : List (List ℕ)). names_with ns xs) (name_joined f x) ∙ names_joined xs (joined_one f x)

style_grows : (styles : List Style) (x : Addition) → Grows styles (styles_with_one styles x)
style_grows styles (add.Commodity style) = (style ∷ [], refl)
style_grows styles (add.Branch name) = ([], sym (append-nil styles))
style_grows styles (add.Record name r) = ([], sym (append-nil styles))
style_grows styles (add.Dispatched t) = ([], sym (append-nil styles))
style_grows styles (add.Received id p) = ([], sym (append-nil styles))
style_grows styles (add.Locked name day) = ([], sym (append-nil styles))

pub styles_grow : (xs : List Addition) (styles : List Style) → Grows styles (styles_with styles xs)
styles_grow [] styles = ([], sym (append-nil styles))
styles_grow (x ∷ xs) styles = grows_twice styles (styles_with_one styles x) (styles_with (styles_with_one styles x) xs)
    (style_grows styles x) (styles_grow xs (styles_with_one styles x))

name_grows : (names : List (List ℕ)) (x : Addition) → Grows names (names_with_one names x)
name_grows names (add.Commodity style) = ([], sym (append-nil names))
name_grows names (add.Branch name) = (name ∷ [], refl)
name_grows names (add.Record name r) = ([], sym (append-nil names))
name_grows names (add.Dispatched t) = ([], sym (append-nil names))
name_grows names (add.Received id p) = ([], sym (append-nil names))
name_grows names (add.Locked name day) = ([], sym (append-nil names))

names_grow : (xs : List Addition) (names : List (List ℕ)) → Grows names (names_with names xs)
names_grow [] names = ([], sym (append-nil names))
names_grow (x ∷ xs) names =
    grows_twice names (names_with_one names x) (names_with (names_with_one names x) xs) (name_grows names x)
    (names_grow xs (names_with_one names x))

pub names_grown : (xs : List Addition) (f : Federation) (N : List (List ℕ)) → N ≡ names_of (joined f xs).branches
    → Grows (names_of f.branches) N
names_grown xs f N e = let w = names_grow xs (names_of f.branches) in (w.0, e ∙ (sym (names_joined xs f) ∙ w.1))

-- ---- all additions
pub all_counted : (N : List (List ℕ)) (xs : List Addition) (f : Federation) → N ≡ names_of (joined f xs).branches
    → counts_after_all N (counts_of_numbering (numbers_of f)) xs ≡ counts_of_numbering (numbers_of (joined f xs))
all_counted N [] f e = refl
all_counted N (x ∷ xs) f e =
    let w = names_grown (x ∷ xs) f N e in
    ap (λ (c : Counts). counts_after_all N c xs) (count_step [] N f w.0 w.1 x) ∙ all_counted N xs (joined_one f x) e

pub numbers_joined : (f : Federation) (xs : List Addition) → numbers_with (numbers_of f) xs ≡ numbers_of (joined f xs)
numbers_joined f xs =
    let N = names_with (names_of f.branches) xs in
    let counts = all_counted N xs f (names_joined xs f) in
    λ i. record { styles = styles_joined xs f i; names = names_joined xs f i; records = (counts i).records }

all_written : (S : List Style) (N : List (List ℕ)) (xs : List Addition) (f : Federation)
    → N ≡ names_of (joined f xs).branches → IsRoomy (joined f xs) → FindsAll f xs
    → Same (written (changes_from S N (counts_of_numbering (numbers_of f)) xs) (rows_under S N f))
    (rows_under S N (joined f xs))
all_written S N [] f e room found = same_refl (rows_under S N f)
all_written S N (x ∷ xs) f e room found =
    let w = names_grown (x ∷ xs) f N e in
    let c = counts_of_numbering (numbers_of f) in
    let next = joined_one f x in
    let first = changes_by S N c x in
    let rest = changes_from S N (counts_after N c x) xs in
    let one = written_step S N f w.0 w.1 x (own_ids f.transfers (room_back (x ∷ xs) f room).ids) found.0 in
    let later = subst (λ (d : Counts).
    Same (written (changes_from S N d xs) (rows_under S N next)) (rows_under S N (joined next xs)))
    (sym (count_step S N f w.0 w.1 x)) (all_written S N xs next e room found.1) in
    subst (λ u. Same u (rows_under S N (joined next xs))) (sym (written-append first rest (rows_under S N f)))
    (same_trans (written rest (written first (rows_under S N f))) (written rest (rows_under S N next))
    (rows_under S N (joined next xs))
    (same_written rest (written first (rows_under S N f)) (rows_under S N next) one) later)

-- ---- the rows of a good state, and those under more styles and names
entry_grown : (styles more : List Style) (b n : ℕ) (rs : List Record) → AllByRecursion (IsGoodRecord styles) rs
    → entry_rows_from (styles ++ more) b n rs ≡ entry_rows_from styles b n rs
entry_grown styles more b n [] h = refl
entry_grown styles more b n (r ∷ rs) h =
    let body = (printable_stays styles more r.txn h.0.printable).body in
    ap (λ (text : List ℕ). (let e : EntryRow =
    record { branch = pos b; nr = pos n; day = r.entry.day.0; mark = r.mark; body = text } in e)
    ∷ entry_rows_from (styles ++ more) b (n + 1) rs) body
    ∙ ap (λ l. entry_row styles b n r ∷ l) (entry_grown styles more b (n + 1) rs h.1)

entries_grown : (styles more : List Style) (n : ℕ) (bs : List Branch) → AllByRecursion (IsGoodBranch styles) bs
    → flat_map (λ (p : ℕ × Branch). entry_rows_from (styles ++ more) p.0 1 p.1.records) (enumerate_from n bs)
    ≡ flat_map (λ (p : ℕ × Branch). entry_rows_from styles p.0 1 p.1.records) (enumerate_from n bs)
entries_grown styles more n [] h = refl
entries_grown styles more n (b ∷ bs) h =
    ap (λ l. l ++ flat_map (λ (p : ℕ × Branch). entry_rows_from (styles ++ more) p.0 1 p.1.records)
    (enumerate_from (n + 1) bs)) (entry_grown styles more n 1 b.records h.0.records)
    ∙ ap (λ l. entry_rows_from styles n 1 b.records ++ l) (entries_grown styles more (n + 1) bs h.1)

there_at : (n p : ℕ) (t u : Bool) → (t || u) ≡ true → (u ≡ true → p < n) → (if t then 0 else suc p) < suc n
there_at n p true u h k = omega arith
there_at n p false u h k = omega (arith, k h)

name_place_inside : (name : List ℕ) (bs : List Branch) → list_any (has_name name) bs ≡ true
    → name_place bs name < length bs
name_place_inside name [] h = absurd (let no : false ≡ true = h in cc)
name_place_inside name (b ∷ bs) h =
    there_at (length bs) (name_place bs name) (bytes_eq b.name name) (list_any (has_name name) bs) h
    (name_place_inside name bs)

abbrev between : Transfer → ℕ → ℕ → TransferRow
between t a b = record (transfer_row [] t) { source = pos a; target = pos b }

transfers_grown : (N more : List (List ℕ)) (bs : List Branch) (ts : List Transfer) → N ≡ names_of bs ++ more
    → AllByRecursion (IsGoodTransfer bs) ts → map (transfer_row (branches_named N)) ts ≡ map (transfer_row bs) ts
transfers_grown N more held [] e h = refl
transfers_grown N more held (t ∷ ts) e h =
    let f : Federation = record { styles = []; branches = held; transfers = [] } in
    let source = (place_front [] N f more e t.source).inside (name_place_inside t.source held h.0.source) in
    let target = (place_front [] N f more e t.target).inside (name_place_inside t.target held h.0.target) in
    λ i. between t (source i) (target i) ∷ transfers_grown N more held ts e h.1 i

rows_before : (f : Federation) (more : List Style) (N others : List (List ℕ)) → IsGoodState f
    → N ≡ names_of f.branches ++ others → rows_under (f.styles ++ more) N f ≡ rows f
rows_before f more N others good e =
    let entries = entries_grown f.styles more 0 f.branches good.branches in
    let transfers = transfers_grown N others f.branches f.transfers e good.transfers in
    λ i. record (rows f) { entries = entries i; transfers = transfers i }

-- The law: written to the rows of a good state, the changes by additions make those of the joined state, if that is
-- good.
pub writes_joined : (f : Federation) (xs : List Addition) → IsGoodState f → IsGoodState (joined f xs)
    → IsRoomy (joined f xs) → FindsAll f xs
    → Same (written (changes_of (numbers_of f) xs) (rows f)) (rows (joined f xs))
writes_joined f xs good next room found =
    let S = styles_with f.styles xs in
    let N = names_with (names_of f.branches) xs in
    let s = styles_grow xs f.styles in
    let n = names_grow xs (names_of f.branches) in
    let before : rows_under S N f ≡ rows f =
    ap (λ (styles : List Style). rows_under styles N f) s.1 ∙ rows_before f s.0 N n.0 good n.1 in
    let last = joined f xs in
    let behind : rows_under S N last ≡ rows last =
    ap (λ (styles : List Style). rows_under styles N last) (styles_joined xs f ∙ sym (append-nil last.styles)) ∙
    rows_before last [] N [] next (names_joined xs f ∙ sym (append-nil (names_of last.branches))) in
    subst₂ (λ t u. Same (written (changes_of (numbers_of f) xs) t) u) before behind
    (all_written S N xs f (names_joined xs f) room found)
