-- Rows that are numbered: one more commodity, branch or record, a lock.
use Rattle.std.proofs.Common.{◌≡◌, ℕ, ℤ, suc, ◌+◌, ◌<◌, ◌≤◌, ◌⊎◌, inl, inr, pos, Bool, true, false, cond, List, [], ◌∷◌}
use Rattle.std.proofs.Common.{◌++◌, map, length, get_or, set, refl, sym, ap, subst, ◌∙◌, IsPermutation, int_eq, arith}
use Rattle.std.proofs.Common.{bytes_eq, Some}
use Rattle.std.specs.Prelude.{if◌then◌else◌}
use Rattle.std.specs.List.{enumerate_from, flat_map}
use Rattle.std.proofs.lemmas.List.{map-append, append_assoc, append-nil, length-append}
use Rattle.std.proofs.lemmas.Grind.{flat_map-append}
use Rattle.std.proofs.lemmas.List.Sorted.{IsPermutation-trans, IsPermutation-append_right}
use Rattle.std.proofs.lemmas.Bool.Decides.{Decides-int_eq}
use Rattle.money_core.specs.declared.day.Day.{Day}
use Rattle.treasury_state.specs.declared.record.Record.{Record}
use Rattle.treasury_state.specs.declared.rows.BranchRow.{BranchRow}
use Rattle.treasury_state.specs.Federation.{Branch, name_place, names_of}
use Rattle.treasury_state.specs.Joined.{new_branch, with_records, with_lock, changed}
use Rattle.treasury_state.specs.Rows.{branch_row}
use Rattle.treasury_tables.specs.Rows.{row_locked}
use Rattle.treasury_tables.proofs.SameLemmas.{last_first, front_past}
use Rattle.treasury_store.specs.Numbers.{records_each}
use Rattle.treasury_store.specs.Changes.{place_in}

-- ---- places
pub place_named : (bs : List Branch) (name : List ℕ) → name_place bs name ≡ place_in (names_of bs) name
place_named [] name = refl
place_named (b ∷ bs) name = ap (λ (n : ℕ). if bytes_eq b.name name then 0 else suc n) (place_named bs name)

-- the place among some names and more
pub record IsFront (n p q : ℕ) : Type 0 where
  pub inside : p < n → q ≡ p
  pub past : n ≤ p → n ≤ q

front_at : (n p q : ℕ) (t : Bool) → IsFront n p q → IsFront (suc n) (if t then 0 else suc p) (if t then 0 else suc q)
front_at n p q true h = record { inside = λ _. refl; past = λ k. k }
front_at n p q false h = record {
  inside = λ k. ap suc (h.inside (omega (arith, k)));
  past = λ k.
      let l : n ≤ p = omega (arith, k) in omega (arith, h.past l);
}

pub front_place : (xs ys : List (List ℕ)) (name : List ℕ)
    → IsFront (length xs) (place_in xs name) (place_in (xs ++ ys) name)
front_place [] ys name = record { inside = λ k. absurd (omega (arith, k)); past = λ k. omega arith }
front_place (x ∷ xs) ys name =
    front_at (length xs) (place_in xs name) (place_in (xs ++ ys) name) (bytes_eq x name) (front_place xs ys name)

-- ---- one more at the end
pub enumerate-push : {X : Type 0} (n k : ℕ) (xs : List X) (x : X) → k ≡ n + length xs
    → enumerate_from n (xs ++ x ∷ []) ≡ enumerate_from n xs ++ (k, x) ∷ []
enumerate-push n k [] x e = let same : n ≡ k = omega (arith, e) in ap (λ (m : ℕ). (m, x) ∷ []) same
enumerate-push n k (y ∷ xs) x e = ap (λ l. (n, y) ∷ l) (enumerate-push (n + 1) k xs x (omega (arith, e)))

pub rows_push : {X Y : Type 0} (row : ℕ → X → Y) (xs : List X) (x : X)
    → map (λ (p : ℕ × X). row p.0 p.1) (enumerate_from 0 (xs ++ x ∷ []))
    ≡ map (λ (p : ℕ × X). row p.0 p.1) (enumerate_from 0 xs) ++ row (length xs) x ∷ []
rows_push {X} row xs x =
    ap (map (λ (p : ℕ × X). row p.0 p.1)) (enumerate-push 0 (length xs) xs x (omega arith)) ∙ map-append
    (λ (p : ℕ × X). row p.0 p.1) (enumerate_from 0 xs) ((length xs, x) ∷ [])

pub one_more : {X Y : Type 0} (row : ℕ → X → Y) (xs : List X) (x : X)
    → IsPermutation (row (length xs) x ∷ map (λ (p : ℕ × X). row p.0 p.1) (enumerate_from 0 xs))
    (map (λ (p : ℕ × X). row p.0 p.1) (enumerate_from 0 (xs ++ x ∷ [])))
one_more row xs x = subst (IsPermutation _) (sym (rows_push row xs x)) (last_first (row (length xs) x) _)

-- ---- the rows of records
module _ {Y : Type 0} (rows : ℕ → ℕ → Record → List Y) where
  -- those of a branch, and of branches from the n-th on
  abbrev pub rows_in : ℕ → List Record → List Y
  rows_in b rs = flat_map (λ (p : ℕ × Record). rows b p.0 p.1) (enumerate_from 1 rs)

  abbrev pub rows_from : ℕ → List Branch → List Y
  rows_from n bs = flat_map (λ (p : ℕ × Branch). rows_in p.0 p.1.records) (enumerate_from n bs)

  -- a new branch has none
  pub none_more : (bs : List Branch) (name : List ℕ) → rows_from 0 (bs ++ new_branch name ∷ []) ≡ rows_from 0 bs
  none_more bs name =
      ap (flat_map (λ (p : ℕ × Branch). rows_in p.0 p.1.records))
      (enumerate-push 0 (length bs) bs (new_branch name) (omega arith))
      ∙ (flat_map-append (λ (p : ℕ × Branch). rows_in p.0 p.1.records) (enumerate_from 0 bs)
      ((length bs, new_branch name) ∷ []) ∙ append-nil (rows_from 0 bs))

  record_push : (b k : ℕ) (rs : List Record) (r : Record) → k ≡ length rs
      → rows_in b (rs ++ r ∷ []) ≡ rows_in b rs ++ rows b (suc k) r
  record_push b k rs r e =
      ap (flat_map (λ (p : ℕ × Record). rows b p.0 p.1)) (enumerate-push 1 (suc k) rs r (omega (arith, e)))
      ∙ (flat_map-append (λ (p : ℕ × Record). rows b p.0 p.1) (enumerate_from 1 rs) ((suc k, r) ∷ []) ∙ ap
      (λ l. rows_in b rs ++ l) (append-nil (rows b (suc k) r)))

  -- a lock changes none
  lock_at : (n : ℕ) (b : Branch) (bs xs : List Branch) (day : Day) (t : Bool)
      → rows_from (n + 1) xs ≡ rows_from (n + 1) bs
      → rows_from n (if t then with_lock day b ∷ bs else b ∷ xs) ≡ rows_from n (b ∷ bs)
  lock_at n b bs xs day true h = refl
  lock_at n b bs xs day false h = ap (λ l. rows_in n b.records ++ l) h

  pub rows-locked : (n : ℕ) (day : Day) (name : List ℕ) (bs : List Branch)
      → rows_from n (changed (with_lock day) name bs) ≡ rows_from n bs
  rows-locked n day name [] = refl
  rows-locked n day name (b ∷ bs) =
      lock_at n b bs (changed (with_lock day) name bs) day (bytes_eq b.name name) (rows-locked (n + 1) day name bs)

  -- a record of the branch at its place adds its rows
  here_or_later : (n p k : ℕ) (r : Record) (b : Branch) (bs xs : List Branch) (q : ℕ) (ks : List ℕ) (t : Bool)
      → p ≡ n + (if t then 0 else suc q) → (if t then 0 else suc q) < suc (length bs)
      → k ≡ get_or (length b.records ∷ ks) (if t then 0 else suc q) 0
      → (p ≡ (n + 1) + q → q < length bs → k ≡ get_or ks q 0
      → IsPermutation (rows p (suc k) r ++ rows_from (n + 1) bs) (rows_from (n + 1) xs))
      → IsPermutation (rows p (suc k) r ++ rows_from n (b ∷ bs))
      (rows_from n (if t then with_records (r ∷ []) b ∷ bs else b ∷ xs))
  here_or_later n p k r b bs xs q ks true e h c later =
      let at : p ≡ n = omega (arith, e) in
      let made : rows_in n (b.records ++ r ∷ []) ++ rows_from (n + 1) bs
      ≡ rows_in n b.records ++ (rows p (suc k) r ++ rows_from (n + 1) bs) =
      ap (λ l. l ++ rows_from (n + 1) bs)
      (record_push n k b.records r c ∙ ap (λ (m : ℕ). rows_in n b.records ++ rows m (suc k) r) (sym at)) ∙
      append_assoc (rows_in n b.records) (rows p (suc k) r) (rows_from (n + 1) bs) in
      subst (IsPermutation _) (sym made) (front_past (rows p (suc k) r) (rows_in n b.records) (rows_from (n + 1) bs))
  here_or_later n p k r b bs xs q ks false e h c later =
      IsPermutation-trans _ _ _ (front_past (rows p (suc k) r) (rows_in n b.records) (rows_from (n + 1) bs))
      (IsPermutation-append_right (rows_in n b.records) _ _ (later (omega (arith, e)) (omega (arith, h)) c))

  pub record_in : (n p k : ℕ) (r : Record) (name : List ℕ) (bs : List Branch) → p ≡ n + name_place bs name
      → name_place bs name < length bs → k ≡ get_or (records_each bs) (name_place bs name) 0
      → IsPermutation (rows p (suc k) r ++ rows_from n bs) (rows_from n (changed (with_records (r ∷ [])) name bs))
  record_in n p k r name [] e h c = absurd (omega (arith, h))
  record_in n p k r name (b ∷ bs) e h c =
      here_or_later n p k r b bs (changed (with_records (r ∷ [])) name bs) (name_place bs name) (records_each bs)
      (bytes_eq b.name name) e h c (record_in (n + 1) p k r name bs)

-- ---- the rows of branches
abbrev pub branch_rows : ℕ → List Branch → List BranchRow
branch_rows n bs = map (λ (p : ℕ × Branch). branch_row p.0 p.1) (enumerate_from n bs)

record_at : (n : ℕ) (rs : List Record) (b : Branch) (bs xs : List Branch) (t : Bool)
    → branch_rows (n + 1) xs ≡ branch_rows (n + 1) bs
    → branch_rows n (if t then with_records rs b ∷ bs else b ∷ xs) ≡ branch_rows n (b ∷ bs)
record_at n rs b bs xs true h = refl
record_at n rs b bs xs false h = ap (λ l. branch_row n b ∷ l) h

-- a record changes none
pub branches-entered : (n : ℕ) (rs : List Record) (name : List ℕ) (bs : List Branch)
    → branch_rows n (changed (with_records rs) name bs) ≡ branch_rows n bs
branches-entered n rs name [] = refl
branches-entered n rs name (b ∷ bs) =
    record_at n rs b bs (changed (with_records rs) name bs) (bytes_eq b.name name) (branches-entered (n + 1) rs name bs)

same_nr : (n k : ℕ) → n ≡ k → int_eq (pos n) (pos k) ≡ true
same_nr n k e = (Decides-int_eq (pos n) (pos k)).1 (ap pos e)

other_test : (x y : ℤ) (b : Bool) → int_eq x y ≡ b → (x ≡ y → ⊥) → b ≡ false
other_test x y false e h = refl
other_test x y true e h = absurd (h ((Decides-int_eq x y).0 e))

other_nr : (n k : ℕ) → (n ≡ k → ⊥) → int_eq (pos n) (pos k) ≡ false
other_nr n k h = other_test (pos n) (pos k) _ refl (λ (e : pos n ≡ pos k). h (let same : n ≡ k = cc in same))

-- a lock by a number that none of them has
pub none_locked : (k n : ℕ) (day : ℤ) (bs : List Branch) → (k < n) ⊎ (n + length bs ≤ k)
    → map (row_locked (pos k) day) (branch_rows n bs) ≡ branch_rows n bs
none_locked k n day [] h = refl
none_locked k n day (b ∷ bs) h =
    let apart : (n ≡ k → ⊥) = λ e. elim h [ inl l ↦ omega (arith, e, l) | inr l ↦ omega (arith, e, l) ] in
    let rest : (k < n + 1) ⊎ ((n + 1) + length bs ≤ k) =
    elim h [ inl l ↦ inl (omega (arith, l)) | inr l ↦ inr (omega (arith, l)) ] in
    ap (λ (c : Bool). cond c (let r : BranchRow = record (branch_row n b) { locked = Some day } in r) (branch_row n b)
    ∷ map (row_locked (pos k) day) (branch_rows (n + 1) bs)) (other_nr n k apart)
    ∙ ap (λ l. branch_row n b ∷ l) (none_locked k (n + 1) day bs rest)

-- a lock by the number of the branch
locked_at : (k n : ℕ) (day : Day) (b : Branch) (bs xs : List Branch) (q : ℕ) (t : Bool)
    → k ≡ n + (if t then 0 else suc q)
    → (k ≡ (n + 1) + q → map (row_locked (pos k) day.0) (branch_rows (n + 1) bs) ≡ branch_rows (n + 1) xs)
    → map (row_locked (pos k) day.0) (branch_rows n (b ∷ bs)) ≡ branch_rows n
    (if t then with_lock day b ∷ bs else b ∷ xs)
locked_at k n day b bs xs q true e later =
    let here : n ≡ k = omega (arith, e) in
    ap (λ (c : Bool). cond c (let r : BranchRow = record (branch_row n b) { locked = Some day.0 } in r) (branch_row n b)
    ∷ map (row_locked (pos k) day.0) (branch_rows (n + 1) bs)) (same_nr n k here)
    ∙ ap (λ l. branch_row n (with_lock day b) ∷ l) (none_locked k (n + 1) day.0 bs (inl (omega (arith, e))))
locked_at k n day b bs xs q false e later =
    ap (λ (c : Bool). cond c (let r : BranchRow = record (branch_row n b) { locked = Some day.0 } in r) (branch_row n b)
    ∷ map (row_locked (pos k) day.0) (branch_rows (n + 1) bs)) (other_nr n k (λ f. omega (arith, e, f)))
    ∙ ap (λ l. branch_row n b ∷ l) (later (omega (arith, e)))

pub branch_locked : (k n : ℕ) (day : Day) (name : List ℕ) (bs : List Branch) → k ≡ n + name_place bs name
    → map (row_locked (pos k) day.0) (branch_rows n bs) ≡ branch_rows n (changed (with_lock day) name bs)
branch_locked k n day name [] e = refl
branch_locked k n day name (b ∷ bs) e =
    locked_at k n day b bs (changed (with_lock day) name bs) (name_place bs name) (bytes_eq b.name name) e
    (branch_locked k (n + 1) day name bs)

-- ---- how many records each branch has
each_at : (r : Record) (b : Branch) (bs xs : List Branch) (q : ℕ) (t : Bool)
    → records_each xs ≡ set (records_each bs) q (suc (get_or (records_each bs) q 0))
    → records_each (if t then with_records (r ∷ []) b ∷ bs else b ∷ xs)
    ≡ set (records_each (b ∷ bs)) (if t then 0 else suc q)
    (suc (get_or (records_each (b ∷ bs)) (if t then 0 else suc q) 0))
each_at r b bs xs q true h = ap (λ (n : ℕ). n ∷ records_each bs) (length-append b.records (r ∷ []) ∙ omega arith)
each_at r b bs xs q false h = ap (λ (l : List ℕ). length b.records ∷ l) h

pub each-entered : (r : Record) (name : List ℕ) (bs : List Branch)
    → records_each (changed (with_records (r ∷ [])) name bs)
    ≡ set (records_each bs) (name_place bs name) (suc (get_or (records_each bs) (name_place bs name) 0))
each-entered r name [] = refl
each-entered r name (b ∷ bs) = each_at r b bs (changed (with_records (r ∷ [])) name bs) (name_place bs name)
    (bytes_eq b.name name) (each-entered r name bs)

kept_at : (day : Day) (b : Branch) (bs xs : List Branch) (t : Bool) → records_each xs ≡ records_each bs
    → records_each (if t then with_lock day b ∷ bs else b ∷ xs) ≡ records_each (b ∷ bs)
kept_at day b bs xs true h = refl
kept_at day b bs xs false h = ap (λ (l : List ℕ). length b.records ∷ l) h

pub each-locked : (day : Day) (name : List ℕ) (bs : List Branch)
    → records_each (changed (with_lock day) name bs) ≡ records_each bs
each-locked day name [] = refl
each-locked day name (b ∷ bs) =
    kept_at day b bs (changed (with_lock day) name bs) (bytes_eq b.name name) (each-locked day name bs)

-- ---- names
names_at : (g : Branch → Branch) (b : Branch) (bs xs : List Branch) (t : Bool) → ((x : Branch) → (g x).name ≡ x.name)
    → names_of xs ≡ names_of bs → names_of (if t then g b ∷ bs else b ∷ xs) ≡ names_of (b ∷ bs)
names_at g b bs xs true k e = ap (λ (n : List ℕ). n ∷ names_of bs) (k b)
names_at g b bs xs false k e = ap (λ (ns : List (List ℕ)). b.name ∷ ns) e

pub names-changed : (g : Branch → Branch) (name : List ℕ) (bs : List Branch) → ((x : Branch) → (g x).name ≡ x.name)
    → names_of (changed g name bs) ≡ names_of bs
names-changed g name [] k = refl
names-changed g name (b ∷ bs) k =
    names_at g b bs (changed g name bs) (bytes_eq b.name name) k (names-changed g name bs k)
