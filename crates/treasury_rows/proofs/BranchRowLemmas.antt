-- branches, read from their rows and those of their entries
use Rattle.std.proofs.Common.{◌≡◌, ◌<◌, ◌≤◌, ◌+◌, ℕ, zero, suc, pos, List, [], ◌∷◌, ◌++◌, length, take, drop, get_or}
use Rattle.std.proofs.Common.{refl, ap, ◌∙◌, sym, subst, arith, append_assoc, append-nil, inr, Option, Some, None, ℤ}
use Rattle.std.proofs.Common.{FitsSigned, IfSome, w64, to_z, of_z, Bool, true}
use Rattle.std.specs.Prelude.{◌==◌}
use Rattle.std.specs.List.{AllByRecursion}
use Rattle.std.specs.Option.{option_map}
use Rattle.std.proofs.lemmas.Bool.{eqb-true}
use Rattle.std.proofs.lemmas.List.{drop_all, take_more, take-append-drop, nil_from_length}
use Rattle.std.proofs.lemmas.Int.{to_z-of_z}
use Rattle.money_core.specs.declared.cause.Cause.{Cause}
use Rattle.money_core.specs.declared.cause.Cause.TheVariants.{Damaged}
use Rattle.money_core.specs.declared.day.Day.{Day}
use Rattle.money_core.specs.declared.style.Style.{Style}
use Rattle.money_core.proofs.ListLemmas.{drop_at, all-append}
use Rattle.treasury_state.specs.declared.record.Record.{Record}
use Rattle.treasury_state.specs.declared.rows.BranchRow.{BranchRow}
use Rattle.treasury_state.specs.declared.rows.EntryRow.{EntryRow}
use Rattle.treasury_state.specs.Federation.{Branch}
use Rattle.treasury_state.specs.Good.{IsGoodRecord, IsShort}
use Rattle.treasury_state.specs.Rows.{branch_row, branch_rows_from, entry_rows_from, entry_rows_in}
use Rattle.treasury_state.proofs.RestLemmas.{same_heads, same_tails}
use Rattle.treasury_state.proofs.BranchRowLemmas.{own_rows, other_rows}
use Rattle.treasury_rows.specs.Drafted.{IsFault, IsKeepable}
use Rattle.treasury_rows.proofs.DraftLemmas.{fault_of, all_middle}

pub all_more : {T : Type 0} (P : T → Type 0) (rows : List T) (i : ℕ) (row : T) → i < length rows
    → row ≡ get_or rows i row → AllByRecursion P (take i rows) → P row → AllByRecursion P (take (i + 1) rows)
all_more P rows i row h is before p =
    subst (AllByRecursion P) (sym (take_more rows i row h ∙ ap (λ y. take i rows ++ y ∷ []) (sym is)))
    (all-append P (take i rows) (row ∷ []) before (p, tt))

-- where a count of rows at the front stops
pub stop_at : {T : Type 0} (P : T → Type 0) (own rest : List T) (i : ℕ) → AllByRecursion P (take i (own ++ rest))
    → AllByRecursion P own → AllByRecursion (λ r. P r → ⊥) rest → i ≤ length (own ++ rest)
    → ((y : T) (ys : List T) → drop i (own ++ rest) ≡ y ∷ ys → P y → ⊥) → i ≡ length own
stop_at P [] rest zero h own other few stops = refl
stop_at P [] [] (suc i) h own other few stops = absurd (omega arith)
stop_at P [] (r ∷ rest) (suc i) h own other few stops = absurd (other.0 h.0)
stop_at P (x ∷ xs) rest zero h own other few stops = absurd (stops x (xs ++ rest) refl own.0)
stop_at P (x ∷ xs) rest (suc i) h own other few stops =
    ap suc (stop_at P xs rest i h.1 own.1 other (omega (arith, few)) stops)

pub counted_own : {T : Type 0} (P : T → Type 0) (rows own rest : List T) (i : ℕ) → AllByRecursion P (take i rows)
    → i ≤ length rows
    → ((y : T) (ys : List T) → drop i rows ≡ y ∷ ys → P y → ⊥) → AllByRecursion P own
    → AllByRecursion (λ r. P r → ⊥) rest → rows ≡ own ++ rest → i ≡ length own
counted_own {T = T} P rows own rest i h few stops o r e =
    stop_at P own rest i (subst (λ (xs : List T). AllByRecursion P (take i xs)) e h) o r
    (subst (λ (xs : List T). i ≤ length xs) e few)
    (subst (λ (xs : List T). (y : T) (ys : List T) → drop i xs ≡ y ∷ ys → P y → ⊥) e stops)

pub stops_here : {T : Type 0} (P : T → Type 0) (rows : List T) (i : ℕ) (row : T) → i < length rows
    → row ≡ get_or rows i row → (P row → ⊥)
    → (y : T) (ys : List T) → drop i rows ≡ y ∷ ys → P y → ⊥
stops_here P rows i row h is n y ys e p =
    n (subst P (sym (same_heads row y (drop (i + 1) rows) ys (sym (drop_at rows i row h is) ∙ e))) p)

pub stops_behind : {T : Type 0} (P : T → Type 0) (rows : List T) (i : ℕ) → length rows ≤ i → (y : T) (ys : List T)
    → drop i rows ≡ y ∷ ys → P y → ⊥
stops_behind P rows i h y ys e p = let n : [] ≡ y ∷ ys = sym (drop_all i rows h) ∙ e in cc

pub take_front : {T : Type 0} (own rest : List T) → take (length own) (own ++ rest) ≡ own
take_front [] rest = refl
take_front (x ∷ xs) rest = ap (λ ys. x ∷ ys) (take_front xs rest)

pub drop_front : {T : Type 0} (own rest : List T) → drop (length own) (own ++ rest) ≡ rest
drop_front [] rest = refl
drop_front (x ∷ xs) rest = drop_front xs rest

-- a branch with its row and its entries
abbrev pub HasRow : List Style → ℕ → BranchRow → List EntryRow → Branch → Type 0
HasRow styles nr row own b = IsKeepable styles b
    × ((branch_row nr b ≡ row) × (entry_rows_from styles nr 1 b.records ≡ own))

pub lock_only : (locked : Option ℤ) (value : ℤ) (day : Day) → locked ≡ Some value → FitsSigned w64 value
    → ((d : Day) → d.0 ≡ to_z w64 (of_z w64 value) → d ≡ day) → (o : Option Day)
    → IfSome o IsShort × (option_map (λ (d : Day). d.0) o ≡ locked) → o ≡ Some day
lock_only locked value day is fits only None p = let h : ◌≡◌ {A = Option ℤ} None (Some value) = p.1 ∙ is in absurd cc
lock_only locked value day is fits only (Some d) p =
    let h : ◌≡◌ {A = Option ℤ} (Some d.0) (Some value) = p.1 ∙ is in
    let k : d.0 ≡ value = cc in
    ap (λ (x : Day). let o : Option Day = Some x in o) (only d (k ∙ sym (to_z-of_z w64 value fits)))

pub branch_only : (styles : List Style) (nr : ℕ) (row : BranchRow) (own : List EntryRow) (x : Branch)
    → x.name ≡ row.name
    → ((b : Branch) → IfSome b.locked IsShort → branch_row nr b ≡ row → b.locked ≡ x.locked)
    → ((rs : List Record) → AllByRecursion (IsGoodRecord styles) rs × (entry_rows_from styles nr 1 rs ≡ own)
    → rs ≡ x.records)
    → (b : Branch) → HasRow styles nr row own b → b ≡ x
branch_only styles nr row own x name lock records b p =
    ap (λ (y : List ℕ). let z : Branch = record { name = y; locked = b.locked; records = b.records } in z)
    (ap (λ (r : BranchRow). r.name) p.1.0 ∙ sym name)
    ∙ ap (λ (y : Option Day). let z : Branch = record { name = x.name; locked = y; records = b.records } in z)
    (lock b p.0.short p.1.0)
    ∙ ap (λ (y : List Record). let z : Branch = record { name = x.name; locked = x.locked; records = y } in z)
    (records b.records (p.0.records, p.1.1))

-- branches with their rows
abbrev pub HaveRows : List Style → List BranchRow → List EntryRow → List Branch → Type 0
HaveRows styles rows entries bs =
    AllByRecursion (IsKeepable styles) bs × ((branch_rows_from 0 bs ≡ rows) × (entry_rows_in styles 0 bs ≡ entries))

-- branches are those that were read, and a rest with the rows and entries that are left
pub record BranchRest (styles : List Style) (n : ℕ) (done bs : List Branch) (rows : List BranchRow)
    (left : List EntryRow) : Type 0 where
  pub rest : List Branch
  pub split : bs ≡ done ++ rest
  pub named : branch_rows_from n rest ≡ rows
  pub entered : entry_rows_in styles n rest ≡ left

abbrev pub IsBranchFront : List Style → List BranchRow → List EntryRow → ℕ → ℕ → List Branch → List EntryRow → Type 0
IsBranchFront styles rows entries n i done left =
    (bs : List Branch) → HaveRows styles rows entries bs → BranchRest styles n done bs (drop i rows) left

pub branch_start : (styles : List Style) (rows : List BranchRow) (entries : List EntryRow)
    → IsBranchFront styles rows entries 0 0 [] entries
branch_start styles rows entries bs p = record { rest = bs; split = refl; named = p.1.0; entered = p.1.1 }

-- so many rows at the front are of that branch
abbrev pub Counts : ℕ → ℕ → List EntryRow → Type 0
Counts count b left = (own rest : List EntryRow) → AllByRecursion (λ (r : EntryRow). r.branch ≡ pos b) own
    → AllByRecursion (λ (r : EntryRow). r.branch ≡ pos b → ⊥) rest
    → left ≡ own ++ rest → count ≡ length own

pub record BranchNext (styles : List Style) (n count : ℕ) (done bs : List Branch) (row : BranchRow)
    (rows : List BranchRow) (left : List EntryRow) : Type 0 where
  pub item : Branch
  pub rest : List Branch
  pub split : bs ≡ done ++ item ∷ rest
  pub here : HasRow styles n row (take count left) item
  pub named : branch_rows_from (n + 1) rest ≡ rows
  pub entered : entry_rows_in styles (n + 1) rest ≡ drop count left

branch_at : (styles : List Style) (n count : ℕ) (done bs rest : List Branch) (row : BranchRow) (rows : List BranchRow)
    (left : List EntryRow) → Counts count n left → AllByRecursion (IsKeepable styles) bs → bs ≡ done ++ rest
    → branch_rows_from n rest ≡ row ∷ rows → entry_rows_in styles n rest ≡ left
    → BranchNext styles n count done bs row rows left
branch_at styles n count done bs [] row rows left counts kept split named entered = absurd cc
branch_at styles n count done bs (x ∷ rest) row rows left counts kept split named entered =
    let own = entry_rows_from styles n 1 x.records in
    let others = entry_rows_in styles (n + 1) rest in
    let whole : left ≡ own ++ others = sym entered in
    let size : count ≡ length own =
    counts own others (own_rows styles n 1 x.records) (other_rows styles n (n + 1) rest (omega arith)) whole in
    record {
      item = x;
      rest = rest;
      split = split;
      here = (
        all_middle (IsKeepable styles) done bs rest x kept split,
        (
          same_heads (branch_row n x) row (branch_rows_from (n + 1) rest) rows named,
          sym (ap (λ (k : ℕ). take k left) size ∙ (ap (take (length own)) whole ∙ take_front own others)),
        ),
      );
      named = same_tails (branch_row n x) row (branch_rows_from (n + 1) rest) rows named;
      entered = sym (ap (λ (k : ℕ). drop k left) size ∙ (ap (drop (length own)) whole ∙ drop_front own others));
    }

branch_item : (styles : List Style) (rows : List BranchRow) (entries : List EntryRow) (n i count : ℕ)
    (done : List Branch) (row : BranchRow) (left : List EntryRow) → i < length rows → row ≡ get_or rows i row
    → Counts count n left
    → IsBranchFront styles rows entries n i done left → (bs : List Branch) → HaveRows styles rows entries bs
    → BranchNext styles n count done bs row (drop (i + 1) rows) left
branch_item styles rows entries n i count done row left h is counts front bs p =
    let r = front bs p in
    branch_at styles n count done bs r.rest row (drop (i + 1) rows) left counts p.0 r.split
    (r.named ∙ drop_at rows i row h is) r.entered

pub branch_next : (styles : List Style) (rows : List BranchRow) (entries : List EntryRow) (n i nr count : ℕ)
    (done new : List Branch) (row : BranchRow) (left : List EntryRow) (x : Branch) → i < length rows
    → row ≡ get_or rows i row → nr ≡ n
    → Counts count nr left → new ≡ done ++ x ∷ [] → ((b : Branch) → HasRow styles nr row (take count left) b → b ≡ x)
    → IsBranchFront styles rows entries n i done left
    → IsBranchFront styles rows entries (n + 1) (i + 1) new (drop count left)
branch_next styles rows entries n i nr count done new row left x h is at counts pushed only front bs p =
    let nx = branch_item styles rows entries n i count done row left h is
    (subst (λ (k : ℕ). Counts count k left) at counts) front bs p in
    let same : nx.item ≡ x = only nx.item
    (subst (λ (k : ℕ). HasRow styles k row (take count left) nx.item) (sym at) nx.here) in
    record {
      rest = nx.rest;
      split = nx.split ∙ ap (λ y. done ++ y ∷ nx.rest) same ∙ sym (append_assoc done (x ∷ []) nx.rest) ∙ ap
          (λ ys. ys ++ nx.rest) (sym pushed);
      named = nx.named;
      entered = nx.entered;
    }

pub branch_fault : (styles : List Style) (rows : List BranchRow) (entries : List EntryRow) (n i nr count : ℕ)
    (done : List Branch) (row : BranchRow) (left : List EntryRow) (e : Cause) → i < length rows
    → row ≡ get_or rows i row → nr ≡ n
    → Counts count nr left → IsBranchFront styles rows entries n i done left
    → IsFault (HasRow styles nr row (take count left)) e → IsFault (HaveRows styles rows entries) e
branch_fault styles rows entries n i nr count done row left e h is at counts front fault =
    fault_of (HaveRows styles rows entries) (HasRow styles nr row (take count left)) e
    (λ bs p.
    let nx = branch_item styles rows entries n i count done row left h is
    (subst (λ (k : ℕ). Counts count k left) at counts) front bs p in
    (nx.item, subst (λ (k : ℕ). HasRow styles k row (take count left) nx.item) (sym at) nx.here))
    fault

no_branches : (n : ℕ) (rest : List Branch) → branch_rows_from n rest ≡ [] → rest ≡ []
no_branches n [] e = refl
no_branches n (x ∷ rest) e = absurd cc

pub branch_end : (styles : List Style) (rows : List BranchRow) (entries : List EntryRow) (n i : ℕ) (done : List Branch)
    (left : List EntryRow) → length rows ≤ i → IsBranchFront styles rows entries n i done left
    → (bs : List Branch) → HaveRows styles rows entries bs → (bs ≡ done) × (left ≡ [])
branch_end styles rows entries n i done left h front bs p =
    let r = front bs p in
    let none : r.rest ≡ [] = no_branches n r.rest (r.named ∙ drop_all i rows h) in
    (r.split ∙ ap (λ ys. done ++ ys) none ∙ append-nil done, sym r.entered ∙ ap (entry_rows_in styles n) none)

pub rest_damaged : (styles : List Style) (rows : List BranchRow) (entries : List EntryRow) (n i : ℕ)
    (done : List Branch) (left : List EntryRow) → length rows ≤ i → IsBranchFront styles rows entries n i done left
    → (left ≡ [] → ⊥) → IsFault (HaveRows styles rows entries) Damaged
rest_damaged styles rows entries n i done left h front some =
    inr (refl, λ bs p. some (branch_end styles rows entries n i done left h front bs p).1)

-- the entries of the branches so far, and those that are left, are all
rows-append : (styles : List Style) (b : ℕ) (bs : List Branch) (x : Branch)
    → entry_rows_in styles b (bs ++ x ∷ [])
    ≡ entry_rows_in styles b bs ++ entry_rows_from styles (b + length bs) 1 x.records
rows-append styles b [] x =
    append-nil (entry_rows_from styles b 1 x.records)
    ∙ ap (λ (k : ℕ). entry_rows_from styles k 1 x.records) (let e : b ≡ b + 0 = omega arith in e)
rows-append styles b (y ∷ bs) x =
    let own = entry_rows_from styles b 1 y.records in
    let others = entry_rows_in styles (b + 1) bs in
    ap (λ ys. own ++ ys)
    (rows-append styles (b + 1) bs x
    ∙ ap (λ (k : ℕ). others ++ entry_rows_from styles k 1 x.records)
    (let e : b + 1 + length bs ≡ b + suc (length bs) = omega arith in e))
    ∙ sym (append_assoc own others (entry_rows_from styles (b + suc (length bs)) 1 x.records))

pub entered_next : (styles : List Style) (i nr count : ℕ) (done new : List Branch) (x : Branch)
    (entries left : List EntryRow) → length done ≡ i → nr ≡ i → new ≡ done ++ x ∷ []
    → entry_rows_from styles nr 1 x.records ≡ take count left
    → entry_rows_in styles 0 done ++ left ≡ entries → entry_rows_in styles 0 new ++ drop count left ≡ entries
entered_next styles i nr count done new x entries left len at pushed own whole =
    let before = entry_rows_in styles 0 done in
    let rest = drop count left in
    ap (λ ys. entry_rows_in styles 0 ys ++ rest) pushed
    ∙ (ap (λ ys. ys ++ rest) (rows-append styles 0 done x)
    ∙ (append_assoc before (entry_rows_from styles (0 + length done) 1 x.records) rest
    ∙ (ap (λ (k : ℕ). before ++ (entry_rows_from styles k 1 x.records ++ rest))
    (let e : 0 + length done ≡ nr = omega (arith, len, at) in e)
    ∙ (ap (λ ys. before ++ (ys ++ rest)) own
    ∙ (ap (λ ys. before ++ ys) (take-append-drop count left) ∙ whole)))))

pub entered_end : (own left entries : List EntryRow) (t : Bool) → t ≡ (length left == 0) → t ≡ true
    → own ++ left ≡ entries → own ≡ entries
entered_end own left entries t is empty whole =
    let none : left ≡ [] = nil_from_length left (eqb-true (length left) 0 (sym is ∙ empty)) in
    sym (append-nil own) ∙ (ap (λ ys. own ++ ys) (sym none) ∙ whole)
