-- what is listed can be printed, and moves no more than the book
use Rattle.std.proofs.Common.{◌≡◌, ℕ, suc, ◌+◌, ◌≤◌, ◌<◌, Bool, true, false, nat_eq, List, [], ◌∷◌, ◌++◌}
use Rattle.std.proofs.Common.{length, take, drop, get_or, ℤ, pos, ◌+ℤ◌, arith, refl, ap, ◌∙◌, sym, subst, Option}
use Rattle.std.proofs.Common.{append_assoc, add-one, drop-cons, FitsSigned, w64, ◌≢◌, set, get_or-set_same}
use Rattle.std.proofs.Common.{get_or-set_other}
use Rattle.std.proofs.Common.{append-nil, map, cond, Result, Ok, Err, OnOk}
use Rattle.std.specs.Prelude.{unsigned_abs, if◌then◌else◌, int_le}
use Rattle.std.specs.List.{AllByRecursion, filter}
use Rattle.std.proofs.lemmas.Int.{ints}
use Rattle.std.proofs.lemmas.Bool.Decides.{nat_tests}
use Rattle.money_core.specs.declared.day.Day.{Day}
use Rattle.money_core.specs.declared.style.Style.{Style}
use Rattle.money_core.specs.declared.cause.Cause.{Cause}
use Rattle.money_core.specs.declared.unit.Unit.{Unit as Commodity}
use Rattle.money_core.specs.AmountText.{IsDeclared}
use Rattle.book_core.specs.declared.leg.Leg.{Leg}
use Rattle.book_core.specs.declared.entry.Entry.{Entry}
use Rattle.book_core.specs.Account.{is_inside, IsInside}
use Rattle.book_core.proofs.AccountLemmas.{is_inside_decides}
use Rattle.std.specs.Prelude.{◌↔◌, IsTrue}
use Rattle.book_core.specs.Book.{legs_of}
use Rattle.book_core.specs.Balance.{value, moved, turnover}
use Rattle.book_core.specs.GoodBook.{HasRoom, IsGoodBook, most_turnover}
use Rattle.money_core.specs.Amount.{limit}
use Rattle.std.proofs.Math.Seq.{split_at}
use Rattle.std.proofs.lemmas.List.{take_more}
use Rattle.money_core.proofs.ListLemmas.{all-append}
use Rattle.book_core.proofs.SumLemmas.{Within, Within_abs, Within_add, moved-append}
use Rattle.book_core.proofs.GoodBookLemmas.{good_nil}
use Rattle.journal_lines.specs.Date.{IsDayNumber}
use Rattle.journal_balance.proofs.FaultLemmas.{legs_found}
use Rattle.journal_balance.proofs.DeclaredLemmas.{entry_declared}
use Rattle.journal_balance.proofs.ValueLemmas.{value-append}
use Rattle.treasury_state.specs.declared.record.Record.{Record}
use Rattle.treasury_state.specs.Federation.{Federation, records_of, entries}
use Rattle.treasury_state.specs.Good.{IsGoodRecord, IsGoodState}
use Rattle.treasury_state.proofs.BranchLemmas.{of_branch}
use Rattle.treasury_reports.specs.declared.listed.Listed.{Listed}
use Rattle.treasury_reports.specs.RegisterReport.{listed_leg, listed_legs, listed_in, listed_from, put_by_day, by_day}
use Rattle.treasury_reports.specs.RegisterReport.{legs_in, is_wanted, register_cells, summed_behind, is_since}
use Rattle.treasury_reports.specs.RegisterReport.{rows_since}
use Rattle.treasury_reports.specs.declared.rows.Layout.{Layout}
use Rattle.treasury_reports.specs.Rows.{Row}
use Rattle.treasury_reports.specs.Written.{row_in, rows_in}
use Rattle.treasury_reports.specs.Lent.{IsListable, HaveRoom, sum_at, AreSumsOfListed}
use Rattle.treasury_reports.proofs.SortLemmas.{all_by_day}

-- ---- the records of a good state

pub room_of : (f : Federation) (name : List ℕ) → IsGoodState f → HasRoom (entries (records_of f name))
room_of f name good = (of_branch (λ rs. IsGoodBook (entries rs)) f.styles f.branches name good_nil (λ b h. h.book)
    good.branches).within.small

-- ---- what is listed can be printed

listable_legs : (styles : List Style) (account : List ℕ) (n : ℕ) (r : Record) (xs : List Leg) → IsDayNumber r.entry.day
    → AllByRecursion (λ (x : Leg). IsDeclared styles x.unit x.qty) xs
    → AllByRecursion (IsListable styles) (listed_legs account n r xs)
listable_legs styles account n r [] day h = tt
listable_legs styles account n r (x ∷ xs) day h =
    by_test (is_inside account x.account) (listable_legs styles account n r xs day h.1)
  where
    by_test : (b : Bool) → AllByRecursion (IsListable styles) (listed_legs account n r xs)
        → AllByRecursion (IsListable styles)
        (if b then listed_leg n r x ∷ listed_legs account n r xs else listed_legs account n r xs)
    by_test true k = (record { day = day; amount = h.0 }, k)
    by_test false k = k

day_of : (styles : List Style) (r : Record) → IsGoodRecord styles r → IsDayNumber r.entry.day
day_of styles r h =
    subst IsDayNumber (ap (λ (e : Entry). e.day) (legs_found styles r.txn r.entry h.legs).1) h.printable.header.number

listable_in : (styles : List Style) (account : List ℕ) (tag : Option (List ℕ)) (n : ℕ) (r : Record)
    → IsGoodRecord styles r → AllByRecursion (IsListable styles) (listed_in account tag n r)
listable_in styles account tag n r h = by_test (is_wanted tag r.txn)
  where
    by_test : (b : Bool) → AllByRecursion (IsListable styles) (if b then listed_legs account n r r.entry.legs else [])
    by_test true = listable_legs styles account n r r.entry.legs (day_of styles r h)
        (entry_declared styles r.txn r.entry h.printable.postings h.legs)
    by_test false = tt

listable_from : (styles : List Style) (account : List ℕ) (tag : Option (List ℕ)) (n : ℕ) (rs : List Record)
    → AllByRecursion (IsGoodRecord styles) rs
    → AllByRecursion (IsListable styles) (listed_from account tag n rs)
listable_from styles account tag n [] h = tt
listable_from styles account tag n (r ∷ rs) h =
    all-append (IsListable styles) (listed_in account tag n r) (listed_from account tag (n + 1) rs)
    (listable_in styles account tag n r h.0) (listable_from styles account tag (n + 1) rs h.1)

pub by_day_listable : (styles : List Style) (account : List ℕ) (tag : Option (List ℕ)) (rs : List Record)
    → AllByRecursion (IsGoodRecord styles) rs
    → AllByRecursion (IsListable styles) (by_day (listed_from account tag 1 rs))
by_day_listable styles account tag rs h =
    all_by_day (IsListable styles) (listed_from account tag 1 rs) (listable_from styles account tag 1 rs h)

-- ---- it moves no more than the book
legs_in-append : (xs ys : List Listed) → legs_in (xs ++ ys) ≡ legs_in xs ++ legs_in ys
legs_in-append [] ys = refl
legs_in-append (x ∷ xs) ys = ap (λ (l : List Leg). x.leg ∷ l) (legs_in-append xs ys)

moved_legs : (unit : Commodity) (account : List ℕ) (n : ℕ) (r : Record) (xs : List Leg)
    → moved unit (legs_in (listed_legs account n r xs)) ≤ moved unit xs
moved_legs unit account n r [] = omega arith
moved_legs unit account n r (x ∷ xs) = by_test (is_inside account x.account) (moved_legs unit account n r xs)
  where
    by_test : (b : Bool) → moved unit (legs_in (listed_legs account n r xs)) ≤ moved unit xs
        → moved unit (legs_in (if b then listed_leg n r x ∷ listed_legs account n r xs else listed_legs account n r xs))
        ≤ moved unit (x ∷ xs)
    by_test true h = omega (arith, h)
    by_test false h = omega (arith, h)

moved_in : (unit : Commodity) (account : List ℕ) (tag : Option (List ℕ)) (n : ℕ) (r : Record)
    → moved unit (legs_in (listed_in account tag n r)) ≤ moved unit r.entry.legs
moved_in unit account tag n r = by_test (is_wanted tag r.txn)
  where
    by_test : (b : Bool) → moved unit (legs_in (if b then listed_legs account n r r.entry.legs else []))
        ≤ moved unit r.entry.legs
    by_test true = moved_legs unit account n r r.entry.legs
    by_test false = omega arith

moved_from : (unit : Commodity) (account : List ℕ) (tag : Option (List ℕ)) (n : ℕ) (rs : List Record)
    → moved unit (legs_in (listed_from account tag n rs)) ≤ turnover unit (entries rs)
moved_from unit account tag n [] = omega arith
moved_from unit account tag n (r ∷ rs) =
    let split = ap (moved unit) (legs_in-append (listed_in account tag n r) (listed_from account tag (n + 1) rs)) ∙
    moved-append unit (legs_in (listed_in account tag n r)) (legs_in (listed_from account tag (n + 1) rs)) in
    let all = moved-append unit r.entry.legs (legs_of (entries rs)) in
    let one = moved_in unit account tag n r in
    let rest = moved_from unit account tag (n + 1) rs in
    omega (arith, split, all, one, rest)

moved_put : (unit : Commodity) (x : Listed) (ys : List Listed)
    → moved unit (legs_in (put_by_day x ys)) ≡ moved unit (legs_in (x ∷ ys))
moved_put unit x [] = refl
moved_put unit x (y ∷ ys) = by_test (int_le x.day.0 y.day.0) (moved_put unit x ys)
  where
    by_test : (b : Bool) → moved unit (legs_in (put_by_day x ys)) ≡ moved unit (legs_in (x ∷ ys))
        → moved unit (legs_in (if b then x ∷ (y ∷ ys) else y ∷ put_by_day x ys)) ≡ moved unit (legs_in (x ∷ (y ∷ ys)))
    by_test true h = refl
    by_test false h = omega (arith, h)

moved_by_day : (unit : Commodity) (xs : List Listed) → moved unit (legs_in (by_day xs)) ≡ moved unit (legs_in xs)
moved_by_day unit [] = refl
moved_by_day unit (x ∷ xs) = let h = moved_put unit x (by_day xs) in let k = moved_by_day unit xs in omega (arith, h, k)

pub have_room : (account : List ℕ) (tag : Option (List ℕ)) (rs : List Record) → HasRoom (entries rs)
    → HaveRoom (by_day (listed_from account tag 1 rs))
have_room account tag rs room unit =
    let h = moved_by_day unit (listed_from account tag 1 rs) in
    let k = moved_from unit account tag 1 rs in
    let r = room unit in
    omega (arith, h, k, r)

-- ---- sums
Within_if : (u : Bool) (q : ℤ) → Within (if u then unsigned_abs q else 0) (if u then q else pos 0)
Within_if true q = Within_abs q
Within_if false q = record { low = omega (arith, ints); high = omega (arith, ints) }

-- a sum is within what its legs move
pub value_within : (unit : Commodity) (xs : List Leg) → Within (moved unit xs) (value unit xs)
value_within unit [] = record { low = omega (arith, ints); high = omega (arith, ints) }
value_within unit (x ∷ xs) = Within_add _ _ _ _ (Within_if (nat_eq x.unit.0 unit.0) x.qty) (value_within unit xs)

nat_eq_self : (n : ℕ) → nat_eq n n ≡ true
nat_eq_self n = grind (arith, nat_tests)

-- all that is listed, cut before one
cut_at : (all : List Listed) (i : ℕ) (x : Listed) → i < length all → x ≡ get_or all i x
    → all ≡ take i all ++ (x ∷ drop (i + 1) all)
cut_at all i x below e =
    rw add-one (split_at all i x below ∙ ap (λ (y : Listed). take i all ++ (y ∷ drop (suc i) all)) (sym e))

-- the sum with one leg more
sum_same : (before : List Listed) (x : Listed)
    → value x.leg.unit (legs_in (before ++ x ∷ [])) ≡ value x.leg.unit (legs_in before) +ℤ x.leg.qty
sum_same before x =
    let parts = ap (value x.leg.unit) (legs_in-append before (x ∷ [])) ∙ value-append x.leg.unit (legs_in before)
    (x.leg ∷ []) in
    let own : value x.leg.unit (x.leg ∷ []) ≡ x.leg.qty +ℤ pos 0 =
    ap (λ (b : Bool). (if b then x.leg.qty else pos 0) +ℤ pos 0) (nat_eq_self x.leg.unit.0) in
    omega (arith, ints, parts, own)

pub sum_next : (before : List Listed) (x : Listed) (held : ℤ) → held ≡ value x.leg.unit (legs_in before)
    → held +ℤ x.leg.qty ≡ value x.leg.unit (legs_in (before ++ x ∷ []))
sum_next before x held e = ap (λ (z : ℤ). z +ℤ x.leg.qty) e ∙ sym (sum_same before x)

pub sum_other : (unit : Commodity) (before : List Listed) (x : Listed) → nat_eq x.leg.unit.0 unit.0 ≡ false
    → value unit (legs_in (before ++ x ∷ [])) ≡ value unit (legs_in before)
sum_other unit before x e =
    let parts = ap (value unit) (legs_in-append before (x ∷ [])) ∙ value-append unit (legs_in before) (x.leg ∷ []) in
    let none : value unit (x.leg ∷ []) ≡ pos 0 +ℤ pos 0 =
    ap (λ (b : Bool). (if b then x.leg.qty else pos 0) +ℤ pos 0) e in
    omega (arith, ints, parts, none)

-- no sum so far passes the limit
Within_wider : (m n : ℕ) (z : ℤ) → m ≤ n → Within m z → Within n z
Within_wider m n z le h =
    let a = h.low in let b = h.high in record { low = omega (arith, ints, le); high = omega (arith, ints, le) }

pub sum_within : (all : List Listed) (i : ℕ) (x : Listed) → HaveRoom all → i < length all → x ≡ get_or all i x
    → Within most_turnover (value x.leg.unit (legs_in (take i all ++ x ∷ [])))
sum_within all i x room below e =
    let unit = x.leg.unit in
    let whole : moved unit (legs_in all) ≡ moved unit (legs_in ((take i all ++ x ∷ []) ++ drop (i + 1) all)) =
    ap (λ (l : List Listed). moved unit (legs_in l))
    (cut_at all i x below e ∙ sym (append_assoc (take i all) (x ∷ []) (drop (i + 1) all))) in
    let parts = ap (moved unit) (legs_in-append (take i all ++ x ∷ []) (drop (i + 1) all)) ∙ moved-append unit
    (legs_in (take i all ++ x ∷ [])) (legs_in (drop (i + 1) all)) in
    let limit = room unit in
    Within_wider (moved unit (legs_in (take i all ++ x ∷ []))) most_turnover _ (omega (arith, whole, parts, limit))
    (value_within unit (legs_in (take i all ++ x ∷ [])))

pub within_abs : (z : ℤ) → Within most_turnover z → unsigned_abs z ≤ limit
within_abs z h = let a = h.low in let b = h.high in omega (arith, ints)

pub within_fits : (z : ℤ) → Within most_turnover z → FitsSigned w64 z
within_fits z h = let a = h.low in let b = h.high in omega (arith, ints)

pub take_with_next : (all : List Listed) (i : ℕ) (x : Listed) → i < length all → x ≡ get_or all i x
    → take (i + 1) all ≡ take i all ++ x ∷ []
take_with_next all i x below e = take_more all i x below ∙ ap (λ (y : Listed). take i all ++ y ∷ []) (sym e)

-- ---- rows from a day on
-- what is shown of one, and of those after it
rows_since-cons : (layout : Layout) (styles : List Style) (from : Option Day) (x : Listed × ℤ) (xs : List (Listed × ℤ))
    → rows_in layout (rows_since styles from (x ∷ xs))
    ≡ rows_in layout (rows_since styles from (x ∷ [])) ++ rows_in layout (rows_since styles from xs)
rows_since-cons layout styles from x xs = by_test (is_since from x.0.day)
  where
    cells : Listed × ℤ → Row
    cells y = register_cells styles y.0 y.1

    later : List (Listed × ℤ)
    later = filter (λ (y : Listed × ℤ). is_since from y.0.day) xs

    by_test : (b : Bool) → rows_in layout (map cells (cond b (x ∷ later) later))
        ≡ rows_in layout (map cells (cond b (x ∷ []) [])) ++ rows_in layout (map cells later)
    by_test true =
        ap (λ (t : List ℕ). t ++ rows_in layout (map cells later)) (sym (append-nil (row_in layout (cells x))))
    by_test false = refl

-- a row that is written, where it is shown
pub row_since : (layout : Layout) (styles : List Style) (from : Option Day) (x : Listed) (sum : ℤ)
    (r : Result (Unit {0}) Cause) (old new : List ℕ) → is_since from x.day ≡ true
    → OnOk r (new ≡ old ++ row_in layout (register_cells styles x sum))
    → OnOk r (new ≡ old ++ rows_in layout (rows_since styles from ((x, sum) ∷ [])))
row_since layout styles from x sum (Ok _) old new e h =
    rw e (h ∙ ap (λ (t : List ℕ). old ++ t) (sym (append-nil (row_in layout (register_cells styles x sum)))))
row_since layout styles from x sum (Err _) old new e h = tt

-- the rows after one more
pub rows_next : (layout : Layout) (styles : List Style) (from : Option Day) (all : List Listed) (i : ℕ) (x : Listed)
    (sum : ℤ) (rows next : List ℕ)
    → i < length all → x ≡ get_or all i x → sum ≡ value x.leg.unit (legs_in (take i all ++ x ∷ []))
    → next ≡ rows ++ rows_in layout (rows_since styles from ((x, sum) ∷ []))
    → rows ++ rows_in layout (rows_since styles from (summed_behind (take i all) (drop i all)))
    ≡ rows_in layout (rows_since styles from (summed_behind [] all))
    → next ++ rows_in layout (rows_since styles from (summed_behind (take (i + 1) all) (drop (i + 1) all)))
    ≡ rows_in layout (rows_since styles from (summed_behind [] all))
rows_next layout styles from all i x sum rows next below e s n h =
    let behind : drop i all ≡ x ∷ drop (i + 1) all =
    rw add-one (drop-cons all i x below ∙ ap (λ (y : Listed). y ∷ drop (suc i) all) (sym e)) in
    let before : take (i + 1) all ≡ take i all ++ x ∷ [] = take_with_next all i x below e in
    let shown = λ (l : List (Listed × ℤ)). rows_in layout (rows_since styles from l) in
    let rest = λ (l m : List Listed). shown (summed_behind l m) in
    let own : Listed × ℤ = (x, value x.leg.unit (legs_in (take i all ++ x ∷ []))) in
    ap (λ (t : List ℕ). t ++ rest (take (i + 1) all) (drop (i + 1) all))
    (n ∙ ap (λ (z : ℤ). rows ++ shown ((x, z) ∷ [])) s)
    ∙ ap (λ (l : List Listed). (rows ++ shown (own ∷ [])) ++ rest l (drop (i + 1) all)) before
    ∙ append_assoc rows (shown (own ∷ [])) (rest (take i all ++ x ∷ []) (drop (i + 1) all))
    ∙ ap (λ (t : List ℕ). rows ++ t)
    (sym (rows_since-cons layout styles from own (summed_behind (take i all ++ x ∷ []) (drop (i + 1) all))))
    ∙ ap (λ (l : List Listed). rows ++ rest (take i all) l) (sym behind) ∙ h

-- one more leg of a record, and one more record
pub legs_more : (account : List ℕ) (n : ℕ) (r : Record) (x : Leg) (xs : List Leg) (old before after : List Listed)
    → after ≡ before ++ listed_legs account n r (x ∷ []) → before ++ listed_legs account n r (x ∷ xs) ≡ old
    → after ++ listed_legs account n r xs ≡ old
legs_more account n r x xs old before after e h =
    ap (λ (l : List Listed). l ++ listed_legs account n r xs) e ∙ append_assoc before (listed_legs account n r (x ∷ []))
    (listed_legs account n r xs) ∙ ap (λ (l : List Listed). before ++ l) (by_test (is_inside account x.account)) ∙ h
  where
    by_test : (b : Bool) → (if b then listed_leg n r x ∷ [] else []) ++ listed_legs account n r xs
        ≡ (if b then listed_leg n r x ∷ listed_legs account n r xs else listed_legs account n r xs)
    by_test true = refl
    by_test false = refl

-- ---- sums in a table
same_unit : (a b : Commodity) → nat_eq a.0 b.0 ≡ true → b.0 ≡ a.0
same_unit a b e = grind (arith, nat_tests)

other_unit : (a b : Commodity) → nat_eq a.0 b.0 ≡ false → b.0 ≢ a.0
other_unit a b e = grind (arith, nat_tests)

pub sums_next : (styles : List Style) (sums next : List ℤ) (before : List Listed) (x : Listed) (s : ℤ)
    → next ≡ set sums x.leg.unit.0 s → length sums ≡ length styles → x.leg.unit.0 < length styles
    → s ≡ value x.leg.unit (legs_in (before ++ x ∷ [])) → AreSumsOfListed styles sums before
    → AreSumsOfListed styles next (before ++ x ∷ [])
sums_next styles sums next before x s e wide known is h unit below = by_unit (nat_eq x.leg.unit.0 unit.0) refl
  where
    by_unit : (b : Bool) → nat_eq x.leg.unit.0 unit.0 ≡ b → sum_at next unit ≡ value unit (legs_in (before ++ x ∷ []))
    by_unit true t =
        let own : unit.0 ≡ x.leg.unit.0 = same_unit x.leg.unit unit t in
        ap (λ (xs : List ℤ). get_or xs unit.0 (pos 0)) e ∙ ap (λ (n : ℕ). get_or (set sums x.leg.unit.0 s) n (pos 0))
        own
        ∙ get_or-set_same sums x.leg.unit.0 s (pos 0) (rw wide known) ∙ is ∙ ap
        (λ (n : ℕ). value (record { 0 = n }) (legs_in (before ++ x ∷ []))) (sym own)
    by_unit false t =
        ap (λ (xs : List ℤ). get_or xs unit.0 (pos 0)) e ∙ get_or-set_other sums x.leg.unit.0 unit.0 s (pos 0)
        (other_unit x.leg.unit unit t) ∙ h unit below ∙ sym (sum_other unit before x t)

-- whether a name is inside an account, tested
pub inside_test : (account name : List ℕ) (b : Bool) → IsTrue b ↔ IsInside account name → b ≡ is_inside account name
inside_test account name true h = sym ((is_inside_decides account name).1 (h.0 refl))
inside_test account name false h = by_test (is_inside account name) refl
  where
    by_test : (t : Bool) → is_inside account name ≡ t → false ≡ t
    by_test true e = h.1 ((is_inside_decides account name).0 e)
    by_test false e = refl

all_behind : (P : Listed → Type 0) (xs ys : List Listed) → AllByRecursion P (xs ++ ys) → AllByRecursion P ys
all_behind P [] ys h = h
all_behind P (x ∷ xs) ys h = all_behind P xs ys h.1

-- what holds of all that is listed holds of one
pub listed_at : (P : Listed → Type 0) (all : List Listed) (i : ℕ) (x : Listed) → i < length all → x ≡ get_or all i x
    → AllByRecursion P all → P x
listed_at P all i x below e h =
    (all_behind P (take i all) (x ∷ drop (i + 1) all) (subst (AllByRecursion P) (cut_at all i x below e) h)).0
