-- the accounts of the way add up to what is open
use Rattle.std.proofs.Common.{◌≡◌, ℕ, Bool, true, false, ◌&&◌, ◌||◌, nat_eq, List, [], ◌∷◌, ◌++◌, map, ℤ, pos, ◌+ℤ◌}
use Rattle.std.proofs.Common.{◌-ℤ◌, ◌≤ℤ◌, refl, ap, ◌∙◌, sym, arith, Option, Some, None}
use Rattle.std.specs.Prelude.{if◌then◌else◌, int_le, filter}
use Rattle.std.specs.List.{list_any, AllByRecursion}
use Rattle.std.specs.Str.{bytes_eq}
use Rattle.std.proofs.lemmas.Int.{ints}
use Rattle.std.proofs.lemmas.Slice.Eq.{bytes_eq-Decides}
use Rattle.money_core.specs.declared.unit.Unit.{Unit as Commodity}
use Rattle.money_core.specs.declared.day.Day.{Day}
use Rattle.money_core.proofs.TestLemmas.{if_zero}
use Rattle.money_core.proofs.ListLemmas.{all-append, all_weaker}
use Rattle.money_core.proofs.BytesLemmas.{same_bytes}
use Rattle.book_core.specs.declared.leg.Leg.{Leg}
use Rattle.book_core.specs.declared.account.Reach.TheVariants.{Own}
use Rattle.book_core.specs.declared.place.Until.TheVariants.{Through}
use Rattle.book_core.specs.Balance.{balance, sum_in}
use Rattle.treasury_state.specs.declared.record.Record.{Record}
use Rattle.treasury_state.specs.declared.transfer.Part.{Part}
use Rattle.treasury_state.specs.declared.transfer.Receipt.{Receipt}
use Rattle.treasury_state.specs.declared.transfer.Transfer.{Transfer}
use Rattle.treasury_state.specs.Mark.{held, HaveOwnMarks, is_of_transfer}
use Rattle.treasury_state.specs.Transfer.{transit_account, asked, out_records, in_records, sum_of_parts, of_rest}
use Rattle.treasury_state.specs.Transfer.{receipts_of}
use Rattle.treasury_state.specs.Transfer.{dispatch_record, receipt_record, received_by, open_of, is_between}
use Rattle.treasury_state.specs.Transfer.{open_amount, is_transit, is_reserved}
use Rattle.treasury_state.specs.Federation.{Branch, entries}
use Rattle.treasury_state.specs.Good.{IsGoodPart, IsGoodRest}
use Rattle.treasury_state.specs.Fair.{HasNoColon, IsMarked, IsFair}
use Rattle.treasury_state.proofs.MarkLemmas.{pair_eq}
use Rattle.treasury_state.proofs.PartLemmas.{share_high, received_within}
use Rattle.treasury_state.proofs.LookupLemmas.{total_of, same_total, filter_own, filter_total, total_of-append}
use Rattle.treasury_state.proofs.AskedLemmas.{HaveOwnIds, asked_own}
use Rattle.treasury_state.proofs.ShareLemmas.{share, balance-shares}

-- a record that is no transfer's has no leg on the way
abbrev pub IsClear : Record → Type 0
IsClear r = is_of_transfer r ≡ false → list_any is_transit r.entry.legs ≡ false

-- what is asked of a branch
pub record IsInStep (ts : List Transfer) (d : Branch) : Type 0 where
  pub own_marks : HaveOwnMarks d.records
  pub asked_for : (m : List ℕ) → held (filter is_of_transfer d.records) m ≡ held (asked ts d.name) m
  pub clear : AllByRecursion IsClear d.records
  pub named : HasNoColon d.name

-- the balances of the way in the two books are what is open
abbrev pub AddUp : List Transfer → Branch → Branch → Type 0
AddUp ts f t = (unit : Commodity) (day : Day)
    → balance Own (entries f.records) (transit_account f.name t.name) unit (Through day)
    +ℤ balance Own (entries t.records) (transit_account f.name t.name) unit (Through day)
    ≡ open_amount ts f.name t.name unit day

pub way_eq : (s f x t : List ℕ) → HasNoColon s → HasNoColon f
    → bytes_eq (transit_account s x) (transit_account f t) ≡ (bytes_eq s f && bytes_eq x t)
way_eq s f x t h k = pair_eq s f x t h k

-- an account that isn't on the way is no account of the way
pub off_way : (a f t : List ℕ) → is_reserved a ≡ false → bytes_eq a (transit_account f t) ≡ false
off_way a f t e = by_test (bytes_eq a (transit_account f t)) refl
  where
    by_test : (b : Bool) → bytes_eq a (transit_account f t) ≡ b → b ≡ false
    by_test true g = let h : true ≡ false = ap is_reserved (sym (same_bytes a (transit_account f t) g)) ∙ e in absurd cc
    by_test false g = refl

-- what the two records of a transfer move on the way
abbrev pub at_way : Bool → Bool → Bool → Bool → ℤ → ℤ
at_way s t u d q = if d then (if u && (s && t) then q else pos 0) else pos 0

legs_out : (u a p : Bool) (q : ℤ) → p ≡ false
    → ((if u && a then q else pos 0) +ℤ ((if u && p then pos 0 -ℤ q else pos 0) +ℤ pos 0))
    ≡ (if u && a then q else pos 0)
legs_out u a true q e = absurd cc
legs_out true true false q e = omega (arith, ints)
legs_out true false false q e = refl
legs_out false a false q e = refl

legs_in : (u a p : Bool) (q : ℤ) → p ≡ false
    → ((if u && p then q else pos 0) +ℤ ((if u && a then pos 0 -ℤ q else pos 0) +ℤ pos 0))
    ≡ (if u && a then pos 0 -ℤ q else pos 0)
legs_in u a true q e = absurd cc
legs_in true true false q e = omega (arith, ints)
legs_in true false false q e = refl
legs_in false a false q e = refl

share_out : (f t : List ℕ) (u : Commodity) (d : Day) (x : Transfer) → IsFair x → HasNoColon f
    → share (transit_account f t) u d (dispatch_record x)
    ≡ at_way (bytes_eq x.source f) (bytes_eq x.target t) (nat_eq x.unit.0 u.0) (int_le x.day.0 d.0) x.qty
share_out f t u d x h k =
    ap (λ (z : ℤ). if int_le x.day.0 d.0 then z else pos 0)
    (legs_out (nat_eq x.unit.0 u.0) (bytes_eq (transit_account x.source x.target) (transit_account f t))
    (bytes_eq x.payer (transit_account f t)) x.qty (off_way x.payer f t h.payer)
    ∙ ap (λ (b : Bool). if nat_eq x.unit.0 u.0 && b then x.qty else pos 0) (way_eq x.source f x.target t h.source k))

share_in : (f t : List ℕ) (u : Commodity) (d : Day) (x : Transfer) (p : Part) → IsFair x → is_reserved p.payee ≡ false
    → HasNoColon f
    → share (transit_account f t) u d (receipt_record x p)
    ≡ at_way (bytes_eq x.source f) (bytes_eq x.target t) (nat_eq x.unit.0 u.0) (int_le p.day.0 d.0) (pos 0 -ℤ p.qty)
share_in f t u d x p h e k =
    ap (λ (z : ℤ). if int_le p.day.0 d.0 then z else pos 0)
    (legs_in (nat_eq x.unit.0 u.0) (bytes_eq (transit_account x.source x.target) (transit_account f t))
    (bytes_eq p.payee (transit_account f t)) p.qty (off_way p.payee f t e)
    ∙ ap (λ (b : Bool). if nat_eq x.unit.0 u.0 && b then pos 0 -ℤ p.qty else pos 0)
    (way_eq x.source f x.target t h.source k))

-- what receipts take off the way
abbrev back_of : Bool → ℤ → ℤ
back_of true z = pos 0 -ℤ z
back_of false z = pos 0

out_no_source : (b u d : Bool) (q : ℤ) → at_way false b u d q ≡ pos 0
out_no_source b u false q = refl
out_no_source b false true q = refl
out_no_source b true true q = refl

out_no_target : (a u d : Bool) (q : ℤ) → at_way a false u d q ≡ pos 0
out_no_target a u false q = refl
out_no_target a false true q = refl
out_no_target true true true q = refl
out_no_target false true true q = refl

back_no_source : (b u : Bool) (z : ℤ) → back_of (u && (false && b)) z ≡ pos 0
back_no_source b true z = refl
back_no_source b false z = refl

back_no_target : (u : Bool) (z : ℤ) → back_of (u && false) z ≡ pos 0
back_no_target true z = refl
back_no_target false z = refl

all_zero : (a b c e : Bool) (v w : ℤ) → v ≡ pos 0 → w ≡ pos 0
    → ((if a then v else pos 0) +ℤ (if b then w else pos 0)) +ℤ ((if c then v else pos 0) +ℤ (if e then w else pos 0))
    ≡ pos 0
all_zero a b c e v w h k =
    let i =
    if_zero a v h in let j = if_zero b w k in let l = if_zero c v h in let m = if_zero e w k in omega (arith, ints)

on_way : (u d : Bool) (q z : ℤ)
    → (at_way true true u d q +ℤ pos 0) +ℤ (pos 0 +ℤ back_of (u && true) z)
    ≡ (if u then (if d then q else pos 0) -ℤ z else pos 0)
on_way false false q z = refl
on_way false true q z = refl
on_way true false q z = omega (arith, ints)
on_way true true q z = omega (arith, ints)

shares_at_both_ends : (a1 b1 a2 b2 u d : Bool) (q z : ℤ) → (a1 && a2) ≡ false → (b1 && b2) ≡ false →
    ((if a1 then at_way a1 b2 u d q else pos 0) +ℤ (if b1 then back_of (u && (a1 && b2)) z else pos 0))
    +ℤ ((if a2 then at_way a1 b2 u d q else pos 0) +ℤ (if b2 then back_of (u && (a1 && b2)) z else pos 0))
    ≡ (if (a1 && b2) && u then (if d then q else pos 0) -ℤ z else pos 0)
shares_at_both_ends false b1 a2 b2 u d q z e f =
    all_zero false b1 a2 b2 _ _ (out_no_source b2 u d q) (back_no_source b2 u z)
shares_at_both_ends true b1 a2 false u d q z e f =
    all_zero true b1 a2 false _ _ (out_no_target true u d q) (back_no_target u z)
shares_at_both_ends true true a2 true u d q z e f = absurd cc
shares_at_both_ends true false true true u d q z e f = absurd cc
shares_at_both_ends true false false true u d q z e f = on_way u d q z

one_back : (s t u b : Bool) (q z : ℤ)
    → at_way s t u b (pos 0 -ℤ q) +ℤ back_of (u && (s && t)) z ≡ back_of (u && (s && t)) ((if b then q else pos 0) +ℤ z)
one_back true true true true q z = omega (arith, ints)
one_back true true true false q z = omega (arith, ints)
one_back true true false true q z = refl
one_back true true false false q z = refl
one_back true false true true q z = refl
one_back true false true false q z = refl
one_back true false false true q z = refl
one_back true false false false q z = refl
one_back false t true true q z = refl
one_back false t true false q z = refl
one_back false t false true q z = refl
one_back false t false false q z = refl

none_back : (b : Bool) → pos 0 ≡ back_of b (pos 0)
none_back true = refl
none_back false = refl

-- the sum law of one transfer's receipts
pub back_sum : (f t : List ℕ) (u : Commodity) (d : Day) (x : Transfer) (ps : List Part) → IsFair x
    → AllByRecursion (IsGoodPart x.day) ps → HasNoColon f
    → total_of (share (transit_account f t) u d) (map (receipt_record x) ps)
    ≡ back_of (nat_eq x.unit.0 u.0 && (bytes_eq x.source f && bytes_eq x.target t)) (received_by ps d)
back_sum f t u d x [] h all k = none_back (nat_eq x.unit.0 u.0 && (bytes_eq x.source f && bytes_eq x.target t))
back_sum f t u d x (p ∷ ps) h all k =
    let e = share_in f t u d x p h all.0.payee k in
    let i = back_sum f t u d x ps h all.1 k in
    let c = one_back (bytes_eq x.source f) (bytes_eq x.target t) (nat_eq x.unit.0 u.0) (int_le p.day.0 d.0) p.qty
    (received_by ps d) in
    ap (λ (z : ℤ). z +ℤ total_of (share (transit_account f t) u d) (map (receipt_record x) ps)) e
    ∙ (ap (λ (z : ℤ). at_way (bytes_eq x.source f) (bytes_eq x.target t) (nat_eq x.unit.0 u.0) (int_le p.day.0 d.0)
    (pos 0 -ℤ p.qty) +ℤ z) i ∙ c)

-- each receipt is a good one
rest_good : (t : Transfer) (o : Option Receipt) → IsGoodRest t o → AllByRecursion (IsGoodPart t.day) (of_rest t o)
rest_good t None h = tt
rest_good t (Some r) h = (h, tt)

pub all_good : (t : Transfer) → IsFair t → AllByRecursion (IsGoodPart t.day) (receipts_of t)
all_good t fair =
    all-append (IsGoodPart t.day) t.parts (of_rest t t.receipt) fair.marked.parts.each (rest_good t t.receipt fair.rest)

sum_out : (f t : List ℕ) (u : Commodity) (d : Day) (x : Transfer) (a : Bool) → IsFair x → HasNoColon f
    → total_of (share (transit_account f t) u d) (out_records x a)
    ≡ (if a then at_way (bytes_eq x.source f) (bytes_eq x.target t) (nat_eq x.unit.0 u.0) (int_le x.day.0 d.0) x.qty
    else pos 0)
sum_out f t u d x true h k = let e = share_out f t u d x h k in omega (arith, ints)
sum_out f t u d x false h k = refl

sum_back : (f t : List ℕ) (u : Commodity) (d : Day) (x : Transfer) (b : Bool) → IsFair x → HasNoColon f
    → total_of (share (transit_account f t) u d) (in_records x b (receipts_of x))
    ≡ (if b then back_of (nat_eq x.unit.0 u.0 && (bytes_eq x.source f && bytes_eq x.target t))
    (received_by (receipts_of x) d) else pos 0)
sum_back f t u d x true h k = back_sum f t u d x (receipts_of x) h (all_good x h) k
sum_back f t u d x false h k = refl

-- no text is two
pub never_both : (x f t : List ℕ) → bytes_eq f t ≡ false → (bytes_eq x f && bytes_eq x t) ≡ false
never_both x f t e = by_tests (bytes_eq x f) (bytes_eq x t) refl refl
  where
    by_tests : (a b : Bool) → bytes_eq x f ≡ a → bytes_eq x t ≡ b → (a && b) ≡ false
    by_tests true true h k =
        let g : bytes_eq f t ≡ true = (bytes_eq-Decides f t).1 (sym (same_bytes x f h) ∙ same_bytes x t k) in absurd cc
    by_tests true false h k = refl
    by_tests false b h k = refl

-- what the records of a transfer for both branches move
totals_of_transfer : (f t : List ℕ) (u : Commodity) (d : Day) (x : Transfer) → IsFair x → HasNoColon f
    → bytes_eq f t ≡ false → (total_of (share (transit_account f t) u d) (out_records x (bytes_eq x.source f))
    +ℤ total_of (share (transit_account f t) u d) (in_records x (bytes_eq x.target f) (receipts_of x)))
    +ℤ (total_of (share (transit_account f t) u d) (out_records x (bytes_eq x.source t))
    +ℤ total_of (share (transit_account f t) u d) (in_records x (bytes_eq x.target t) (receipts_of x)))
    ≡ (if is_between f t u x then open_of x d else pos 0)
totals_of_transfer f t u d x h k apart =
    let a = sum_out f t u d x (bytes_eq x.source f) h k in
    let b = sum_back f t u d x (bytes_eq x.target f) h k in
    let c = sum_out f t u d x (bytes_eq x.source t) h k in
    let e = sum_back f t u d x (bytes_eq x.target t) h k in
    rw (a, b, c, e) (shares_at_both_ends (bytes_eq x.source f) (bytes_eq x.target f) (bytes_eq x.source t)
    (bytes_eq x.target t)
    (nat_eq x.unit.0 u.0) (int_le x.day.0 d.0) x.qty (received_by (receipts_of x) d) (never_both x.source f t apart)
    (never_both x.target f t apart))

-- of all
total_of-append_three : (g : Record → ℤ) (xs ys zs : List Record)
    → total_of g (xs ++ (ys ++ zs)) ≡ (total_of g xs +ℤ total_of g ys) +ℤ total_of g zs
total_of-append_three g xs ys zs =
    let a = total_of-append g xs (ys ++ zs) in let b = total_of-append g ys zs in omega (arith, ints)

pub totals_are_open_amount : (f t : List ℕ) (u : Commodity) (d : Day) (ts : List Transfer) → AllByRecursion IsFair ts
    → HasNoColon f → bytes_eq f t ≡ false →
    total_of (share (transit_account f t) u d) (asked ts f) +ℤ total_of (share (transit_account f t) u d) (asked ts t)
    ≡ open_amount ts f t u d
totals_are_open_amount f t u d [] h k apart = refl
totals_are_open_amount f t u d (x ∷ xs) h k apart =
    let g = share (transit_account f t) u d in
    let a = total_of-append_three g (out_records x (bytes_eq x.source f))
    (in_records x (bytes_eq x.target f) (receipts_of x)) (asked xs f) in
    let b = total_of-append_three g (out_records x (bytes_eq x.source t))
    (in_records x (bytes_eq x.target t) (receipts_of x)) (asked xs t) in
    let i = totals_are_open_amount f t u d xs h.1 k apart in
    let o = totals_of_transfer f t u d x h.0 k apart in
    omega (arith, ints)

-- other records move nothing there
if_second : (a b : Bool) (q : ℤ) → b ≡ false → (if a && b then q else pos 0) ≡ pos 0
if_second true b q e = ap (λ (c : Bool). if c then q else pos 0) e
if_second false b q e = refl

off_first : (f t : List ℕ) (u : Commodity) (x : Leg) (xs : List Leg) (b : Bool) → is_transit x ≡ b
    → (b || list_any is_transit xs) ≡ false
    → (list_any is_transit xs ≡ false → sum_in Own (transit_account f t) u xs ≡ pos 0)
    → sum_in Own (transit_account f t) u (x ∷ xs) ≡ pos 0
off_first f t u x xs true h g i = absurd cc
off_first f t u x xs false h g i =
    let a =
    if_second (nat_eq x.unit.0 u.0) (bytes_eq x.account (transit_account f t)) x.qty (off_way x.account f t h) in
    let b = i g in
    omega (arith, ints)

off_legs : (f t : List ℕ) (u : Commodity) (xs : List Leg) → list_any is_transit xs ≡ false
    → sum_in Own (transit_account f t) u xs ≡ pos 0
off_legs f t u [] e = refl
off_legs f t u (x ∷ xs) e = off_first f t u x xs (is_transit x) refl e (off_legs f t u xs)

clear_share : (f t : List ℕ) (u : Commodity) (d : Day) (r : Record) → IsClear r → is_of_transfer r ≡ false
    → share (transit_account f t) u d r ≡ pos 0
clear_share f t u d r h e = if_zero (int_le r.entry.day.0 d.0) _ (off_legs f t u r.entry.legs (h e))

clear_all : (f t : List ℕ) (u : Commodity) (d : Day) (rs : List Record) → AllByRecursion IsClear rs
    → AllByRecursion (λ (r : Record). is_of_transfer r ≡ false → share (transit_account f t) u d r ≡ pos 0) rs
clear_all f t u d [] h = tt
clear_all f t u d (r ∷ rs) h = (clear_share f t u d r h.0, clear_all f t u d rs h.1)

-- the balance of the way in a branch's book is what the transfers ask for
pub balance_is_asked_total : (f t : List ℕ) (u : Commodity) (d : Day) (ts : List Transfer) (b : Branch)
    → AllByRecursion IsMarked ts → HaveOwnIds ts → IsInStep ts b
    → balance Own (entries b.records) (transit_account f t) u (Through d)
    ≡ total_of (share (transit_account f t) u d) (asked ts b.name)
balance_is_asked_total f t u d ts b marked ids h =
    balance-shares (transit_account f t) u d b.records
    ∙ sym (filter_total (share (transit_account f t) u d) is_of_transfer b.records
    (clear_all f t u d b.records h.clear))
    ∙ same_total (share (transit_account f t) u d) (filter is_of_transfer b.records) (asked ts b.name)
    (filter_own is_of_transfer b.records h.own_marks) (asked_own ts b.name marked ids) h.asked_for

pub all_marked : (ts : List Transfer) → AllByRecursion IsFair ts → AllByRecursion IsMarked ts
all_marked ts fair = all_weaker IsFair IsMarked ts (λ t h. h.marked) fair

-- the law
pub adds_up : (ts : List Transfer) (f t : Branch) → HaveOwnIds ts → AllByRecursion IsFair ts → IsInStep ts f
    → IsInStep ts t → bytes_eq f.name t.name ≡ false → AddUp ts f t
adds_up ts f t ids fair hf ht apart u d =
    ap (λ (z : ℤ). z +ℤ balance Own (entries t.records) (transit_account f.name t.name) u (Through d))
    (balance_is_asked_total f.name t.name u d ts f (all_marked ts fair) ids hf)
    ∙ ap (λ (z : ℤ). total_of (share (transit_account f.name t.name) u d) (asked ts f.name) +ℤ z)
    (balance_is_asked_total f.name t.name u d ts t (all_marked ts fair) ids ht)
    ∙ totals_are_open_amount f.name t.name u d ts fair hf.named apart

-- what is open is never negative
-- through a day no more than in all
pub by_day : (t : Transfer) (d : Day) (ps : List Part) → AllByRecursion (IsGoodPart t.day) ps
    → received_by ps d ≤ℤ sum_of_parts ps
by_day t d [] h = omega (arith, ints)
by_day t d (p ∷ ps) h =
    let a = share_high (int_le p.day.0 d.0) p.qty h.0.positive in let b = by_day t d ps h.1 in omega (arith, ints)

-- nothing before the dispatch
not_yet : (s d r : ℤ) → int_le s d ≡ false → int_le s r ≡ true → int_le r d ≡ false
not_yet s d r e f = grind (arith, ints)

pub none_before : (t : Transfer) (d : Day) (ps : List Part) → int_le t.day.0 d.0 ≡ false
    → AllByRecursion (IsGoodPart t.day) ps → received_by ps d ≡ pos 0
none_before t d [] e h = refl
none_before t d (p ∷ ps) e h =
    let a = ap (λ (b : Bool). if b then p.qty else pos 0) (not_yet t.day.0 d.0 p.day.0 e h.0.later) in
    let b = none_before t d ps e h.1 in
    omega (arith, ints)

low_at : (t : Transfer) (d : Day) (b : Bool) → int_le t.day.0 d.0 ≡ b → IsFair t
    → pos 0 ≤ℤ ((if b then t.qty else pos 0) -ℤ received_by (receipts_of t) d)
low_at t d true e good = let a = by_day t d (receipts_of t) (all_good t good) in let b =
    received_within t good.marked.parts in omega (arith, ints)
low_at t d false e good = let a = none_before t d (receipts_of t) e (all_good t good) in omega (arith, ints)

-- nothing is open before the dispatch
pub open_before : (t : Transfer) (d : Day) → IsFair t → int_le t.day.0 d.0 ≡ false → open_of t d ≡ pos 0
open_before t d fair e =
    let a = ap (λ (b : Bool). (if b then t.qty else pos 0) -ℤ received_by (receipts_of t) d) e in
    let b = none_before t d (receipts_of t) e (all_good t fair) in
    omega (arith, ints)

pub open_low : (t : Transfer) (d : Day) → IsFair t → pos 0 ≤ℤ open_of t d
open_low t d good = low_at t d (int_le t.day.0 d.0) refl good

pub some_low : (b : Bool) (z : ℤ) → pos 0 ≤ℤ z → pos 0 ≤ℤ (if b then z else pos 0)
some_low true z h = h
some_low false z h = omega (arith, ints)

pub open_sum_low : (ts : List Transfer) (f t : List ℕ) (u : Commodity) (d : Day) → AllByRecursion IsFair ts
    → pos 0 ≤ℤ open_amount ts f t u d
open_sum_low [] f t u d h = omega (arith, ints)
open_sum_low (x ∷ xs) f t u d h =
    let a = some_low (is_between f t u x) (open_of x d) (open_low x d h.0) in
    let b = open_sum_low xs f t u d h.1 in
    omega (arith, ints)

pub open_none : (x : Transfer) (f t : List ℕ) (u : Commodity) (d : Day) → is_between f t u x ≡ false
    → (if is_between f t u x then open_of x d else pos 0) ≡ pos 0
open_none x f t u d e = ap (λ (b : Bool). if b then open_of x d else pos 0) e
