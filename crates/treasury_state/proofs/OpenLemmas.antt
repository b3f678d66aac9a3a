-- what is open is at most two turnovers
use Rattle.std.proofs.Common.{◌≡◌, ℕ, zero, suc, ◌+◌, ◌<◌, Bool, true, false, ◌&&◌, nat_eq, List, [], ◌∷◌, length, drop}
use Rattle.std.proofs.Common.{get_or, ℤ, pos, ◌+ℤ◌, ◌≤ℤ◌, refl, ap, ◌∙◌, sym, subst, arith, add-one, drop-cons}
use Rattle.std.specs.Prelude.{if◌then◌else◌}
use Rattle.std.specs.List.{list_any, AllByRecursion}
use Rattle.std.specs.Str.{bytes_eq}
use Rattle.std.proofs.lemmas.Int.{ints}
use Rattle.std.proofs.lemmas.Slice.Eq.{bytes_eq-Decides}
use Rattle.money_core.specs.declared.unit.Unit.{Unit as Commodity}
use Rattle.money_core.specs.declared.day.Day.{Day}
use Rattle.money_core.proofs.BytesLemmas.{same_bytes}
use Rattle.book_core.specs.declared.account.Reach.TheVariants.{Own}
use Rattle.book_core.specs.declared.entry.Entry.{Entry}
use Rattle.book_core.specs.declared.place.Until.TheVariants.{Through}
use Rattle.book_core.specs.GoodBook.{IsGoodBook}
use Rattle.book_core.specs.Balance.{balance}
use Rattle.book_core.proofs.BalanceLemmas.{small_within}
use Rattle.book_core.proofs.GoodBookLemmas.{good_nil}
use Rattle.treasury_state.specs.declared.transfer.Transfer.{Transfer}
use Rattle.treasury_state.specs.Transfer.{transit_account, open_of, open_amount, is_between}
use Rattle.treasury_state.specs.Federation.{Branch, Federation, has_name, has_branch, records_of, entries, book_of}
use Rattle.treasury_state.specs.Good.{IsGoodRecord, IsGoodTransfer, IsGoodState}
use Rattle.treasury_state.specs.Fair.{IsFair}
use Rattle.treasury_state.proofs.FairLemmas.{all_fair, names_good, adds_up_named}
use Rattle.treasury_state.proofs.BranchLemmas.{of_branch}
use Rattle.treasury_state.proofs.WayLemmas.{open_none}

-- no transfer from or to a branch that isn't there
apart_at : (x : Transfer) (ds : List Branch) (from to : List ℕ) (u : Commodity) (a b : Bool)
    → bytes_eq x.source from ≡ a → bytes_eq x.target to ≡ b → IsGoodTransfer ds x
    → (list_any (has_name from) ds && list_any (has_name to) ds) ≡ false → ((a && b) && nat_eq x.unit.0 u.0) ≡ false
apart_at x ds from to u true true e f k n =
    let s : list_any (has_name from) ds ≡ true =
    ap (λ (m : List ℕ). list_any (has_name m) ds) (sym (same_bytes x.source from e)) ∙ k.source in
    let t : list_any (has_name to) ds ≡ true =
    ap (λ (m : List ℕ). list_any (has_name m) ds) (sym (same_bytes x.target to f)) ∙ k.target in
    let z : true ≡ false = sym (ap (λ (b : Bool). b && list_any (has_name to) ds) s ∙ t) ∙ n in absurd cc
apart_at x ds from to u true false e f k n = refl
apart_at x ds from to u false b e f k n = refl

pub open_amount_unknown : (ts : List Transfer) (ds : List Branch) (from to : List ℕ) (u : Commodity) (d : Day)
    → AllByRecursion (IsGoodTransfer ds) ts → (list_any (has_name from) ds && list_any (has_name to) ds) ≡ false
    → open_amount ts from to u d ≡ pos 0
open_amount_unknown [] ds from to u d k n = refl
open_amount_unknown (x ∷ xs) ds from to u d k n =
    let a = open_none x from to u d
    (apart_at x ds from to u (bytes_eq x.source from) (bytes_eq x.target to) refl refl k.0 n) in
    let b = open_amount_unknown xs ds from to u d k.1 n in
    omega (arith, ints)

self_at : (x : Transfer) (from to : List ℕ) (u : Commodity) (a b : Bool) → bytes_eq x.source from ≡ a
    → bytes_eq x.target to ≡ b → IsFair x → bytes_eq from to ≡ true → ((a && b) && nat_eq x.unit.0 u.0) ≡ false
self_at x from to u true true e f k n =
    let z : true ≡ false = sym ((bytes_eq-Decides x.source x.target).1
    (same_bytes x.source from e ∙ same_bytes from to n ∙ sym (same_bytes x.target to f))) ∙ k.apart in absurd cc
self_at x from to u true false e f k n = refl
self_at x from to u false b e f k n = refl

-- nothing is open from a branch to itself
pub open_amount-self : (ts : List Transfer) (from to : List ℕ) (u : Commodity) (d : Day) → AllByRecursion IsFair ts
    → bytes_eq from to ≡ true → open_amount ts from to u d ≡ pos 0
open_amount-self [] from to u d k n = refl
open_amount-self (x ∷ xs) from to u d k n =
    let a =
    open_none x from to u d (self_at x from to u (bytes_eq x.source from) (bytes_eq x.target to) refl refl k.0 n) in
    let b = open_amount-self xs from to u d k.1 n in
    omega (arith, ints)

sum_of_two_turnovers : (x y z : ℤ) → (x +ℤ y) ≡ z → x ≤ℤ pos 10000000000000000 → y ≤ℤ pos 10000000000000000
    → z ≤ℤ pos 20000000000000000
sum_of_two_turnovers x y z e h k = omega (arith, ints)

zero_small : (z : ℤ) → z ≡ pos 0 → z ≤ℤ pos 20000000000000000
zero_small z e = omega (arith, ints)

-- the balance of a good book is within the turnover
book_high : (b : List Entry) → IsGoodBook b → (a : List ℕ) (u : Commodity) (d : Day)
    → balance Own b a u (Through d) ≤ℤ pos 10000000000000000
book_high b good a u d = let w = (small_within b good.within.small Own a u (Through d)).high in omega (arith, ints, w)

pub good_book : (f : Federation) (name : List ℕ) → IsGoodState f → IsGoodBook (book_of f name)
good_book f name good =
    of_branch (λ xs. IsGoodBook (entries xs)) f.styles f.branches name good_nil (λ b h. h.book) good.branches

small_at : (f : Federation) (from to : List ℕ) (u : Commodity) (d : Day) (a b c : Bool) → IsGoodState f
    → has_branch f from ≡ a → has_branch f to ≡ b → bytes_eq from to ≡ c
    → open_amount f.transfers from to u d ≤ℤ pos 20000000000000000
small_at f from to u d false b c good h k e =
    zero_small _ (open_amount_unknown f.transfers f.branches from to u d good.transfers (rw h refl))
small_at f from to u d true false c good h k e =
    zero_small _ (open_amount_unknown f.transfers f.branches from to u d good.transfers (rw (h, k) refl))
small_at f from to u d true true true good h k e =
    zero_small _
    (open_amount-self f.transfers from to u d (all_fair f.branches f.transfers (names_good f good) good.transfers) e)
small_at f from to u d true true false good h k e =
    sum_of_two_turnovers _ _ _ (adds_up_named f from to good h k e u d)
    (book_high (book_of f from) (good_book f from good) (transit_account from to) u d)
    (book_high (book_of f to) (good_book f to good) (transit_account from to) u d)

pub open_small : (f : Federation) (from to : List ℕ) (u : Commodity) (d : Day) → IsGoodState f
    → open_amount f.transfers from to u d ≤ℤ pos 20000000000000000
open_small f from to u d good =
    small_at f from to u d (has_branch f from) (has_branch f to) (bytes_eq from to) good refl refl refl

-- one more transfer
pub open_more : (ts : List Transfer) (from to : List ℕ) (u : Commodity) (d : Day) (i : ℕ) (x : Transfer) → i < length ts
    → x ≡ get_or ts i x
    → open_amount (drop i ts) from to u d
    ≡ (if is_between from to u x then open_of x d else pos 0) +ℤ open_amount (drop (i + 1) ts) from to u d
open_more ts from to u d i x h e =
    ap (λ (xs : List Transfer). open_amount xs from to u d)
    (drop-cons ts i x h ∙ ap (λ (y : Transfer). y ∷ drop (suc i) ts) (sym e))
    ∙ ap (λ (j : ℕ). (if is_between from to u x then open_of x d else pos 0) +ℤ open_amount (drop j ts) from to u d)
    (sym (add-one i))

pub fair_drop : (ts : List Transfer) (i : ℕ) → AllByRecursion IsFair ts → AllByRecursion IsFair (drop i ts)
fair_drop ts zero h = h
fair_drop [] (suc i) h = tt
fair_drop (x ∷ xs) (suc i) h = fair_drop xs i h.1

pub fair_item : (ts : List Transfer) (i : ℕ) (x : Transfer) → i < length ts → x ≡ get_or ts i x
    → AllByRecursion IsFair ts → IsFair x
fair_item ts i x h e f = (subst (AllByRecursion IsFair)
    (drop-cons ts i x h ∙ ap (λ (y : Transfer). y ∷ drop (suc i) ts) (sym e)) (fair_drop ts i f)).0

pub good_records : (f : Federation) (name : List ℕ) → IsGoodState f
    → AllByRecursion (IsGoodRecord f.styles) (records_of f name)
good_records f name good =
    of_branch (AllByRecursion (IsGoodRecord f.styles)) f.styles f.branches name tt (λ b h. h.records) good.branches
