-- open amounts can be printed: in a book that sums to zero a balance is at most half of the turnover
use Rattle.std.proofs.Common.{◌≡◌, ℕ, ◌+◌, ◌≤◌, ◌<◌, Bool, true, false, ◌&&◌, List, [], ◌∷◌, length, ℤ}
use Rattle.std.proofs.Common.{pos, ◌+ℤ◌, ◌-ℤ◌, ◌≤ℤ◌, arith, refl, sym, subst}
use Rattle.std.specs.Prelude.{unsigned_abs, if◌then◌else◌}
use Rattle.std.specs.List.{AllByRecursion}
use Rattle.std.specs.Str.{bytes_eq}
use Rattle.std.proofs.lemmas.Int.{ints}
use Rattle.money_core.specs.declared.unit.Unit.{Unit as Commodity}
use Rattle.money_core.specs.declared.day.Day.{Day}
use Rattle.money_core.specs.AmountText.{IsDeclared}
use Rattle.book_core.specs.declared.leg.Leg.{Leg}
use Rattle.book_core.specs.declared.entry.Entry.{Entry}
use Rattle.book_core.specs.declared.account.Reach.TheVariants.{Own}
use Rattle.book_core.specs.declared.place.Until.{Until}
use Rattle.book_core.specs.declared.place.Until.TheVariants.{Through}
use Rattle.book_core.specs.Book.{posted_legs, posted_from, legs_of}
use Rattle.book_core.specs.Balance.{counts, total, value, moved, turnover, balance}
use Rattle.book_core.specs.GoodBook.{IsFit, IsGoodBook, most_turnover}
use Rattle.book_core.proofs.SumLemmas.{Within, Within_abs, Within_add, total-append, moved-append}
use Rattle.treasury_state.specs.Federation.{Federation, has_branch, book_of}
use Rattle.treasury_state.specs.Transfer.{transit_account, open_amount}
use Rattle.treasury_state.specs.Good.{IsGoodState}
use Rattle.treasury_state.specs.Fair.{IsFair}
use Rattle.treasury_state.proofs.FairLemmas.{all_fair, names_good, adds_up_named}
use Rattle.treasury_state.proofs.OpenLemmas.{open_amount_unknown, good_book, open_amount-self}
use Rattle.treasury_state.proofs.WayLemmas.{open_sum_low}

-- what counts, twice, less all that is of the commodity
zero_within : Within 0 (pos 0)
zero_within = record { low = omega (arith, ints); high = omega (arith, ints) }

Within_negated : (q z : ℤ) → z ≡ (pos 0 -ℤ q) → Within (unsigned_abs q) z
Within_negated q z e = let h = Within_abs q in let a = h.low in let b =
    h.high in record { low = omega (arith, ints, e); high = omega (arith, ints, e) }

Within_itself : (q z : ℤ) → z ≡ q → Within (unsigned_abs q) z
Within_itself q z e = let h = Within_abs q in let a = h.low in let b =
    h.high in record { low = omega (arith, ints, e); high = omega (arith, ints, e) }

Within_of_zero : (z : ℤ) → z ≡ pos 0 → Within 0 z
Within_of_zero z e = record { low = omega (arith, ints, e); high = omega (arith, ints, e) }

Within_twice_less : (u r w : Bool) (q : ℤ) → Within (if u then unsigned_abs q else 0)
    (((if ((u && r) && w) then q else pos 0) +ℤ (if ((u && r) && w) then q else pos 0)) -ℤ (if u then q else pos 0))
Within_twice_less false r w q = Within_of_zero _ (omega (arith, ints))
Within_twice_less true false w q = Within_negated q _ (omega (arith, ints))
Within_twice_less true true false q = Within_negated q _ (omega (arith, ints))
Within_twice_less true true true q = Within_itself q _ (omega (arith, ints))

twice_less_add : (a b c d : ℤ) → ((a +ℤ a) -ℤ b) +ℤ ((c +ℤ c) -ℤ d) ≡ ((a +ℤ c) +ℤ (a +ℤ c)) -ℤ (b +ℤ d)
twice_less_add a b c d = omega (arith, ints)

half_legs : (account : List ℕ) (unit : Commodity) (limit : Until) (day : Day) (n k : ℕ) (legs : List Leg)
    → Within (moved unit legs) ((total (counts Own account unit limit) (posted_legs day n k legs)
    +ℤ total (counts Own account unit limit) (posted_legs day n k legs)) -ℤ value unit legs)
half_legs account unit limit day n k [] = Within_of_zero _ (omega (arith, ints))
half_legs account unit limit day n k (x ∷ xs) =
    subst (Within (moved unit (x ∷ xs)))
    (twice_less_add _ _ (total (counts Own account unit limit) (posted_legs day n (k + 1) xs)) (value unit xs))
    (Within_add _ _ _ _ (Within_twice_less _ _ _ x.qty) (half_legs account unit limit day n (k + 1) xs))

balanced_half : (m : ℕ) (s v : ℤ) → v ≡ pos 0 → Within m ((s +ℤ s) -ℤ v) → Within m (s +ℤ s)
balanced_half m s v e h =
    let a = h.low in let b = h.high in record { low = omega (arith, ints, e); high = omega (arith, ints, e) }

add_twice : (a b c : ℤ) → c ≡ (a +ℤ b) → (a +ℤ a) +ℤ (b +ℤ b) ≡ c +ℤ c
add_twice a b c e = omega (arith, ints, e)

half_entries : (account : List ℕ) (unit : Commodity) (limit : Until) (n : ℕ) (es : List Entry) → AllByRecursion IsFit es
    → Within (turnover unit es) (total (counts Own account unit limit) (posted_from n es)
    +ℤ total (counts Own account unit limit) (posted_from n es))
half_entries account unit limit n [] h = Within_of_zero _ (omega (arith, ints))
half_entries account unit limit n (e ∷ es) h =
    let test = counts Own account unit limit in
    let here = total test (posted_legs e.day n 1 e.legs) in
    let rest = total test (posted_from (n + 1) es) in
    subst (λ (m : ℕ). Within m (total test (posted_from n (e ∷ es)) +ℤ total test (posted_from n (e ∷ es))))
    (sym (moved-append unit e.legs (legs_of es)))
    (subst (Within (moved unit e.legs + turnover unit es))
    (add_twice here rest (total test (posted_from n (e ∷ es)))
    (total-append test (posted_legs e.day n 1 e.legs) (posted_from (n + 1) es)))
    (Within_add _ _ _ _ (balanced_half (moved unit e.legs) here (value unit e.legs) (h.0.balanced unit)
    (half_legs account unit limit e.day n 1 e.legs)) (half_entries account unit limit (n + 1) es h.1)))

half_of : (m : ℕ) (z : ℤ) → m ≤ most_turnover → Within m (z +ℤ z) → z ≤ℤ pos 5000000000000000
half_of m z le h = let a = h.high in omega (arith, ints, le)

half_balance : (es : List Entry) (account : List ℕ) (unit : Commodity) (day : Day) → IsGoodBook es
    → balance Own es account unit (Through day) ≤ℤ pos 5000000000000000
unfolding balance
half_balance es account unit day good =
    half_of (turnover unit es) _ (good.within.small unit) (half_entries account unit (Through day) 1 es good.fit)

two_halves : (x y z : ℤ) → (x +ℤ y) ≡ z → x ≤ℤ pos 5000000000000000 → y ≤ℤ pos 5000000000000000
    → z ≤ℤ pos 10000000000000000
two_halves x y z e h k = omega (arith, ints)

zero_below_limit : (z : ℤ) → z ≡ pos 0 → z ≤ℤ pos 10000000000000000
zero_below_limit z e = omega (arith, ints)

apart_small : (f : Federation) (from to : List ℕ) (unit : Commodity) (day : Day) (a b : Bool) → IsGoodState f
    → has_branch f from ≡ a → has_branch f to ≡ b → bytes_eq from to ≡ false
    → open_amount f.transfers from to unit day ≤ℤ pos 10000000000000000
apart_small f from to unit day false b good h k e =
    zero_below_limit _ (open_amount_unknown f.transfers f.branches from to unit day good.transfers (rw h refl))
apart_small f from to unit day true false good h k e =
    zero_below_limit _ (open_amount_unknown f.transfers f.branches from to unit day good.transfers (rw (h, k) refl))
apart_small f from to unit day true true good h k e =
    two_halves _ _ _ (adds_up_named f from to good h k e unit day)
    (half_balance (book_of f from) (transit_account from to) unit day (good_book f from good))
    (half_balance (book_of f to) (transit_account from to) unit day (good_book f to good))

within_abs : (z : ℤ) → pos 0 ≤ℤ z → z ≤ℤ pos 10000000000000000 → unsigned_abs z ≤ 10000000000000000
within_abs z low high = omega (arith, ints)

fair_transfers : (f : Federation) → IsGoodState f → AllByRecursion IsFair f.transfers
fair_transfers f good = all_fair f.branches f.transfers (names_good f good) good.transfers

open_small : (f : Federation) (from to : List ℕ) (unit : Commodity) (day : Day) → IsGoodState f → (b : Bool)
    → bytes_eq from to ≡ b → open_amount f.transfers from to unit day ≤ℤ pos 10000000000000000
open_small f from to unit day good true e =
    zero_below_limit _ (open_amount-self f.transfers from to unit day (fair_transfers f good) e)
open_small f from to unit day good false e =
    apart_small f from to unit day (has_branch f from) (has_branch f to) good refl refl e

-- an open amount of a declared commodity can be printed
pub open_is_declared : (f : Federation) (from to : List ℕ) (unit : Commodity) (day : Day) → IsGoodState f
    → unit.0 < length f.styles → IsDeclared f.styles unit (open_amount f.transfers from to unit day)
open_is_declared f from to unit day good known = record {
  known = known;
  size = within_abs (open_amount f.transfers from to unit day)
      (open_sum_low f.transfers from to unit day (fair_transfers f good))
      (open_small f from to unit day good (bytes_eq from to) refl);
}
