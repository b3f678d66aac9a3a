-- Balances of a book with more entries, of one entry, and of a book that passes: for the crates above.
use Rattle.std.proofs.Common.{◌≡◌, ℕ, ◌+◌, Bool, true, false, List, [], ◌∷◌, ◌++◌, length, arith, refl, ap, ◌∙◌, sym}
use Rattle.std.proofs.Common.{nat_eq, ℤ, pos, ◌+ℤ◌, append-nil, None}
use Rattle.std.specs.Prelude.{if◌then◌else◌, ◌&&◌, int_le}
use Rattle.std.proofs.lemmas.Int.{ints}
use Rattle.money_core.specs.declared.unit.Unit.{Unit as Commodity}
use Rattle.money_core.specs.declared.day.Day.{Day}
use Rattle.book_core.specs.declared.leg.Leg.{Leg}
use Rattle.book_core.specs.declared.entry.Entry.{Entry}
use Rattle.book_core.specs.declared.account.Reach.{Reach}
use Rattle.book_core.specs.declared.place.Until.{Until}
use Rattle.book_core.specs.declared.place.Until.TheVariants.{Through}
use Rattle.book_core.specs.Account.{reaches}
use Rattle.book_core.specs.Book.{posted, posted_from, posted_legs}
use Rattle.book_core.specs.Balance.{balance, counts, total, sum_in, turnover}
use Rattle.book_core.specs.GoodBook.{HasRoom, most_turnover, verdict}
use Rattle.book_core.proofs.SumLemmas.{Within, total-append, within_entries}
use Rattle.book_core.proofs.BookLemmas.{posted_from-append}
use Rattle.book_core.proofs.VerdictLemmas.{within_from}

-- through a day the numbers of entries and legs don't matter
total-legs_number : (reach : Reach) (account : List ℕ) (unit : Commodity) (day : Day) (on : Day) (n m k j : ℕ)
    (legs : List Leg) →
    total (counts reach account unit (Through day)) (posted_legs on n k legs)
    ≡ total (counts reach account unit (Through day)) (posted_legs on m j legs)
total-legs_number reach account unit day on n m k j [] = refl
total-legs_number reach account unit day on n m k j (x ∷ xs) =
    ap (λ (z : ℤ). (if ((nat_eq x.unit.0 unit.0 && reaches reach account x.account) && int_le on.0 day.0) then x.qty
    else pos 0) +ℤ z) (total-legs_number reach account unit day on n m (k + 1) (j + 1) xs)

total-number : (reach : Reach) (account : List ℕ) (unit : Commodity) (day : Day) (n m : ℕ) (es : List Entry) →
    total (counts reach account unit (Through day)) (posted_from n es)
    ≡ total (counts reach account unit (Through day)) (posted_from m es)
total-number reach account unit day n m [] = refl
total-number reach account unit day n m (e ∷ es) =
    let test = counts reach account unit (Through day) in
    total-append test (posted_legs e.day n 1 e.legs) (posted_from (n + 1) es)
    ∙ ap (λ (z : ℤ). z +ℤ total test (posted_from (n + 1) es))
    (total-legs_number reach account unit day e.day n m 1 1 e.legs)
    ∙ ap (λ (z : ℤ). total test (posted_legs e.day m 1 e.legs) +ℤ z)
    (total-number reach account unit day (n + 1) (m + 1) es)
    ∙ sym (total-append test (posted_legs e.day m 1 e.legs) (posted_from (m + 1) es))

-- up to any limit: the balance of the book, and what the later entries add at their places
pub balance-append_from : (reach : Reach) (b e : List Entry) (account : List ℕ) (unit : Commodity) (limit : Until) →
    balance reach (b ++ e) account unit limit
    ≡ balance reach b account unit limit +ℤ total (counts reach account unit limit) (posted_from (length b + 1) e)
unfolding balance
balance-append_from reach b e account unit limit =
    ap (total (counts reach account unit limit)) (posted_from-append 1 b e) ∙ total-append
    (counts reach account unit limit) (posted b) (posted_from (length b + 1) e)

-- through a day: the sum of both balances
pub balance-append : (reach : Reach) (b e : List Entry) (account : List ℕ) (unit : Commodity) (day : Day) →
    balance reach (b ++ e) account unit (Through day)
    ≡ balance reach b account unit (Through day) +ℤ balance reach e account unit (Through day)
unfolding balance
balance-append reach b e account unit day =
    balance-append_from reach b e account unit (Through day)
    ∙ ap (λ (z : ℤ). balance reach b account unit (Through day) +ℤ z)
    (total-number reach account unit day (length b + 1) 1 e)

pub balance-nil : (reach : Reach) (account : List ℕ) (unit : Commodity) (limit : Until)
    → balance reach [] account unit limit ≡ pos 0
unfolding balance
balance-nil reach account unit limit = refl

-- through a day: the sum of the legs where the day is through
total-sum_in : (reach : Reach) (account : List ℕ) (unit : Commodity) (day on : Day) (n k : ℕ) (legs : List Leg) →
    total (counts reach account unit (Through day)) (posted_legs on n k legs)
    ≡ (if int_le on.0 day.0 then sum_in reach account unit legs else pos 0)
total-sum_in reach account unit day on n k legs = by_day (int_le on.0 day.0) refl
  where
    through : int_le on.0 day.0 ≡ true → (k : ℕ) (xs : List Leg)
        → total (counts reach account unit (Through day)) (posted_legs on n k xs) ≡ sum_in reach account unit xs
    through e k [] = refl
    through e k (x ∷ xs) = rw (through e (k + 1) xs)
        (ap (λ (t : Bool). (if t then x.qty else pos 0) +ℤ sum_in reach account unit xs)
        (in_time (nat_eq x.unit.0 unit.0 && reaches reach account x.account)))
      where
        in_time : (t : Bool) → (t && int_le on.0 day.0) ≡ t
        in_time true = e
        in_time false = refl

    later : int_le on.0 day.0 ≡ false → (k : ℕ) (xs : List Leg)
        → total (counts reach account unit (Through day)) (posted_legs on n k xs) ≡ pos 0
    later e k [] = refl
    later e k (x ∷ xs) = rw (later e (k + 1) xs)
        (ap (λ (t : Bool). (if t then x.qty else pos 0) +ℤ pos 0)
        (too_late (nat_eq x.unit.0 unit.0 && reaches reach account x.account)))
      where
        too_late : (t : Bool) → (t && int_le on.0 day.0) ≡ false
        too_late true = e
        too_late false = refl

    by_day : (t : Bool) → int_le on.0 day.0 ≡ t
        → total (counts reach account unit (Through day)) (posted_legs on n k legs)
        ≡ (if t then sum_in reach account unit legs else pos 0)
    by_day true e = through e k legs
    by_day false e = later e k legs

-- the balance of one entry: the sum of its legs where its day is through
pub balance-entry : (reach : Reach) (e : Entry) (account : List ℕ) (unit : Commodity) (day : Day)
    → balance reach (e ∷ []) account unit (Through day)
    ≡ (if int_le e.day.0 day.0 then sum_in reach account unit e.legs else pos 0)
unfolding balance
balance-entry reach e account unit day =
    ap (total (counts reach account unit (Through day))) (append-nil (posted_legs e.day 1 1 e.legs)) ∙ total-sum_in
    reach account unit day e.day 1 1 e.legs

-- each balance is within the turnover, on both sides
pub balance_within : (reach : Reach) (b : List Entry) (account : List ℕ) (unit : Commodity) (limit : Until)
    → Within (turnover unit b) (balance reach b account unit limit)
unfolding balance
balance_within reach b account unit limit = within_entries reach account unit limit 1 b

pub small_within : (b : List Entry) → HasRoom b → (reach : Reach) (account : List ℕ) (unit : Commodity) (limit : Until)
    → Within most_turnover (balance reach b account unit limit)
small_within b room reach account unit limit =
    let w = balance_within reach b account unit limit in
    let h = room unit in
    record { low = omega (arith, ints, w.low); high = omega (arith, ints, w.high) }

-- in a book that passes each balance is within the limit on the turnover, on both sides
pub small_book : (b : List Entry) → verdict b ≡ None
    → (reach : Reach) (account : List ℕ) (unit : Commodity) (limit : Until)
    → Within most_turnover (balance reach b account unit limit)
small_book b h = let within = within_from b h in small_within b within.small
