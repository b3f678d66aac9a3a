-- what a closing moves: the accounts that are selected, and the one that gets what they held
use Rattle.std.proofs.Common.{◌≡◌, ◌≤◌, ◌<◌, ◌+◌, ℕ, nat_eq, Bool, true, false, not, ◌&&◌, ◌||◌, List, [], ◌∷◌, ◌++◌}
use Rattle.std.proofs.Common.{length, ℤ, pos, ◌+ℤ◌, ◌-ℤ◌, ◌≤ℤ◌, refl, ap, ◌∙◌, sym, arith, Some, None, ◌⊎◌, inl, inr}
use Rattle.std.proofs.Common.{Ordering}
use Rattle.std.specs.Prelude.{if◌then◌else◌, unsigned_abs, filter, cond, int_le}
use Rattle.std.specs.Cmp.{unsigned_Decides}
use Rattle.std.specs.List.{list_any, flat_map, AllByRecursion}
use Rattle.std.specs.List.Sorted.{IsStrictlySortedBy}
use Rattle.std.specs.Str.{bytes_eq}
use Rattle.std.specs.declared.cmp.Ordering.TheVariants.{Less, Equal, Greater}
use Rattle.std.proofs.lemmas.Int.{ints}
use Rattle.std.proofs.lemmas.Map.Lookups.{exact_bytes}
use Rattle.std.proofs.lemmas.Bool.{cases_lt, or_parts}
use Rattle.money_core.specs.declared.style.Style.{Style}
use Rattle.money_core.specs.declared.unit.Unit.{Unit as Commodity}
use Rattle.money_core.specs.declared.day.Day.{Day}
use Rattle.money_core.specs.AmountText.{IsDeclared}
use Rattle.money_core.proofs.TestLemmas.{int_le-true, if_zero}
use Rattle.money_core.proofs.BytesLemmas.{bytes_eq-refl, same_bytes, other_bytes}
use Rattle.book_core.specs.declared.account.Reach.TheVariants.{Own}
use Rattle.book_core.specs.declared.entry.Entry.{Entry}
use Rattle.book_core.specs.declared.leg.Leg.{Leg}
use Rattle.book_core.specs.declared.place.Until.{Until}
use Rattle.book_core.specs.declared.place.Until.TheVariants.{Through}
use Rattle.book_core.specs.Account.{name_cmp}
use Rattle.book_core.specs.Book.{posted_legs, posted_from, legs_of, accounts_of}
use Rattle.book_core.specs.Place.{is_until}
use Rattle.book_core.specs.Balance.{counts, total, balance, sum_in, value, moved, turnover}
use Rattle.book_core.specs.Accounts.{placed_name, with_name, ordered_names, book_accounts}
use Rattle.book_core.proofs.AccountListLemmas.{name_cmp-irrefl}
use Rattle.book_core.proofs.BalanceLemmas.{balance-append, balance-entry, balance_within}
use Rattle.book_core.proofs.SumLemmas.{total-append, moved-append}
use Rattle.book_core.proofs.AccountOrder.{book_accounts_are}
use Rattle.journal_format.specs.declared.posting.Posting.{Posting}
use Rattle.journal_format.specs.declared.txn.Txn.{Txn}
use Rattle.journal_balance.specs.Legs.{commodities, declared_commodities}
use Rattle.journal_balance.specs.Plain.{written_legs, written_entry}
use Rattle.journal_balance.proofs.DeclaredLemmas.{entry_declared}
use Rattle.treasury_state.specs.declared.record.Record.{Record}
use Rattle.treasury_state.specs.Federation.{Federation, entries, book_of, records_of}
use Rattle.treasury_state.specs.Good.{IsGoodRecord, IsGoodState}
use Rattle.treasury_state.proofs.BranchLemmas.{of_branch}
use Rattle.treasury_core.specs.Closing.{through, selected, closed_account, held_in, gaining_account, closing_postings}
use Rattle.treasury_core.specs.Closing.{closing_txn, closing_of, closing}
use Rattle.treasury_core.specs.Closed.{IsClosing, closed_book}
use Rattle.treasury_core.proofs.ClosingSums.{picked, picked-append, picked-value, picked-sum, legs-append, picked_known}
use Rattle.treasury_core.proofs.ClosingSums.{picked_behind, picked_closed, picked_unknown, held_if, held_all, held_none}
use Rattle.treasury_core.proofs.ClosingSums.{held_own, AreApart}

-- ---- the accounts of a book stand apart

apart_at : (a name : List ℕ) (rest : Bool) → name_cmp a name ≡ Less → rest ≡ false → (t : Bool) → bytes_eq a name ≡ t
    → (t || rest) ≡ false
apart_at a name rest less h true e = absurd (name_cmp-irrefl a (ap (name_cmp a) (same_bytes a name e) ∙ less))
apart_at a name rest less h false e = h

below_apart : (a : List ℕ) (names : List (List ℕ)) → AllByRecursion (λ y. name_cmp a y ≡ Less) names
    → list_any (bytes_eq a) names ≡ false
below_apart a [] h = refl
below_apart a (name ∷ names) h =
    apart_at a name (list_any (bytes_eq a) names) h.0 (below_apart a names h.1) (bytes_eq a name) refl

sorted_apart : (names : List (List ℕ)) → IsStrictlySortedBy name_cmp names → AreApart names
unfolding IsStrictlySortedBy
sorted_apart [] h = tt
sorted_apart (name ∷ names) h = (below_apart name names h.0, sorted_apart names h.1)

filter_none : (p : List ℕ → Bool) (a : List ℕ) (names : List (List ℕ)) → list_any (bytes_eq a) names ≡ false
    → list_any (bytes_eq a) (filter p names) ≡ false
filter_none p a [] e = refl
filter_none p a (name ∷ names) e =
    let both = or_parts (bytes_eq a name) (list_any (bytes_eq a) names) e in
    by_test (p name) both.0 (filter_none p a names both.1)
  where
    by_test : (t : Bool) → bytes_eq a name ≡ false → list_any (bytes_eq a) (filter p names) ≡ false
        → list_any (bytes_eq a) (cond t (name ∷ filter p names) (filter p names)) ≡ false
    by_test true own rest = ap (λ (b : Bool). b || list_any (bytes_eq a) (filter p names)) own ∙ rest
    by_test false own rest = rest

filter_apart : (p : List ℕ → Bool) (names : List (List ℕ)) → AreApart names → AreApart (filter p names)
filter_apart p [] h = tt
filter_apart p (name ∷ names) h = by_test (p name) (filter_none p name names h.0) (filter_apart p names h.1)
  where
    by_test : (t : Bool) → list_any (bytes_eq name) (filter p names) ≡ false → AreApart (filter p names)
        → AreApart (cond t (name ∷ filter p names) (filter p names))
    by_test true own rest = (own, rest)
    by_test false own rest = rest

pub selected_apart : (select : List ℕ → Bool) (b : List Entry) → AreApart (selected select b)
selected_apart select b =
    filter_apart select (book_accounts b) (sorted_apart (book_accounts b) (book_accounts_are b).ascending)

-- ---- which accounts are selected

-- names of which one is selected and the other is not
names_apart_by_select : (select : List ℕ → Bool) (a name : List ℕ) (s : Bool) → select a ≡ s → select name ≡ not s
    → bytes_eq a name ≡ false
names_apart_by_select select a name s on off = by_test (bytes_eq a name) refl
  where
    never : (s : Bool) → s ≡ not s → ⊥
    never true e = cc
    never false e = cc

    by_test : (t : Bool) → bytes_eq a name ≡ t → t ≡ false
    by_test true e = absurd (never s (sym on ∙ (ap select (same_bytes a name e) ∙ off)))
    by_test false e = refl

unselected_at : (select : List ℕ → Bool) (a name : List ℕ) (rest : List (List ℕ)) → select a ≡ false
    → list_any (bytes_eq a) rest ≡ false → (t : Bool) → select name ≡ t
    → list_any (bytes_eq a) (cond t (name ∷ rest) rest) ≡ false
unselected_at select a name rest e h true s =
    ap (λ (b : Bool). b || list_any (bytes_eq a) rest) (names_apart_by_select select a name false e s) ∙ h
unselected_at select a name rest e h false s = h

pub unselected_not_in_filter : (select : List ℕ → Bool) (a : List ℕ) (names : List (List ℕ)) → select a ≡ false
    → list_any (bytes_eq a) (filter select names) ≡ false
unselected_not_in_filter select a [] e = refl
unselected_not_in_filter select a (name ∷ names) e =
    unselected_at select a name (filter select names) e (unselected_not_in_filter select a names e) (select name) refl

kept_at : (select : List ℕ → Bool) (a name : List ℕ) (names rest : List (List ℕ)) → select a ≡ true
    → list_any (bytes_eq a) rest ≡ list_any (bytes_eq a) names → (t : Bool) → select name ≡ t
    → list_any (bytes_eq a) (cond t (name ∷ rest) rest) ≡ (bytes_eq a name || list_any (bytes_eq a) names)
kept_at select a name names rest e h true s = ap (λ (b : Bool). bytes_eq a name || b) h
kept_at select a name names rest e h false s =
    h ∙ sym (ap (λ (b : Bool). b || list_any (bytes_eq a) names) (names_apart_by_select select a name true e s))

selected_kept : (select : List ℕ → Bool) (a : List ℕ) (names : List (List ℕ)) → select a ≡ true
    → list_any (bytes_eq a) (filter select names) ≡ list_any (bytes_eq a) names
selected_kept select a [] e = refl
selected_kept select a (name ∷ names) e =
    kept_at select a name names (filter select names) e (selected_kept select a names e) (select name) refl

-- ---- an account without legs

or_same : (t r : Bool) → (t || r) ≡ (t || (t || r))
or_same true r = refl
or_same false r = refl

or_swap : (s t r : Bool) → (s || (t || r)) ≡ (t || (s || r))
or_swap true true r = refl
or_swap true false r = refl
or_swap false true r = refl
or_swap false false r = refl

any_placed : (a name first : List ℕ) (rest more : List (List ℕ))
    → list_any (bytes_eq a) more ≡ (bytes_eq a name || list_any (bytes_eq a) rest) → (o : Ordering)
    → name_cmp name first ≡ o
    → list_any (bytes_eq a) (placed_name o name first rest more)
    ≡ (bytes_eq a name || list_any (bytes_eq a) (first ∷ rest))
any_placed a name first rest more later Less e = refl
any_placed a name first rest more later Equal e =
    or_same (bytes_eq a first) (list_any (bytes_eq a) rest) ∙ ap
    (λ (n : List ℕ). bytes_eq a n || (bytes_eq a first || list_any (bytes_eq a) rest))
    (sym (exact_bytes name first e))
any_placed a name first rest more later Greater e =
    ap (λ (t : Bool). bytes_eq a first || t) later ∙ or_swap (bytes_eq a first) (bytes_eq a name)
    (list_any (bytes_eq a) rest)

any_with_name : (a name : List ℕ) (names : List (List ℕ))
    → list_any (bytes_eq a) (with_name name names) ≡ (bytes_eq a name || list_any (bytes_eq a) names)
any_with_name a name [] = refl
any_with_name a name (first ∷ rest) =
    any_placed a name first rest (with_name name rest) (any_with_name a name rest) (name_cmp name first) refl

any_ordered : (a : List ℕ) (names : List (List ℕ))
    → list_any (bytes_eq a) (ordered_names names) ≡ list_any (bytes_eq a) names
any_ordered a [] = refl
any_ordered a (name ∷ names) =
    any_with_name a name (ordered_names names) ∙ ap (λ (t : Bool). bytes_eq a name || t) (any_ordered a names)

-- one of the legs is the account's
abbrev has_leg : List ℕ → List Leg → Bool
has_leg a legs = list_any (λ (x : Leg). bytes_eq a x.account) legs

any_accounts : (a : List ℕ) (legs : List Leg) → list_any (bytes_eq a) (accounts_of legs) ≡ has_leg a legs
any_accounts a [] = refl
any_accounts a (x ∷ xs) = ap (λ (t : Bool). bytes_eq a x.account || t) (any_accounts a xs)

none_of_both : (a : List ℕ) (xs ys : List Leg) → has_leg a (xs ++ ys) ≡ false
    → (has_leg a xs ≡ false) × (has_leg a ys ≡ false)
none_of_both a [] ys e = (refl, e)
none_of_both a (x ∷ xs) ys e =
    let both = or_parts (bytes_eq a x.account) (has_leg a (xs ++ ys)) e in
    let rest = none_of_both a xs ys both.1 in
    (ap (λ (t : Bool). t || has_leg a xs) both.0 ∙ rest.0, rest.1)

zero_of_other_account : (u r w : Bool) (q : ℤ) → r ≡ false → (if (u && r) && w then q else pos 0) ≡ pos 0
zero_of_other_account true r w q e = ap (λ (t : Bool). if t && w then q else pos 0) e
zero_of_other_account false r w q e = refl

absent_legs : (a : List ℕ) (unit : Commodity) (limit : Until) (day : Day) (n k : ℕ) (legs : List Leg)
    → has_leg a legs ≡ false → total (counts Own a unit limit) (posted_legs day n k legs) ≡ pos 0
absent_legs a unit limit day n k [] e = refl
absent_legs a unit limit day n k (x ∷ xs) e =
    let both = or_parts (bytes_eq a x.account) (has_leg a xs) e in
    let own = zero_of_other_account (nat_eq x.unit.0 unit.0) (bytes_eq x.account a)
    (is_until limit (record { day = day; entry = n; leg = k })) x.qty (other_bytes a x.account both.0) in
    let rest = absent_legs a unit limit day n (k + 1) xs both.1 in
    omega (arith, ints, own, rest)

absent_entries : (a : List ℕ) (unit : Commodity) (limit : Until) (n : ℕ) (es : List Entry)
    → has_leg a (legs_of es) ≡ false → total (counts Own a unit limit) (posted_from n es) ≡ pos 0
absent_entries a unit limit n [] e = refl
absent_entries a unit limit n (x ∷ xs) e =
    let both = none_of_both a x.legs (legs_of xs) e in
    let split = total-append (counts Own a unit limit) (posted_legs x.day n 1 x.legs) (posted_from (n + 1) xs) in
    let own = absent_legs a unit limit x.day n 1 x.legs both.0 in
    let rest = absent_entries a unit limit (n + 1) xs both.1 in
    omega (arith, ints, split, own, rest)

absent_through : (b : List Entry) (day : Day) (a : List ℕ) (unit : Commodity)
    → list_any (bytes_eq a) (book_accounts b) ≡ false → through b day a unit ≡ pos 0
unfolding balance book_accounts
absent_through b day a unit e =
    absent_entries a unit (Through day) 1 b
    (sym (any_accounts a (legs_of b)) ∙ (sym (any_ordered a (accounts_of (legs_of b))) ∙ e))

-- ---- a commodity that is not declared

unmoved_at : (n m u q rest : ℕ) → n < m → m ≤ u → rest ≡ 0 → (t : Bool) → nat_eq n u ≡ t
    → (if t then q else 0) + rest ≡ 0
unmoved_at n m u q rest known past h true e =
    absurd (let same : n ≡ u = (unsigned_Decides n u).0 e in omega (arith, same, known, past))
unmoved_at n m u q rest known past h false e = omega (arith, h)

unmoved_legs : (styles : List Style) (unit : Commodity) (legs : List Leg) → length styles ≤ unit.0
    → AllByRecursion (λ (x : Leg). IsDeclared styles x.unit x.qty) legs → moved unit legs ≡ 0
unmoved_legs styles unit [] past h = refl
unmoved_legs styles unit (x ∷ xs) past h =
    unmoved_at x.unit.0 (length styles) unit.0 (unsigned_abs x.qty) (moved unit xs) h.0.known past
    (unmoved_legs styles unit xs past h.1) (nat_eq x.unit.0 unit.0) refl

turnover_undeclared : (styles : List Style) (unit : Commodity) (rs : List Record) → length styles ≤ unit.0
    → AllByRecursion (IsGoodRecord styles) rs → turnover unit (entries rs) ≡ 0
turnover_undeclared styles unit [] past h = refl
turnover_undeclared styles unit (r ∷ rs) past h =
    let own = unmoved_legs styles unit r.entry.legs past
    (entry_declared styles r.txn r.entry h.0.printable.postings h.0.legs) in
    let rest = turnover_undeclared styles unit rs past h.1 in
    let split = moved-append unit r.entry.legs (legs_of (entries rs)) in
    omega (arith, own, rest, split)

-- a book in which only the first m commodities are moved
abbrev pub IsKnown : ℕ → List Entry → Type 0
IsKnown m b = (unit : Commodity) → m ≤ unit.0 → turnover unit b ≡ 0

pub book_known : (f : Federation) (name : List ℕ) → IsGoodState f → IsKnown (length f.styles) (book_of f name)
book_known f name good unit past =
    turnover_undeclared f.styles unit (records_of f name) past
    (of_branch (λ xs. AllByRecursion (IsGoodRecord f.styles) xs) f.styles f.branches name tt (λ b h. h.records)
    good.branches)

unknown_through : (m : ℕ) (b : List Entry) → IsKnown m b → (day : Day) (a : List ℕ) (unit : Commodity) → m ≤ unit.0
    → through b day a unit ≡ pos 0
unknown_through m b known day a unit past =
    let w = balance_within Own b a unit (Through day) in
    let low = w.low in
    let high = w.high in
    let none = known unit past in
    omega (arith, ints, low, high, none)

unknown_held : (m : ℕ) (b : List Entry) → IsKnown m b → (day : Day) (unit : Commodity) (names : List (List ℕ))
    → m ≤ unit.0 → held_in b day unit names ≡ pos 0
unknown_held m b known day unit [] past = refl
unknown_held m b known day unit (name ∷ names) past =
    let own = unknown_through m b known day name unit past in
    let rest = unknown_held m b known day unit names past in
    omega (arith, ints, own, rest)

unknown_held_if : (m : ℕ) (b : List Entry) → IsKnown m b
    → (p : List ℕ → Bool) (day : Day) (unit : Commodity) (names : List (List ℕ)) → m ≤ unit.0
    → held_if p b day unit names ≡ pos 0
unknown_held_if m b known p day unit [] past = refl
unknown_held_if m b known p day unit (name ∷ names) past =
    let own = if_zero (p name) (through b day name unit) (unknown_through m b known day name unit past) in
    let rest = unknown_held_if m b known p day unit names past in
    omega (arith, ints, own, rest)

-- ---- what the postings pick

picked_closing : (p : List ℕ → Bool) (m : ℕ) (b : List Entry) → IsKnown m b
    → (day : Day) (into : List ℕ) (names : List (List ℕ)) (unit : Commodity) → (unit.0 < m) ⊎ (m ≤ unit.0) →
    picked p unit (written_legs (closing_postings b day into names (commodities 0 m)))
    ≡ (pos 0 -ℤ held_if p b day unit names) +ℤ (if p into then held_in b day unit names else pos 0)
picked_closing p m b known day into names unit (inl here) =
    let closed = flat_map (closed_account b day (commodities 0 m)) names in
    let gained = gaining_account b day into names (commodities 0 m) in
    let split : picked p unit (written_legs (closed ++ gained))
    ≡ picked p unit (written_legs closed) +ℤ picked p unit (written_legs gained) =
    ap (picked p unit) (legs-append closed gained) ∙ picked-append p unit (written_legs closed) (written_legs gained) in
    let first = picked_closed p unit b day m names here in
    let low : 0 ≤ unit.0 = omega arith in
    let within : unit.0 < 0 + m = omega (arith, here) in
    let second =
    picked_known p unit into (λ (u : Commodity). held_in b day u names) (λ (u : Commodity). None) 0 m low within in
    omega (arith, ints, split, first, second)
picked_closing p m b known day into names unit (inr past) =
    let closed = flat_map (closed_account b day (commodities 0 m)) names in
    let gained = gaining_account b day into names (commodities 0 m) in
    let split : picked p unit (written_legs (closed ++ gained))
    ≡ picked p unit (written_legs closed) +ℤ picked p unit (written_legs gained) =
    ap (picked p unit) (legs-append closed gained) ∙ picked-append p unit (written_legs closed) (written_legs gained) in
    let first = picked_unknown p unit b day m names past in
    let behind : 0 + m ≤ unit.0 = omega (arith, past) in
    let second =
    picked_behind p unit into (λ (u : Commodity). held_in b day u names) (λ (u : Commodity). None) 0 m behind in
    let none = unknown_held_if m b known p day unit names past in
    let nothing = if_zero (p into) (held_in b day unit names) (unknown_held m b known day unit names past) in
    omega (arith, ints, split, first, second, none, nothing)

-- a closing sums to zero
pub closing_balanced : (m : ℕ) (b : List Entry) → IsKnown m b
    → (day : Day) (into : List ℕ) (names : List (List ℕ)) (unit : Commodity)
    → value unit (written_legs (closing_postings b day into names (commodities 0 m))) ≡ pos 0
closing_balanced m b known day into names unit =
    let legs = written_legs (closing_postings b day into names (commodities 0 m)) in
    let all = sym (picked-value unit legs) ∙ picked_closing (λ (n : List ℕ). true) m b known day into names unit
    (cases_lt unit.0 m) in
    let same = held_all b day unit names in
    omega (arith, ints, all, same)

-- ---- what the closing moves on an account

abbrev pub moves : ℕ → List Entry → Day → List ℕ → (List ℕ → Bool) → List ℕ → Commodity → ℤ
moves m b day into select a unit =
    sum_in Own a unit (written_legs (closing_postings b day into (selected select b) (commodities 0 m)))

pub moves_is : (m : ℕ) (b : List Entry) → IsKnown m b
    → (day : Day) (into : List ℕ) (select : List ℕ → Bool) (a : List ℕ) (unit : Commodity) →
    moves m b day into select a unit
    ≡ (pos 0 -ℤ held_if (λ (n : List ℕ). bytes_eq n a) b day unit (selected select b))
    +ℤ (if bytes_eq into a then held_in b day unit (selected select b) else pos 0)
moves_is m b known day into select a unit =
    sym (picked-sum a unit (written_legs (closing_postings b day into (selected select b) (commodities 0 m))))
    ∙ picked_closing (λ (n : List ℕ). bytes_eq n a) m b known day into (selected select b) unit (cases_lt unit.0 m)

target_apart : (select : List ℕ → Bool) (into a : List ℕ) → select into ≡ false → select a ≡ true
    → bytes_eq into a ≡ false
target_apart select into a out on = by_test (bytes_eq into a) refl
  where
    by_test : (t : Bool) → bytes_eq into a ≡ t → t ≡ false
    by_test true e = absurd (let x : false ≡ true = sym out ∙ (ap select (same_bytes into a e) ∙ on) in cc)
    by_test false e = refl

held_selected : (select : List ℕ → Bool) (b : List Entry) (day : Day) (a : List ℕ) (unit : Commodity) → select a ≡ true
    → held_if (λ (n : List ℕ). bytes_eq n a) b day unit (selected select b) ≡ through b day a unit
held_selected select b day a unit on = by_test (list_any (bytes_eq a) (book_accounts b)) refl
  where
    by_test : (t : Bool) → list_any (bytes_eq a) (book_accounts b) ≡ t
        → held_if (λ (n : List ℕ). bytes_eq n a) b day unit (selected select b) ≡ through b day a unit
    by_test true e = held_own a b day unit (selected select b) (selected_kept select a (book_accounts b) on ∙ e)
        (selected_apart select b)
    by_test false e = held_none a b day unit (selected select b) (selected_kept select a (book_accounts b) on ∙ e) ∙ sym
        (absent_through b day a unit e)

moves_selected : (m : ℕ) (b : List Entry) → IsKnown m b
    → (day : Day) (into : List ℕ) (select : List ℕ → Bool) (a : List ℕ) (unit : Commodity) → select into ≡ false
    → select a ≡ true →
    moves m b day into select a unit ≡ pos 0 -ℤ through b day a unit
moves_selected m b known day into select a unit out on =
    let all = moves_is m b known day into select a unit in
    let own = held_selected select b day a unit on in
    let none = ap (λ (t : Bool). if t then held_in b day unit (selected select b) else pos 0)
    (target_apart select into a out on) in
    omega (arith, ints, all, own, none)

moves_target : (m : ℕ) (b : List Entry) → IsKnown m b
    → (day : Day) (into : List ℕ) (select : List ℕ → Bool) (unit : Commodity) → select into ≡ false →
    moves m b day into select into unit ≡ held_in b day unit (selected select b)
moves_target m b known day into select unit out =
    let all = moves_is m b known day into select into unit in
    let none = held_none into b day unit (selected select b)
    (unselected_not_in_filter select into (book_accounts b) out) in
    let own = ap (λ (t : Bool). if t then held_in b day unit (selected select b) else pos 0) (bytes_eq-refl into) in
    omega (arith, ints, all, own, none)

-- ---- the book with the closing

of_postings : (day : Day) (comments : List (List ℕ)) (ps : List Posting) (t : Txn) → closing_of day comments ps ≡ Some t
    → t ≡ closing_txn day comments ps
of_postings day comments [] t e = absurd cc
of_postings day comments (p ∷ ps) t e = cc

pub from_closing : (select : List ℕ → Bool) (into : List ℕ) (comments : List (List ℕ)) (styles : List Style)
    (b : List Entry) (day : Day) (t : Txn) → closing select into comments styles b day ≡ Some t
    → t ≡ closing_txn day comments (closing_postings b day into (selected select b) (declared_commodities styles))
unfolding closing
from_closing select into comments styles b day t e =
    of_postings day comments (closing_postings b day into (selected select b) (declared_commodities styles)) t e

-- each balance of it: that of the book, and on the day or later what the closing moves
pub closed_balance : (select : List ℕ → Bool) (into : List ℕ) (f : Federation) (name : List ℕ) (day : Day) (t : Txn)
    → IsClosing select into f name day t → (a : List ℕ) (unit : Commodity) (x : Day) →
    balance Own (closed_book f name t) a unit (Through x)
    ≡ balance Own (book_of f name) a unit (Through x)
    +ℤ (if int_le day.0 x.0 then moves (length f.styles) (book_of f name) day into select a unit else pos 0)
closed_balance select into f name day t h a unit x =
    let b = book_of f name in
    let is = from_closing select into h.comments f.styles b day t h.closes in
    balance-append Own b (written_entry t ∷ []) a unit x
    ∙ ap (λ (z : ℤ). balance Own b a unit (Through x) +ℤ z)
    (balance-entry Own (written_entry t) a unit x ∙ ap
    (λ (s : Txn). if int_le s.day.0 x.0 then sum_in Own a unit (written_legs s.postings) else pos 0) is)

pub moved_on : (select : List ℕ → Bool) (into : List ℕ) (f : Federation) (name : List ℕ) (day : Day) (t : Txn)
    (a : List ℕ) (unit : Commodity) (later : Day) → IsClosing select into f name day t → select a ≡ true
    → int_le day.0 later.0 ≡ true →
    balance Own (closed_book f name t) a unit (Through later)
    ≡ balance Own (book_of f name) a unit (Through later) -ℤ balance Own (book_of f name) a unit (Through day)
moved_on select into f name day t a unit later h on past =
    let b = book_of f name in
    let is = closed_balance select into f name day t h a unit later in
    let when = ap (λ (s : Bool). if s then moves (length f.styles) b day into select a unit else pos 0) past in
    let by = moves_selected (length f.styles) b (book_known f name h.good) day into select a unit h.apart on in
    omega (arith, ints, is, when, by)

day_through : (day : Day) → int_le day.0 day.0 ≡ true
day_through day = let h : day.0 ≤ℤ day.0 = omega (arith, ints) in int_le-true day.0 day.0 h

pub balance_of_closed : (select : List ℕ → Bool) (into : List ℕ) (f : Federation) (name : List ℕ) (day : Day) (t : Txn)
    (a : List ℕ) (unit : Commodity) → IsClosing select into f name day t → select a ≡ true →
    balance Own (closed_book f name t) a unit (Through day) ≡ pos 0
balance_of_closed select into f name day t a unit h on =
    let moved = moved_on select into f name day t a unit day h on (day_through day) in omega (arith, ints, moved)

pub balance_of_gaining : (select : List ℕ → Bool) (into : List ℕ) (f : Federation) (name : List ℕ) (day : Day) (t : Txn)
    (unit : Commodity) (later : Day) → IsClosing select into f name day t → int_le day.0 later.0 ≡ true →
    balance Own (closed_book f name t) into unit (Through later)
    ≡ balance Own (book_of f name) into unit (Through later)
    +ℤ held_in (book_of f name) day unit (selected select (book_of f name))
balance_of_gaining select into f name day t unit later h past =
    let b = book_of f name in
    let is = closed_balance select into f name day t h into unit later in
    let when = ap (λ (s : Bool). if s then moves (length f.styles) b day into select into unit else pos 0) past in
    let by = moves_target (length f.styles) b (book_known f name h.good) day into select unit h.apart in
    omega (arith, ints, is, when, by)
