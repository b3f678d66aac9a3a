-- a closing can be printed, and does what its postings say
use Rattle.std.proofs.Common.{◌≡◌, ◌≤◌, ◌<◌, ◌+◌, ◌*◌, ◌||◌, ◌==◌, ℕ, zero, suc, Bool, true, false, List, [], ◌∷◌, ◌++◌}
use Rattle.std.proofs.Common.{length, ℤ, pos, neg_ℤ, ◌-ℤ◌, refl, ap, ◌∙◌, sym, subst, arith, Option, Some, None, Ok}
use Rattle.std.proofs.Common.{length-append, true≢false, Ordering}
use Rattle.std.specs.Prelude.{codes, nat_lt, nat_le, unsigned_abs, if◌then◌else◌, filter, cond, is_some, slice_get}
use Rattle.std.specs.Prelude.{◌&&◌}
use Rattle.std.specs.Ordering.{int_eq}
use Rattle.std.specs.Char.{is_ascii_digit}
use Rattle.std.specs.List.{list_all, flat_map, AllByRecursion}
use Rattle.std.specs.Str.{is_utf8}
use Rattle.std.specs.declared.cmp.Ordering.TheVariants.{Less, Equal, Greater}
use Rattle.std.proofs.lemmas.Bool.{and_from, and_parts}
use Rattle.std.proofs.lemmas.Bool.Decides.{nat_tests}
use Rattle.std.proofs.lemmas.Grind.{common_steps}
use Rattle.std.proofs.lemmas.Int.{ints}
use Rattle.std.proofs.lemmas.List.Folds.{list_all-append}
use Rattle.money_core.specs.declared.style.Style.{Style}
use Rattle.money_core.specs.declared.unit.Unit.{Unit as Commodity}
use Rattle.money_core.specs.declared.day.Day.{Day}
use Rattle.money_core.specs.declared.price.Price.{Price}
use Rattle.money_core.specs.declared.claim.Claim.{Claim}
use Rattle.money_core.specs.Amount.{limit}
use Rattle.money_core.specs.NamePart.{IsNamePart}
use Rattle.money_core.specs.Price.{cost_unit, is_cost}
use Rattle.money_core.specs.Style.{AreStyles}
use Rattle.money_core.specs.Symbol.{is_symbol}
use Rattle.money_core.proofs.SymbolText.{name_parts}
use Rattle.money_core.proofs.ListLemmas.{all-append}
use Rattle.money_core.proofs.Utf8Lemmas.{utf8_low}
use Rattle.book_core.specs.declared.entry.Entry.{Entry}
use Rattle.book_core.specs.declared.leg.Leg.{Leg}
use Rattle.book_core.specs.declared.account.Reach.TheVariants.{Own}
use Rattle.book_core.specs.declared.place.Until.TheVariants.{Through}
use Rattle.book_core.specs.Account.{name_cmp}
use Rattle.book_core.specs.Book.{legs_of as book_legs, accounts_of}
use Rattle.book_core.specs.Balance.{value}
use Rattle.book_core.specs.GoodBook.{HasRoom}
use Rattle.book_core.specs.Accounts.{placed_name, with_name, ordered_names, book_accounts}
use Rattle.book_core.proofs.BalanceLemmas.{small_within}
use Rattle.journal_lines.specs.AccountName.{is_account}
use Rattle.journal_lines.specs.Date.{printed_date, IsDayNumber}
use Rattle.journal_lines.proofs.DateLemmas.{dates_print}
use Rattle.journal_format.specs.declared.posting.Posting.{Posting}
use Rattle.journal_format.specs.declared.txn.Txn.{Txn}
use Rattle.journal_format.specs.BodySize.{postings_size, remarks_size}
use Rattle.journal_format.specs.CanonicalText.{body_text}
use Rattle.journal_format.specs.Mark.{is_mark, is_mark_byte}
use Rattle.journal_format.specs.Pieces.{posting_limit}
use Rattle.journal_format.specs.Printable.{is_remark_text, is_note, is_amount, is_price_or_none, is_claim_or_none}
use Rattle.journal_format.specs.Printable.{is_value, is_posting, IsPrintable}
use Rattle.journal_format.proofs.SizeLemmas.{body_size, head_is, header_small, remarks_push, remark_small}
use Rattle.journal_format.proofs.SizeLemmas.{postings-append, no_remarks, no_postings_size}
use Rattle.journal_balance.specs.Conversion.{symbol_in, symbol_of, conversion_account}
use Rattle.journal_balance.specs.Legs.{commodities, declared_commodities, leg, rest_leg, sum_of, amount_legs}
use Rattle.journal_balance.specs.Legs.{posting_legs}
use Rattle.journal_balance.specs.Legs.{legs_among, balanced_entry}
use Rattle.journal_balance.specs.Plain.{written_leg, written_legs, written_entry, is_written}
use Rattle.journal_balance.proofs.FaultLemmas.{legs_found}
use Rattle.journal_balance.proofs.NameLemmas.{conversion_formed}
use Rattle.journal_balance.proofs.WrittenLemmas.{legs_of-written}
use Rattle.treasury_state.specs.declared.record.Record.{Record}
use Rattle.treasury_state.specs.Federation.{Federation, entries, book_of, records_of}
use Rattle.treasury_state.specs.Transfer.{is_account_text}
use Rattle.treasury_state.specs.Good.{IsGoodRecord, IsGoodState}
use Rattle.treasury_state.specs.Mark.{close_mark}
use Rattle.treasury_state.proofs.BranchLemmas.{of_branch}
use Rattle.treasury_state.proofs.OpenLemmas.{good_book}
use Rattle.treasury_state.proofs.DateLemmas.{all_weaker}
use Rattle.treasury_core.specs.declared.choice.Choice.{Choice}
use Rattle.treasury_core.specs.Choice.{is_selected, target_in, choice_comments, choice_refusal}
use Rattle.treasury_core.specs.Closing.{through, zero_claim, nonzero_posting, selected, closed_account, held_in}
use Rattle.treasury_core.specs.Closing.{gaining_account, closing_postings, closing_txn, closing_in}
use Rattle.treasury_core.specs.Closed.{IsClosing}
use Rattle.treasury_core.proofs.ProductLemmas.{line_small, same_size}
use Rattle.treasury_core.proofs.ChoiceLemmas.{choice_allowed, comments_print, few_chosen}
use Rattle.treasury_core.proofs.ClosingSums.{picked-value, spread, picked_closed, held_all, AreApart, closed_small}
use Rattle.treasury_core.proofs.ClosingSums.{abs_value, same_spread}
use Rattle.treasury_core.proofs.ClosingLemmas.{book_known, selected_apart, closing_balanced, from_closing}

-- ---- the postings of a closing, each by itself

-- what is said of each posting of an account, said of each of its quantities
pub each_spread : (P : Posting → Type 0) (name : List ℕ) (g : Commodity → ℤ) (c : Commodity → Option Claim) (m n k : ℕ)
    → n + k ≤ m
    → ((unit : Commodity) → unit.0 < m
    → P (record {
      status = None;
      account = name;
      amount = Some (unit, g unit);
      price = None;
      claim = c unit;
      comments = [];
    }))
    → AllByRecursion P (spread name g c (commodities n k))
each_spread P name g c m n zero fits h = tt
each_spread P name g c m n (suc k) fits h =
    let later : (n + 1) + k ≤ m = omega (arith, fits) in
    let known : n < m = omega (arith, fits) in
    all-append P (nonzero_posting name v (g v) (c v)) (spread name g c (commodities (n + 1) k))
    (by_test (int_eq (g v) (pos 0)) (h v known)) (each_spread P name g c m (n + 1) k later h)
  where
    v : Commodity
    v = record { 0 = n }

    own : Posting
    own = record { status = None; account = name; amount = Some (v, g v); price = None; claim = c v; comments = [] }

    by_test : (t : Bool) → P own → AllByRecursion P (if t then [] else own ∷ [])
    by_test true k = tt
    by_test false k = (k, tt)

pub each_closed : (P : Posting → Type 0) (Q : List ℕ → Type 0) (b : List Entry) (day : Day) (m : ℕ)
    (names : List (List ℕ)) → AllByRecursion Q names
    → ((name : List ℕ) (unit : Commodity) → Q name → unit.0 < m
    → P (record {
      status = None;
      account = name;
      amount = Some (unit, pos 0 -ℤ through b day name unit);
      price = None;
      claim = Some (zero_claim unit);
      comments = [];
    }))
    → AllByRecursion P (flat_map (closed_account b day (commodities 0 m)) names)
each_closed P Q b day m [] q h = tt
each_closed P Q b day m (name ∷ names) q h =
    let all : 0 + m ≤ m = omega arith in
    all-append P (closed_account b day (commodities 0 m) name) (flat_map (closed_account b day (commodities 0 m)) names)
    (each_spread P name (λ (u : Commodity). pos 0 -ℤ through b day name u) (λ (u : Commodity). Some (zero_claim u)) m 0
    m all (λ unit known. h name unit q.0 known))
    (each_closed P Q b day m names q.1 h)

-- ---- quantities are within the limit

pub balance_small : (b : List Entry) → HasRoom b → (day : Day) (name : List ℕ) (unit : Commodity)
    → unsigned_abs (pos 0 -ℤ through b day name unit) ≤ limit
balance_small b room day name unit =
    let w = small_within b room Own name unit (Through day) in
    let low = w.low in
    let high = w.high in
    omega (arith, ints, low, high)

-- what is held is what the closed accounts lose
pub held_is : (b : List Entry) (day : Day) (unit : Commodity) (m : ℕ) (names : List (List ℕ)) → unit.0 < m
    → pos 0 -ℤ value unit (written_legs (flat_map (closed_account b day (commodities 0 m)) names))
    ≡ held_in b day unit names
held_is b day unit m names known =
    let legs = written_legs (flat_map (closed_account b day (commodities 0 m)) names) in
    let all = sym (picked-value unit legs) ∙ picked_closed (λ (n : List ℕ). true) unit b day m names known in
    let same = held_all b day unit names in
    omega (arith, ints, all, same)

held_small : (b : List Entry) → HasRoom b → (day : Day) (unit : Commodity) (m : ℕ) (names : List (List ℕ))
    → AreApart names → unit.0 < m → unsigned_abs (held_in b day unit names) ≤ limit
held_small b room day unit m names apart known =
    let legs = written_legs (flat_map (closed_account b day (commodities 0 m)) names) in
    let is = ap unsigned_abs (held_is b day unit m names known) in
    let back = same_size (value unit legs) in
    let few = abs_value unit legs in
    let small = closed_small b day unit m names apart room in
    omega (arith, is, back, few, small)

-- ---- legs

-- everything of a posting is written, within the limit
pub record IsPlain (p : Posting) : Type 0 where
  pub written : is_written p ≡ true
  pub small : AllByRecursion (λ (x : Leg). unsigned_abs x.qty ≤ limit) (written_leg p.account p.amount)

all_written : (ps : List Posting) → AllByRecursion IsPlain ps → list_all is_written ps ≡ true
all_written [] h = refl
all_written (p ∷ ps) h = and_from (is_written p) (list_all is_written ps) h.0.written (all_written ps h.1)

all_small : (ps : List Posting) → AllByRecursion IsPlain ps
    → AllByRecursion (λ (x : Leg). unsigned_abs x.qty ≤ limit) (written_legs ps)
all_small [] h = tt
all_small (p ∷ ps) h = all-append (λ (x : Leg). unsigned_abs x.qty ≤ limit) (written_leg p.account p.amount)
    (written_legs ps) h.0.small (all_small ps h.1)

any_name : (names : List (List ℕ)) → AllByRecursion (λ (n : List ℕ). n ≡ n) names
any_name [] = tt
any_name (n ∷ ns) = (refl, any_name ns)

pub all_plain : (b : List Entry) → HasRoom b → (day : Day) (into : List ℕ) (m : ℕ) (names : List (List ℕ))
    → AreApart names → AllByRecursion IsPlain (closing_postings b day into names (commodities 0 m))
all_plain b room day into m names apart =
    let all : 0 + m ≤ m = omega arith in
    all-append IsPlain (flat_map (closed_account b day (commodities 0 m)) names)
    (gaining_account b day into names (commodities 0 m))
    (each_closed IsPlain (λ (n : List ℕ). n ≡ n) b day m names (any_name names)
    (λ name unit q known. record { written = refl; small = (balance_small b room day name unit, tt) }))
    (each_spread IsPlain into (λ (u : Commodity). held_in b day u names) (λ (u : Commodity). None) m 0 m all
    (λ unit known. record { written = refl; small = (held_small b room day unit m names apart known, tt) }))

-- the closing's entry is that of its postings as they are written
pub closing_legs : (select : List ℕ → Bool) (into : List ℕ) (f : Federation) (name : List ℕ) (day : Day) (t : Txn)
    → IsClosing select into f name day t → balanced_entry f.styles t ≡ Ok (written_entry t)
closing_legs select into f name day t h =
    let b = book_of f name in
    let names = selected select b in
    let m = length f.styles in
    let ps = closing_postings b day into names (commodities 0 m) in
    let plain = all_plain b (good_book f name h.good).within.small day into m names (selected_apart select b) in
    let own : balanced_entry f.styles (closing_txn day h.comments ps) ≡ Ok
    (written_entry (closing_txn day h.comments ps)) =
    legs_of-written f.styles (closing_txn day h.comments ps)
    (record {
      written = all_written ps plain;
      balanced = λ unit.
          closing_balanced m b (book_known f name h.good) day into names unit;
      small = all_small ps plain;
    }) in
    subst (λ (s : Txn). balanced_entry f.styles s ≡ Ok (written_entry s))
    (sym (from_closing select into h.comments f.styles b day t h.closes)) own

-- ---- the accounts of a book are well formed

abbrev IsNamed : List ℕ → Type 0
IsNamed account = is_account_text account ≡ true

abbrev HasName : Leg → Type 0
HasName x = IsNamed x.account

-- each symbol can stand in a name
abbrev AreNamed : List Style → Type 0
AreNamed styles = (i : ℕ) (style : Style) → slice_get styles i ≡ Some style → IsNamePart style.symbol

styles_named : (styles : List Style) → AreStyles styles → AreNamed styles
styles_named styles are i style e =
    name_parts style.symbol (and_parts (is_symbol style.symbol) _ (are.each i style e)).0

named_at : (styles : List Style) → AreNamed styles → (i : ℕ) (o : Option Style) → slice_get styles i ≡ o
    → is_some o ≡ true → IsNamePart (symbol_in o)
named_at styles are i None e k = absurd (true≢false (sym k))
named_at styles are i (Some style) e k = are i style e

symbol_named : (styles : List Style) → AreNamed styles → (unit : Commodity) → is_some (slice_get styles unit.0) ≡ true
    → IsNamePart (symbol_of styles unit)
symbol_named styles are unit k = named_at styles are unit.0 (slice_get styles unit.0) refl k

style_there : (styles : List Style) (i : ℕ) → i < length styles → is_some (slice_get styles i) ≡ true
style_there [] i h = absurd (omega (arith, h))
style_there (x ∷ xs) zero h = refl
style_there (x ∷ xs) (suc i) h = let k : i < length xs = omega (arith, h) in style_there xs i k

less : (a b : ℕ) → nat_lt a b ≡ true → a < b
less a b h = grind (arith, nat_tests)

amount_there : (styles : List Style) (i : ℕ) → nat_lt i (length styles) ≡ true → is_some (slice_get styles i) ≡ true
amount_there styles i h = style_there styles i (less i (length styles) h)

price_there : (o : Option Style) (p : Price) → is_cost o p ≡ true → is_some o ≡ true
price_there None p h = absurd cc
price_there (Some style) p h = refl

account_named : (a b own : List ℕ) → IsNamePart a → IsNamePart b → IsNamePart own → IsNamed (conversion_account a b own)
account_named a b own h k o = let both = conversion_formed a b own h k o in and_from _ _ both.0 both.1

rest_named : (account : List ℕ) (f : Commodity → ℤ) (n k : ℕ) → IsNamed account
    → AllByRecursion HasName (flat_map (λ (u : Commodity). rest_leg account u (f u)) (commodities n k))
rest_named account f n zero h = tt
rest_named account f n (suc k) h =
    let v : Commodity = record { 0 = n } in
    all-append HasName (rest_leg account v (f v))
    (flat_map (λ (u : Commodity). rest_leg account u (f u)) (commodities (n + 1) k))
    (by_test (int_eq (f v) (pos 0))) (rest_named account f (n + 1) k h)
  where
    by_test : (t : Bool) → AllByRecursion HasName
        (if t then [] else leg account (record { 0 = n }) (neg_ℤ (f (record { 0 = n }))) ∷ [])
    by_test true = tt
    by_test false = (h, tt)

amount_named : (styles : List Style) → AreNamed styles → (account : List ℕ) (a : Commodity × ℤ) (p : Option Price)
    → IsNamed account → nat_lt a.0.0 (length styles) ≡ true → is_price_or_none styles p ≡ true
    → AllByRecursion HasName (amount_legs styles account a p)
amount_named styles are account a None h known priced = (h, tt)
amount_named styles are account a (Some p) h known priced =
    let own = symbol_named styles are a.0 (amount_there styles a.0.0 known) in
    let other = symbol_named styles are (cost_unit p) (price_there (slice_get styles (cost_unit p).0) p priced) in
    (h, (account_named _ _ _ own other own, (account_named _ _ _ own other other, tt)))

posting_named : (styles : List Style) → AreNamed styles
    → (all : List Posting) (account : List ℕ) (o : Option (Commodity × ℤ)) (p : Option Price) (k : Option Claim)
    → IsNamed account → is_value styles o p k ≡ true
    → AllByRecursion HasName (posting_legs styles all account o p)
posting_named styles are all account None p k h value =
    rest_named account (λ (u : Commodity). sum_of styles u all) 0 (length styles) h
posting_named styles are all account (Some a) p k h value =
    let one = and_parts (is_amount styles a.0 a.1 && is_price_or_none styles p) (is_claim_or_none styles k) value in
    let two = and_parts (is_amount styles a.0 a.1) (is_price_or_none styles p) one.0 in
    amount_named styles are account a p h (and_parts (nat_lt a.0.0 (length styles)) _ two.0).0 two.1

one_named : (styles : List Style) → AreNamed styles → (all : List Posting) (p : Posting) → is_posting styles p ≡ true
    → AllByRecursion HasName (posting_legs styles all p.account p.amount p.price)
one_named styles are all p h =
    let one = and_parts _ _ h in
    let two = and_parts (is_account p.account && is_utf8 p.account) (is_value styles p.amount p.price p.claim) one.0 in
    posting_named styles are all p.account p.amount p.price p.claim two.0 two.1

legs_named : (styles : List Style) → AreNamed styles → (all xs : List Posting) → list_all (is_posting styles) xs ≡ true
    → AllByRecursion HasName (legs_among styles all xs)
legs_named styles are all [] ok = tt
legs_named styles are all (x ∷ xs) ok =
    let both = and_parts (is_posting styles x) (list_all (is_posting styles) xs) ok in
    all-append HasName (posting_legs styles all x.account x.amount x.price) (legs_among styles all xs)
    (one_named styles are all x both.0) (legs_named styles are all xs both.1)

entry_named : (styles : List Style) → AreNamed styles → (r : Record) → IsGoodRecord styles r
    → AllByRecursion HasName r.entry.legs
entry_named styles are r h =
    let found = legs_found styles r.txn r.entry h.legs in
    subst (λ (e : Entry). AllByRecursion HasName e.legs) found.1
    (legs_named styles are r.txn.postings r.txn.postings h.printable.postings)

book_named : (styles : List Style) → AreNamed styles → (rs : List Record) → AllByRecursion (IsGoodRecord styles) rs
    → AllByRecursion HasName (book_legs (entries rs))
book_named styles are [] h = tt
book_named styles are (r ∷ rs) h =
    all-append HasName r.entry.legs (book_legs (entries rs)) (entry_named styles are r h.0)
    (book_named styles are rs h.1)

accounts_named : (legs : List Leg) → AllByRecursion HasName legs → AllByRecursion IsNamed (accounts_of legs)
accounts_named [] h = tt
accounts_named (x ∷ xs) h = (h.0, accounts_named xs h.1)

placed_named : (name first : List ℕ) (rest more : List (List ℕ)) → IsNamed name → AllByRecursion IsNamed (first ∷ rest)
    → AllByRecursion IsNamed more → (o : Ordering) → AllByRecursion IsNamed (placed_name o name first rest more)
placed_named name first rest more h all later Less = (h, all)
placed_named name first rest more h all later Equal = all
placed_named name first rest more h all later Greater = (all.0, later)

with_named : (name : List ℕ) (names : List (List ℕ)) → IsNamed name → AllByRecursion IsNamed names
    → AllByRecursion IsNamed (with_name name names)
with_named name [] h all = (h, all)
with_named name (first ∷ rest) h all =
    placed_named name first rest (with_name name rest) h all (with_named name rest h all.1) (name_cmp name first)

ordered_named : (names : List (List ℕ)) → AllByRecursion IsNamed names → AllByRecursion IsNamed (ordered_names names)
ordered_named [] h = tt
ordered_named (name ∷ names) h = with_named name (ordered_names names) h.0 (ordered_named names h.1)

-- so are those that are selected, whatever selects them
selected_at : (name : List ℕ) (rest : List (List ℕ)) → IsNamed name → AllByRecursion IsNamed rest → (t : Bool)
    → AllByRecursion IsNamed (cond t (name ∷ rest) rest)
selected_at name rest h all true = (h, all)
selected_at name rest h all false = all

selected_named : (select : List ℕ → Bool) (names : List (List ℕ)) → AllByRecursion IsNamed names
    → AllByRecursion IsNamed (filter select names)
selected_named select [] h = tt
selected_named select (name ∷ names) h =
    selected_at name (filter select names) h.0 (selected_named select names h.1) (select name)

names_formed : (select : List ℕ → Bool) (styles : List Style) → AreNamed styles → (rs : List Record)
    → AllByRecursion (IsGoodRecord styles) rs → AllByRecursion IsNamed (selected select (entries rs))
unfolding book_accounts
names_formed select styles are rs h =
    selected_named select (book_accounts (entries rs))
    (ordered_named (accounts_of (book_legs (entries rs)))
    (accounts_named (book_legs (entries rs)) (book_named styles are rs h)))

-- ---- the transaction can be printed

-- a posting that can be printed, without comments
record IsShort (styles : List Style) (p : Posting) : Type 0 where
  fits : is_posting styles p ≡ true
  bare : p.comments ≡ []

amount_fits : (styles : List Style) (unit : Commodity) (q : ℤ) → unit.0 < length styles → unsigned_abs q ≤ limit
    → is_amount styles unit q ≡ true
amount_fits styles unit q known small =
    and_from _ _ (lt_true unit.0 (length styles) known) (le_true (unsigned_abs q) limit small)
  where
    lt_true : (a b : ℕ) → a < b → nat_lt a b ≡ true
    lt_true a b h = grind (arith, nat_tests)

    le_true : (a b : ℕ) → a ≤ b → nat_le a b ≡ true
    le_true a b h = grind (arith, nat_tests)

zero_fits : (styles : List Style) (unit : Commodity) → unit.0 < length styles → is_amount styles unit (pos 0) ≡ true
zero_fits styles unit known = amount_fits styles unit (pos 0) known (omega arith)

closed_fits : (styles : List Style) (name : List ℕ) (unit : Commodity) (q : ℤ) → is_account_text name ≡ true
    → unit.0 < length styles → unsigned_abs q ≤ limit
    → is_posting styles (record {
      status = None;
      account = name;
      amount = Some (unit, q);
      price = None;
      claim = Some (zero_claim unit);
      comments = [];
    }) ≡ true
closed_fits styles name unit q formed known small =
    let both = and_parts (is_account name) (is_utf8 name) formed in
    rw (both.0, both.1, amount_fits styles unit q known small, zero_fits styles unit known) refl

gaining_fits : (styles : List Style) (name : List ℕ) (unit : Commodity) (q : ℤ) → is_account_text name ≡ true
    → unit.0 < length styles → unsigned_abs q ≤ limit
    → is_posting styles (record {
      status = None;
      account = name;
      amount = Some (unit, q);
      price = None;
      claim = None;
      comments = [];
    }) ≡ true
gaining_fits styles name unit q formed known small =
    let both = and_parts (is_account name) (is_utf8 name) formed in
    rw (both.0, both.1, amount_fits styles unit q known small) refl

all_short : (styles : List Style) (b : List Entry) → HasRoom b → (day : Day) (into : List ℕ) (names : List (List ℕ))
    → AreApart names → is_account_text into ≡ true → AllByRecursion (λ (n : List ℕ). is_account_text n ≡ true) names
    → AllByRecursion (IsShort styles) (closing_postings b day into names (declared_commodities styles))
all_short styles b room day into names apart target formed =
    let m = length styles in
    let all : 0 + m ≤ m = omega arith in
    all-append (IsShort styles) (flat_map (closed_account b day (commodities 0 m)) names)
    (gaining_account b day into names (commodities 0 m))
    (each_closed (IsShort styles) (λ (n : List ℕ). is_account_text n ≡ true) b day m names formed
    (λ name unit q known. record {
      fits =
          closed_fits styles name unit (pos 0 -ℤ through b day name unit) q known (balance_small b room day name unit);
      bare = refl;
    }))
    (each_spread (IsShort styles) into (λ (u : Commodity). held_in b day u names) (λ (u : Commodity). None) m 0 m all
    (λ unit known. record {
      fits = gaining_fits styles into unit (held_in b day unit names) target known
          (held_small b room day unit m names apart known);
      bare = refl;
    }))

all_fit : (styles : List Style) (ps : List Posting) → AllByRecursion (IsShort styles) ps
    → list_all (is_posting styles) ps ≡ true
all_fit styles [] h = refl
all_fit styles (p ∷ ps) h =
    and_from (is_posting styles p) (list_all (is_posting styles) ps) h.0.fits (all_fit styles ps h.1)

lines_small : (styles : List Style) → AreStyles styles → (ps : List Posting) → AllByRecursion (IsShort styles) ps
    → postings_size styles ps ≤ 500 * length ps
lines_small styles are [] h = omega (arith, no_postings_size styles)
lines_small styles are (p ∷ ps) h =
    omega (
      arith,
      postings-append styles (p ∷ []) ps,
      line_small styles are p h.0.fits h.0.bare,
      lines_small styles are ps h.1,
    )

-- its mark is well formed
date_byte : (b : ℕ) → (is_ascii_digit b || (b == 45)) ≡ true → is_mark_byte b ≡ true
date_byte b h = grind (arith, common_steps)

mark_fits : (day : Day) → IsDayNumber day → is_mark (close_mark day) ≡ true
mark_fits day h =
    let text = dates_print day h in
    let size : length (close_mark day) ≡ 16 =
    omega (arith, length-append (codes "close:") (printed_date day), text.ten) in
    let some : nat_lt 0 (length (close_mark day)) ≡ true = grind (arith, nat_tests) in
    let few : nat_lt (length (close_mark day)) 101 ≡ true = grind (arith, nat_tests) in
    and_from _ _ (and_from _ _ some few)
    (list_all-append is_mark_byte (codes "close:") (printed_date day) ∙ and_from _ _ refl
    (all_weaker (λ b. is_ascii_digit b || (b == 45)) is_mark_byte date_byte (printed_date day) text.form))

-- the comments of a choice are short
two_small : (xs : List (List ℕ)) → list_all is_note xs ≡ true → length xs ≤ 2 → remarks_size xs ≤ 1814
two_small [] h few = omega (arith, no_remarks)
two_small (x ∷ []) h few =
    omega (arith, remark_small x (and_parts (is_remark_text x) _ (and_parts (is_note x) true h).0).0)
two_small (x ∷ (y ∷ [])) h few =
    let first = and_parts (is_note x) (list_all is_note (y ∷ [])) h in
    let second = and_parts (is_note y) true first.1 in
    omega (
      arith,
      remarks_push (x ∷ []) y,
      remark_small x (and_parts (is_remark_text x) _ first.0).0,
      remark_small y (and_parts (is_remark_text y) _ second.0).0,
    )
two_small (x ∷ (y ∷ (z ∷ zs))) h few = absurd (omega (arith, few))

txn_printable : (styles : List Style) → AreStyles styles → (day : Day) → IsDayNumber day → (comments : List (List ℕ))
    → list_all is_note comments ≡ true → length comments ≤ 2 → (ps : List Posting)
    → AllByRecursion (IsShort styles) ps → length ps ≤ posting_limit → IsPrintable styles (closing_txn day comments ps)
txn_printable styles are day number comments notes two ps short few =
    let t = closing_txn day comments ps in
    let size : length (body_text styles t) ≤ 1000000 =
    omega (
      arith,
      body_size styles t,
      head_is t,
      header_small day None None (codes "close"),
      two_small comments notes two,
      lines_small styles are ps short,
      few,
    ) in
    record {
      header = record { number = number; code_ok = refl; description_ok = refl };
      code = refl;
      description = utf8_low (codes "close") refl;
      mark = mark_fits day number;
      comments = notes;
      postings = all_fit styles ps short;
      few = few;
      small = size;
    }

pub closing_printable : (f : Federation) (name : List ℕ) (day : Day) (c : Choice) (t : Txn) → IsGoodState f
    → IsDayNumber day → choice_refusal c ≡ None → closing_in f name day c ≡ Some t → length t.postings ≤ posting_limit
    → IsPrintable f.styles t
closing_printable f name day c t good number chosen closes few =
    let h = choice_allowed c chosen in
    let b = book_of f name in
    let select = is_selected c.accounts in
    let into = target_in c.into in
    let names = selected select b in
    let ps = closing_postings b day into names (declared_commodities f.styles) in
    let is = from_closing select into (choice_comments c) f.styles b day t closes in
    let formed =
    names_formed select f.styles (styles_named f.styles good.styles) (records_of f name)
    (of_branch (λ xs. AllByRecursion (IsGoodRecord f.styles) xs) f.styles f.branches name tt (λ b h. h.records)
    good.branches) in
    let short = all_short f.styles b (good_book f name good).within.small day into names (selected_apart select b)
    h.target formed in
    let count : length ps ≤ posting_limit = subst (λ (s : Txn). length s.postings ≤ posting_limit) is few in
    subst (λ (s : Txn). IsPrintable f.styles s) (sym is)
    (txn_printable f.styles good.styles day number (choice_comments c) (comments_print c h) (few_chosen c) ps short
    count)

-- ---- its postings, as they are put together

pub closing_joined : (b : List Entry) (day : Day) (into : List ℕ) (m : ℕ) (names : List (List ℕ))
    (closed gained : List Posting) → closed ≡ flat_map (closed_account b day (commodities 0 m)) names
    → gained ≡ spread into (λ (u : Commodity). pos 0 -ℤ value u (written_legs closed)) (λ (u : Commodity). None)
    (commodities 0 m)
    → closed ++ gained ≡ closing_postings b day into names (commodities 0 m)
closing_joined b day into m names closed gained e f =
    let all = flat_map (closed_account b day (commodities 0 m)) names in
    let fits : 0 + m ≤ m = omega arith in
    let sums = same_spread into (λ (u : Commodity). pos 0 -ℤ value u (written_legs all))
    (λ (u : Commodity). held_in b day u names) (λ (u : Commodity). None) m 0 m fits
    (λ u known. held_is b day u m names known) in
    let gains = f ∙ (ap (λ (ps : List Posting).
    spread into (λ (u : Commodity). pos 0 -ℤ value u (written_legs ps)) (λ (u : Commodity). None) (commodities 0 m))
    e ∙ sums) in
    ap (λ (ps : List Posting). ps ++ gained) e ∙ ap (λ (ps : List Posting). all ++ ps) gains
