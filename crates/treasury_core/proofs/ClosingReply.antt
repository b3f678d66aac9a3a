-- the answer of a closing, by the postings that it has; its record is good, no transfer's, and within its lock
use Rattle.std.proofs.Common.{◌≡◌, ◌≤◌, ◌⊎◌, inl, inr, ℕ, Bool, true, false, not, List, length, refl, ap, ◌∙◌, sym}
use Rattle.std.proofs.Common.{subst, arith, Option, Some, None, Ok, Err, ◌+◌, ◌||◌, cond, [], ◌∷◌, ◌++◌, ℤ}
use Rattle.std.proofs.lemmas.Bool.Decides.{nat_tests}
use Rattle.std.specs.Prelude.{if◌then◌else◌, nat_lt, Result, IfOk, filter}
use Rattle.std.specs.List.{list_any, flat_map, AllByRecursion}
use Rattle.money_core.specs.declared.style.Style.{Style}
use Rattle.money_core.specs.declared.day.Day.{Day}
use Rattle.money_core.specs.declared.cause.Cause.TheVariants.{UnknownBranch, Limit, OutOfMemory}
use Rattle.money_core.specs.declared.unit.Unit.{Unit as Commodity}
use Rattle.money_core.proofs.TestLemmas.{int_le-refl}
use Rattle.money_core.proofs.ListLemmas.{all-append}
use Rattle.book_core.specs.declared.entry.Entry.{Entry}
use Rattle.book_core.specs.declared.refusal.Refusal.{Refusal}
use Rattle.book_core.specs.declared.refusal.Refusal.TheVariants.{Plain}
use Rattle.book_core.specs.declared.leg.Leg.{Leg}
use Rattle.book_core.specs.Accounts.{book_accounts}
use Rattle.journal_lines.specs.Date.{IsDayNumber}
use Rattle.journal_format.specs.declared.posting.Posting.{Posting}
use Rattle.journal_format.specs.declared.txn.Txn.{Txn}
use Rattle.journal_format.specs.Pieces.{posting_limit}
use Rattle.journal_format.specs.Printable.{IsPrintable}
use Rattle.journal_balance.specs.Legs.{declared_commodities, commodities}
use Rattle.journal_balance.specs.Plain.{written_leg, written_legs}
use Rattle.treasury_state.specs.Federation.{Federation, has_branch, book_of, is_locked}
use Rattle.treasury_state.specs.Good.{IsGoodState, IsGoodRecord}
use Rattle.treasury_state.specs.Transfer.{is_reserved, is_transit}
use Rattle.treasury_state.specs.Mark.{close_mark}
use Rattle.treasury_core.specs.declared.choice.Choice.{Choice}
use Rattle.treasury_core.specs.Choice.{is_selected, target_in, choice_comments, choice_refusal}
use Rattle.treasury_core.specs.Closing.{selected, closing_postings, closing_of, closing, closing_in, closing_answer}
use Rattle.treasury_core.specs.Closing.{chosen_answer, closing_reply, closed_account, held_in, gaining_account}
use Rattle.treasury_core.specs.Closing.{closing_txn, closing_record}
use Rattle.treasury_core.specs.Closed.{IsClosing}
use Rattle.treasury_core.proofs.ClosingPrinted.{closing_printable, each_spread, each_closed, closing_legs}
use Rattle.treasury_core.proofs.ChoiceLemmas.{IsChoice, choice_allowed, selected_off}
use Rattle.treasury_core.proofs.ClosingLemmas.{from_closing}
use Rattle.treasury_core.proofs.KeepLemmas.{IsOwnEntry}

abbrev by_branch : Bool → Option Refusal → Option Txn → Result Txn Refusal
by_branch t e o = if not t then Err (Plain UnknownBranch) else chosen_answer e o

pub no_branch : (f : Federation) (name : List ℕ) (day : Day) (c : Choice) → has_branch f name ≡ false
    → closing_reply f name day c ≡ Err (Plain UnknownBranch)
unfolding closing_reply
no_branch f name day c h = ap (λ (t : Bool). by_branch t (choice_refusal c) (closing_in f name day c)) h

-- a choice that is refused
pub not_chosen : (f : Federation) (name : List ℕ) (day : Day) (c : Choice) (e : Refusal) → has_branch f name ≡ true
    → choice_refusal c ≡ Some e → closing_reply f name day c ≡ Err e
unfolding closing_reply
not_chosen f name day c e h k =
    ap (λ (t : Bool). by_branch t (choice_refusal c) (closing_in f name day c)) h
    ∙ ap (λ (o : Option Refusal). chosen_answer o (closing_in f name day c)) k

pub of_branch : (f : Federation) (name : List ℕ) (day : Day) (c : Choice) → has_branch f name ≡ true
    → choice_refusal c ≡ None → closing_reply f name day c ≡ closing_answer (closing_in f name day c)
unfolding closing_reply
of_branch f name day c h k =
    ap (λ (t : Bool). by_branch t (choice_refusal c) (closing_in f name day c)) h
    ∙ ap (λ (o : Option Refusal). chosen_answer o (closing_in f name day c)) k

-- the postings of the book, in the styles
abbrev pub postings_in : Choice → List Style → List Entry → Day → List Posting
postings_in c styles b day =
    closing_postings b day (target_in c.into) (selected (is_selected c.accounts) b) (declared_commodities styles)

pub answers : (f : Federation) (name : List ℕ) (day : Day) (c : Choice) (b : List Entry) (styles : List Style)
    (ps : List Posting) (r : Result Txn Refusal) → has_branch f name ≡ true → choice_refusal c ≡ None
    → b ≡ book_of f name → styles ≡ f.styles
    → ps ≡ postings_in c styles b day
    → (r ≡ closing_answer (closing_of day (choice_comments c) ps)) ⊎ (r ≡ Err (Plain OutOfMemory))
    → (r ≡ closing_reply f name day c) ⊎ (r ≡ Err (Plain OutOfMemory))
unfolding closing
answers f name day c b styles ps r here chosen book same all (inr e) = inr e
answers f name day c b styles ps r here chosen book same all (inl e) =
    let is : ps ≡ postings_in c f.styles (book_of f name) day =
    all ∙ (ap (λ (xs : List Style). postings_in c xs b day) same ∙ ap
    (λ (xs : List Entry). postings_in c f.styles xs day) book) in
    inl (e ∙ (ap (λ (xs : List Posting). closing_answer (closing_of day (choice_comments c) xs)) is ∙ sym
    (of_branch f name day c here chosen)))

pub not_more : (n : ℕ) → nat_lt posting_limit n ≡ false → n ≤ posting_limit
not_more n h = grind (arith, nat_tests)

-- what is answered can be printed
limited : (P : Txn → Type 0) (t : Txn) → (length t.postings ≤ posting_limit → P t) → (b : Bool)
    → nat_lt posting_limit (length t.postings) ≡ b → (r : Result Txn Refusal)
    → r ≡ (if b then Err (Plain Limit) else Ok t) → IfOk r P
limited P t h true e r is = subst (λ (x : Result Txn Refusal). IfOk x P) (sym is) tt
limited P t h false e r is = subst (λ (x : Result Txn Refusal). IfOk x P) (sym is) (h (not_more (length t.postings) e))

by_closing : (P : Txn → Type 0) (o : Option Txn) (r : Result Txn Refusal)
    → ((t : Txn) → o ≡ Some t → length t.postings ≤ posting_limit → P t) → r ≡ closing_answer o → IfOk r P
by_closing P None r h is = subst (λ (x : Result Txn Refusal). IfOk x P) (sym is) tt
by_closing P (Some t) r h is = limited P t (h t refl) (nat_lt posting_limit (length t.postings)) refl r is

by_choice : (P : Txn → Type 0) (e : Option Refusal) (o : Option Txn) (r : Result Txn Refusal)
    → ((t : Txn) → e ≡ None → o ≡ Some t → length t.postings ≤ posting_limit → P t) → r ≡ chosen_answer e o → IfOk r P
by_choice P (Some e) o r h is = subst (λ (x : Result Txn Refusal). IfOk x P) (sym is) tt
by_choice P None o r h is = by_closing P o r (λ t. h t refl) is

by_state : (P : Txn → Type 0) (b : Bool) (e : Option Refusal) (o : Option Txn) (r : Result Txn Refusal)
    → ((t : Txn) → e ≡ None → o ≡ Some t → length t.postings ≤ posting_limit → P t) → r ≡ by_branch b e o → IfOk r P
by_state P true e o r h is = by_choice P e o r h is
by_state P false e o r h is = subst (λ (x : Result Txn Refusal). IfOk x P) (sym is) tt

pub answer_printable : (f : Federation) (name : List ℕ) (day : Day) (c : Choice) (r : Result Txn Refusal)
    → IsGoodState f → IsDayNumber day → (r ≡ closing_reply f name day c) ⊎ (r ≡ Err (Plain OutOfMemory))
    → IfOk r (λ (t : Txn). IsPrintable f.styles t)
unfolding closing_reply
answer_printable f name day c r good number (inl e) =
    by_state (λ (t : Txn). IsPrintable f.styles t) (has_branch f name) (choice_refusal c) (closing_in f name day c) r
    (λ t chosen is few. closing_printable f name day c t good number chosen is few) e
answer_printable f name day c r good number (inr e) =
    subst (λ (x : Result Txn Refusal). IfOk x (λ (t : Txn). IsPrintable f.styles t)) (sym e) tt

-- each selected account is
selected_at : (p : List ℕ → Bool) (name : List ℕ) (names : List (List ℕ)) (t : Bool) → p name ≡ t
    → AllByRecursion (λ (n : List ℕ). p n ≡ true) names
    → AllByRecursion (λ (n : List ℕ). p n ≡ true) (cond t (name ∷ names) names)
selected_at p name names true e h = (e, h)
selected_at p name names false e h = h

all_selected : (p : List ℕ → Bool) (names : List (List ℕ))
    → AllByRecursion (λ (n : List ℕ). p n ≡ true) (filter p names)
all_selected p [] = tt
all_selected p (name ∷ names) = selected_at p name (filter p names) (p name) refl (all_selected p names)

-- no posting of a closing is on such an account
abbrev IsApart : Posting → Type 0
IsApart p = is_reserved p.account ≡ false

all_apart : (c : Choice) → IsChoice c → (b : List Entry) (day : Day) (m : ℕ) (names : List (List ℕ))
    → AllByRecursion (λ (n : List ℕ). is_selected c.accounts n ≡ true) names
    → AllByRecursion IsApart (closing_postings b day (target_in c.into) names (commodities 0 m))
all_apart c h b day m names are =
    let all : 0 + m ≤ m = omega arith in
    all-append IsApart (flat_map (closed_account b day (commodities 0 m)) names)
    (gaining_account b day (target_in c.into) names (commodities 0 m))
    (each_closed IsApart (λ (n : List ℕ). is_selected c.accounts n ≡ true) b day m names are
    (λ name unit q known. selected_off c name h q))
    (each_spread IsApart (target_in c.into) (λ (u : Commodity). held_in b day u names) (λ (u : Commodity). None) m 0 m
    all (λ unit known. h.clear))

leg_apart : (a : List ℕ) (o : Option (Commodity × ℤ)) (xs : List Leg) → is_reserved a ≡ false
    → list_any is_transit xs ≡ false → list_any is_transit (written_leg a o ++ xs) ≡ false
leg_apart a None xs e h = h
leg_apart a (Some x) xs e h = ap (λ (t : Bool). t || list_any is_transit xs) e ∙ h

legs_apart : (ps : List Posting) → AllByRecursion IsApart ps → list_any is_transit (written_legs ps) ≡ false
legs_apart [] h = refl
legs_apart (p ∷ ps) h = leg_apart p.account p.amount (written_legs ps) h.0 (legs_apart ps h.1)

-- the closing as it is made
abbrev made : Federation → List ℕ → Day → Choice → Txn
made f name day c =
    closing_txn day (choice_comments c)
    (closing_postings (book_of f name) day (target_in c.into) (selected (is_selected c.accounts) (book_of f name))
    (commodities 0 (length f.styles)))

pub is_made : (f : Federation) (name : List ℕ) (day : Day) (c : Choice) (t : Txn) → closing_in f name day c ≡ Some t
    → t ≡ made f name day c
is_made f name day c t closes =
    from_closing (is_selected c.accounts) (target_in c.into) (choice_comments c) f.styles (book_of f name) day t closes

pub made_on : (f : Federation) (name : List ℕ) (day : Day) (c : Choice) (t : Txn) → closing_in f name day c ≡ Some t
    → t.day ≡ day
made_on f name day c t closes = ap (λ (s : Txn). s.day) (is_made f name day c t closes)

pub is_closing_of : (f : Federation) (name : List ℕ) (day : Day) (c : Choice) (t : Txn) → IsGoodState f
    → choice_refusal c ≡ None → closing_in f name day c ≡ Some t
    → IsClosing (is_selected c.accounts) (target_in c.into) f name day t
is_closing_of f name day c t good chosen closes =
    record { good = good; apart = (choice_allowed c chosen).apart; comments = choice_comments c; closes = closes }

pub closing_record_good : (f : Federation) (name : List ℕ) (day : Day) (c : Choice) (t : Txn) → IsGoodState f
    → IsDayNumber day → choice_refusal c ≡ None → closing_in f name day c ≡ Some t → length t.postings ≤ posting_limit
    → IsGoodRecord f.styles (closing_record day t)
closing_record_good f name day c t good number chosen closes few = record {
  marked = ap (λ (s : Txn). s.mark) (is_made f name day c t closes);
  printable = closing_printable f name day c t good number chosen closes few;
  legs = closing_legs (is_selected c.accounts) (target_in c.into) f name day t
      (is_closing_of f name day c t good chosen closes);
}

pub closing_record_own : (f : Federation) (name : List ℕ) (day : Day) (c : Choice) (t : Txn) → choice_refusal c ≡ None
    → closing_in f name day c ≡ Some t → IsOwnEntry (Some day) (closing_record day t)
closing_record_own f name day c t chosen closes =
    let on = made_on f name day c t closes in
    record {
      apart = refl;
      clear = ap (λ (s : Txn). list_any is_transit (written_legs s.postings)) (is_made f name day c t closes)
          ∙ legs_apart (made f name day c).postings
          (all_apart c (choice_allowed c chosen) (book_of f name) day (length f.styles)
          (selected (is_selected c.accounts) (book_of f name))
          (all_selected (is_selected c.accounts) (book_accounts (book_of f name))));
      closed = λ e. record {
        own_day = ap close_mark (sym on);
        locked = ap (λ (d : Day). is_locked (Some day) d) on ∙ int_le-refl day.0;
      };
    }
