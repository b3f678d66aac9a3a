-- what an accepted closing does, and what it leaves: other accounts, and the days before it
use Rattle.std.proofs.Common.{◌≡◌, ◌||◌, inl, ℕ, Bool, true, false, List, [], ◌∷◌, ◌++◌, pos, refl, ap, ◌∙◌, sym}
use Rattle.std.proofs.Common.{arith, append-nil, Option, Some, Ok, length}
use Rattle.std.proofs.lemmas.Int.{ints}
use Rattle.std.specs.Prelude.{if◌then◌else◌, Result, int_le}
use Rattle.std.specs.List.{list_any}
use Rattle.std.specs.Str.{bytes_eq}
use Rattle.money_core.specs.declared.day.Day.{Day}
use Rattle.money_core.specs.declared.unit.Unit.{Unit as Commodity}
use Rattle.money_core.proofs.TestLemmas.{int_le-refl, if_zero}
use Rattle.money_core.proofs.BytesLemmas.{bytes_eq-refl, same_bytes}
use Rattle.book_core.specs.declared.entry.Entry.{Entry}
use Rattle.book_core.specs.declared.account.Reach.TheVariants.{Own}
use Rattle.book_core.specs.declared.place.Until.TheVariants.{Through}
use Rattle.book_core.specs.declared.refusal.Refusal.{Refusal}
use Rattle.book_core.specs.Balance.{balance}
use Rattle.book_core.specs.Accounts.{book_accounts}
use Rattle.journal_format.specs.declared.txn.Txn.{Txn}
use Rattle.treasury_state.specs.declared.record.Record.{Record}
use Rattle.treasury_state.specs.Federation.{Branch, Federation, has_name, records_of, lock_in, lock_of, entries}
use Rattle.treasury_state.specs.Federation.{book_of, is_locked}
use Rattle.treasury_state.specs.Joined.{with_records, with_lock, changed}
use Rattle.treasury_state.specs.Good.{IsGoodState}
use Rattle.treasury_state.proofs.EntriesLemmas.{entries-append}
use Rattle.treasury_core.specs.declared.command.Answer.{Answer}
use Rattle.treasury_core.specs.declared.command.Answer.TheVariants.{Done}
use Rattle.treasury_core.specs.declared.command.Close.{Close}
use Rattle.treasury_core.specs.declared.command.Command.TheVariants as cmd
use Rattle.treasury_core.specs.Choice.{is_selected, target_in}
use Rattle.treasury_core.specs.Closing.{closing_record, closing_in, selected, held_in}
use Rattle.treasury_core.specs.Closed.{closed_book, IsClosing}
use Rattle.treasury_core.specs.Step.{reply, done, added, after, step, closing_records}
use Rattle.treasury_core.specs.Run.{Turn, IsRun, state_after}
use Rattle.treasury_core.proofs.ChangeLemmas.{any-changed}
use Rattle.treasury_core.proofs.ChoiceLemmas.{choice_allowed}
use Rattle.treasury_core.proofs.ClosingLemmas.{balance_of_closed, unselected_not_in_filter, IsKnown, book_known, moves}
use Rattle.treasury_core.proofs.ClosingLemmas.{moves_is}
use Rattle.treasury_core.proofs.ClosingLemmas.{closed_balance}
use Rattle.treasury_core.proofs.ClosingReply.{is_closing_of}
use Rattle.treasury_core.proofs.ReplyLemmas.{closing_shut}
use Rattle.treasury_core.proofs.CloseLemmas.{closing_adds}
use Rattle.treasury_core.proofs.ClosingSums.{held_none}
use Rattle.treasury_laws.specs.History.{records_among}
use Rattle.treasury_laws.proofs.HistoryLemmas.{own_or, after_records}
use Rattle.treasury_laws.proofs.LockLemmas.{lock-entered, run_balance}

-- ---- what the closing moves on an account

moves_other : (m : ℕ) (b : List Entry) → IsKnown m b
    → (day : Day) (into : List ℕ) (select : List ℕ → Bool) (a : List ℕ) (unit : Commodity) → select a ≡ false
    → bytes_eq into a ≡ false →
    moves m b day into select a unit ≡ pos 0
moves_other m b known day into select a unit off apart =
    let all = moves_is m b known day into select a unit in
    let none = held_none a b day unit (selected select b) (unselected_not_in_filter select a (book_accounts b) off) in
    let own = ap (λ (t : Bool). if t then held_in b day unit (selected select b) else pos 0) apart in
    omega (arith, ints, all, own, none)

-- ---- the book with the closing

pub untouched : (select : List ℕ → Bool) (into : List ℕ) (f : Federation) (name : List ℕ) (day : Day) (t : Txn)
    (a : List ℕ) (unit : Commodity) (x : Day) → IsClosing select into f name day t → select a ≡ false
    → bytes_eq into a ≡ false →
    balance Own (closed_book f name t) a unit (Through x) ≡ balance Own (book_of f name) a unit (Through x)
untouched select into f name day t a unit x h off apart =
    let b = book_of f name in
    let is = closed_balance select into f name day t h a unit x in
    let by = moves_other (length f.styles) b (book_known f name h.good) day into select a unit off apart in
    let none = if_zero (int_le day.0 x.0) (moves (length f.styles) b day into select a unit) by in
    omega (arith, ints, is, none)

pub unmoved_before : (select : List ℕ → Bool) (into : List ℕ) (f : Federation) (name : List ℕ) (day : Day) (t : Txn)
    (a : List ℕ) (unit : Commodity) (x : Day) → IsClosing select into f name day t → int_le day.0 x.0 ≡ false →
    balance Own (closed_book f name t) a unit (Through x) ≡ balance Own (book_of f name) a unit (Through x)
unmoved_before select into f name day t a unit x h early =
    let b = book_of f name in
    let is = closed_balance select into f name day t h a unit x in
    let none = ap (λ (s : Bool). if s then moves (length f.styles) b day into select a unit else pos 0) early in
    omega (arith, ints, is, none)

-- the lock of the branch, and those of others
lock_here_at : (day : Day) (b : Branch) (bs : List Branch) (name : List ℕ) (t : Bool) → bytes_eq b.name name ≡ t
    → (t || list_any (has_name name) bs) ≡ true
    → (list_any (has_name name) bs ≡ true → lock_in (changed (with_lock day) name bs) name ≡ Some day)
    → lock_in (if t then with_lock day b ∷ bs else b ∷ changed (with_lock day) name bs) name ≡ Some day
lock_here_at day b bs name true e h k = ap (λ (t : Bool). if t then (with_lock day b).locked else lock_in bs name) e
lock_here_at day b bs name false e h k =
    ap (λ (t : Bool). if t then b.locked else lock_in (changed (with_lock day) name bs) name) e ∙ k h

lock_here : (bs : List Branch) (day : Day) (name : List ℕ) → list_any (has_name name) bs ≡ true
    → lock_in (changed (with_lock day) name bs) name ≡ Some day
lock_here [] day name h = absurd cc
lock_here (b ∷ bs) day name h = lock_here_at day b bs name (bytes_eq b.name name) refl h (lock_here bs day name)

either : (b : Branch) (t : Bool) (x y : Option Day) → x ≡ y → (if t then b.locked else x) ≡ (if t then b.locked else y)
either b true x y e = refl
either b false x y e = e

lock_there_at : (day : Day) (b : Branch) (bs : List Branch) (name other : List ℕ) (t : Bool) → bytes_eq b.name name ≡ t
    → bytes_eq name other ≡ false → lock_in (changed (with_lock day) name bs) other ≡ lock_in bs other
    → lock_in (if t then with_lock day b ∷ bs else b ∷ changed (with_lock day) name bs) other ≡ lock_in (b ∷ bs) other
lock_there_at day b bs name other true e n k =
    let apart : bytes_eq b.name other ≡ false = ap (λ (m : List ℕ). bytes_eq m other) (same_bytes b.name name e) ∙ n in
    ap (λ (t : Bool). if t then (with_lock day b).locked else lock_in bs other) apart ∙ sym
    (ap (λ (t : Bool). if t then b.locked else lock_in bs other) apart)
lock_there_at day b bs name other false e n k = either b (bytes_eq b.name other) _ _ k

lock_there : (bs : List Branch) (day : Day) (name other : List ℕ) → bytes_eq name other ≡ false
    → lock_in (changed (with_lock day) name bs) other ≡ lock_in bs other
lock_there [] day name other n = refl
lock_there (b ∷ bs) day name other n =
    lock_there_at day b bs name other (bytes_eq b.name name) refl n (lock_there bs day name other n)

-- the state that it leaves
next_is : (f : Federation) (x : Close) → reply f (cmd.Close x) ≡ Ok Done
    → (step f (cmd.Close x)).next ≡ done f (cmd.Close x)
next_is f x h = ap (λ (r : Result Answer Refusal). after f (cmd.Close x) r) h

done_lock : (f : Federation) (x : Close) → list_any (has_name x.branch) f.branches ≡ true
    → lock_of (done f (cmd.Close x)) x.branch ≡ Some x.day
unfolding done
done_lock f x h =
    let rs = closing_records x.day (closing_in f x.branch x.day x.choice) in
    lock_here (changed (with_records rs) x.branch f.branches) x.day x.branch
    (any-changed (with_records rs) x.branch x.branch f.branches (λ b. refl) ∙ h)

done_lock_there : (f : Federation) (x : Close) (other : List ℕ) → bytes_eq x.branch other ≡ false
    → lock_of (done f (cmd.Close x)) other ≡ lock_of f other
unfolding done
done_lock_there f x other n =
    let rs = closing_records x.day (closing_in f x.branch x.day x.choice) in
    lock_there (changed (with_records rs) x.branch f.branches) x.day x.branch other n ∙ lock-entered rs f.branches
    x.branch other

pub closing_locked : (f : Federation) (x : Close) → reply f (cmd.Close x) ≡ Ok Done
    → lock_of (step f (cmd.Close x)).next x.branch ≡ Some x.day
closing_locked f x h =
    ap (λ (g : Federation). lock_of g x.branch) (next_is f x h) ∙ done_lock f x (closing_shut f x Done tt h).there

-- its records
added_among : (f : Federation) (x : Close) (other : List ℕ) (t : Txn) → closing_in f x.branch x.day x.choice ≡ Some t
    → records_among other (added f (cmd.Close x)) ≡ own_or (bytes_eq x.branch other) (closing_record x.day t ∷ [])
added_among f x other t e = ap (records_among other) (closing_adds f x t e) ∙ append-nil
    (own_or (bytes_eq x.branch other) (closing_record x.day t ∷ []))

next_records : (f : Federation) (x : Close) (other : List ℕ) (t : Txn) → reply f (cmd.Close x) ≡ Ok Done
    → closing_in f x.branch x.day x.choice ≡ Some t
    → records_of (step f (cmd.Close x)).next other
    ≡ records_of f other ++ own_or (bytes_eq x.branch other) (closing_record x.day t ∷ [])
next_records f x other t h e =
    ap (λ (r : Result Answer Refusal). records_of (after f (cmd.Close x) r) other) h
    ∙ (after_records f (cmd.Close x) (Ok Done) other (inl (sym h)) ∙ ap (λ (rs : List Record). records_of f other ++ rs)
    (added_among f x other t e))

own_records : (f : Federation) (x : Close) (t : Txn) → reply f (cmd.Close x) ≡ Ok Done
    → closing_in f x.branch x.day x.choice ≡ Some t
    → records_of (step f (cmd.Close x)).next x.branch ≡ records_of f x.branch ++ closing_record x.day t ∷ []
own_records f x t h e = next_records f x x.branch t h e ∙ ap
    (λ (b : Bool). records_of f x.branch ++ own_or b (closing_record x.day t ∷ [])) (bytes_eq-refl x.branch)

pub closing_adds_one : (f : Federation) (x : Close) → reply f (cmd.Close x) ≡ Ok Done
    → (t : Txn) × ((closing_in f x.branch x.day x.choice ≡ Some t)
    × (records_of (step f (cmd.Close x)).next x.branch ≡ records_of f x.branch ++ closing_record x.day t ∷ []))
closing_adds_one f x h = let s = closing_shut f x Done tt h in (s.txn, (s.closes, own_records f x s.txn h s.closes))

pub closing_elsewhere : (f : Federation) (x : Close) (other : List ℕ) → reply f (cmd.Close x) ≡ Ok Done
    → bytes_eq x.branch other ≡ false
    → (records_of (step f (cmd.Close x)).next other ≡ records_of f other)
    × (lock_of (step f (cmd.Close x)).next other ≡ lock_of f other)
closing_elsewhere f x other h n =
    let s = closing_shut f x Done tt h in (
      next_records f x other s.txn h s.closes ∙
          (ap (λ (b : Bool). records_of f other ++ own_or b (closing_record x.day s.txn ∷ [])) n ∙ append-nil
          (records_of f other)),
      ap (λ (g : Federation). lock_of g other) (next_is f x h) ∙ done_lock_there f x other n,
    )

-- its book
next_book : (f : Federation) (x : Close) (t : Txn) → reply f (cmd.Close x) ≡ Ok Done
    → closing_in f x.branch x.day x.choice ≡ Some t
    → book_of (step f (cmd.Close x)).next x.branch ≡ closed_book f x.branch t
next_book f x t h e =
    ap entries (own_records f x t h e) ∙ entries-append (records_of f x.branch) (closing_record x.day t ∷ [])

pub closing_zero : (f : Federation) (x : Close) (account : List ℕ) (unit : Commodity) → IsGoodState f
    → reply f (cmd.Close x) ≡ Ok Done → is_selected x.choice.accounts account ≡ true
    → balance Own (book_of (step f (cmd.Close x)).next x.branch) account unit (Through x.day) ≡ pos 0
closing_zero f x account unit good h is =
    let s = closing_shut f x Done tt h in
    ap (λ (b : List Entry). balance Own b account unit (Through x.day)) (next_book f x s.txn h s.closes)
    ∙ balance_of_closed (is_selected x.choice.accounts) (target_in x.choice.into) f x.branch x.day s.txn account unit
    (is_closing_of f x.branch x.day x.choice s.txn good s.chosen s.closes) is

pub closing_untouched : (f : Federation) (x : Close) (account : List ℕ) (unit : Commodity) (on : Day) → IsGoodState f
    → reply f (cmd.Close x) ≡ Ok Done → is_selected x.choice.accounts account ≡ false
    → bytes_eq (target_in x.choice.into) account ≡ false
    → balance Own (book_of (step f (cmd.Close x)).next x.branch) account unit (Through on)
    ≡ balance Own (book_of f x.branch) account unit (Through on)
closing_untouched f x account unit on good h other apart =
    let s = closing_shut f x Done tt h in
    ap (λ (b : List Entry). balance Own b account unit (Through on)) (next_book f x s.txn h s.closes)
    ∙ untouched (is_selected x.choice.accounts) (target_in x.choice.into) f x.branch x.day s.txn account unit on
    (is_closing_of f x.branch x.day x.choice s.txn good s.chosen s.closes) other apart

-- the target is not selected
pub closing_apart : (f : Federation) (x : Close) → reply f (cmd.Close x) ≡ Ok Done
    → is_selected x.choice.accounts (target_in x.choice.into) ≡ false
closing_apart f x h = (choice_allowed x.choice (closing_shut f x Done tt h).chosen).apart

pub closing_stays : (f : Federation) (x : Close) (turns : List Turn) (account : List ℕ) (unit : Commodity)
    → IsGoodState f → reply f (cmd.Close x) ≡ Ok Done → IsRun (step f (cmd.Close x)).next turns
    → is_selected x.choice.accounts account ≡ true
    → balance Own (book_of (state_after (step f (cmd.Close x)).next turns) x.branch) account unit (Through x.day)
    ≡ pos 0
closing_stays f x turns account unit good h run is =
    run_balance (step f (cmd.Close x)).next turns x.branch x.day Own account unit run
    (ap (λ (o : Option Day). is_locked o x.day) (closing_locked f x h) ∙ int_le-refl x.day.0)
    ∙ closing_zero f x account unit good h is
