-- a locked day stays locked, and the balances through it stay
use Rattle.std.proofs.Common.{◌≡◌, append-nil, ℕ, Bool, true, false, List, [], ◌∷◌, ◌++◌, ℤ, pos, refl, ap, ◌∙◌, sym}
use Rattle.std.proofs.Common.{subst, arith, Option, Some, None, Ok, Err}
use Rattle.std.specs.Prelude.{if◌then◌else◌, Result, int_le}
use Rattle.std.specs.List.{AllByRecursion}
use Rattle.std.specs.Str.{bytes_eq}
use Rattle.std.proofs.lemmas.Int.{ints}
use Rattle.money_core.specs.declared.day.Day.{Day}
use Rattle.money_core.specs.declared.unit.Unit.{Unit as Commodity}
use Rattle.money_core.proofs.ListLemmas.{all_weaker}
use Rattle.money_core.proofs.BytesLemmas.{same_bytes}
use Rattle.book_core.specs.declared.entry.Entry.{Entry}
use Rattle.book_core.specs.declared.account.Reach.{Reach}
use Rattle.book_core.specs.declared.place.Until.TheVariants.{Through}
use Rattle.book_core.specs.declared.refusal.Refusal.{Refusal}
use Rattle.book_core.specs.Balance.{balance, sum_in}
use Rattle.book_core.proofs.BalanceLemmas.{balance-append, balance-entry, balance-nil}
use Rattle.journal_format.specs.declared.txn.Txn.{Txn}
use Rattle.treasury_state.specs.declared.record.Record.{Record}
use Rattle.treasury_state.specs.declared.transfer.Transfer.{Transfer}
use Rattle.treasury_state.specs.Federation.{Branch, Federation, records_of, lock_in, lock_of, entries, book_of}
use Rattle.treasury_state.specs.Federation.{is_locked}
use Rattle.treasury_state.specs.Joined.{new_branch, with_records, with_lock, changed}
use Rattle.treasury_state.specs.Transfer.{dispatch_record, receipt_record, transfer_at}
use Rattle.treasury_state.proofs.EntriesLemmas.{entries-append}
use Rattle.treasury_core.specs.declared.command.Answer.{Answer}
use Rattle.treasury_core.specs.declared.command.Answer.TheVariants.{Done, Entered, Repeated}
use Rattle.treasury_core.specs.declared.command.Receive.{Receive}
use Rattle.treasury_core.specs.declared.command.Command.{Command}
use Rattle.treasury_core.specs.declared.command.Command.TheVariants as cmd
use Rattle.treasury_core.specs.Closing.{closing_in}
use Rattle.treasury_core.specs.Step.{goes_back, reply, done, added, after, delta, new_records, transfer_of, receipt_of}
use Rattle.treasury_core.specs.Step.{receipt_additions, with_receipt_of, closing_records, IsNew}
use Rattle.treasury_core.specs.Run.{Turn, Replies, after_turn, IsRun, state_after}
use Rattle.treasury_core.proofs.ClosingReply.{made_on}
use Rattle.treasury_core.proofs.KeepLemmas.{later_lock}
use Rattle.treasury_core.proofs.ReplyLemmas.{IsDone, reply_if_Ok, lock_forward, accepted_new, dispatch_sent}
use Rattle.treasury_core.proofs.ReplyLemmas.{receipt_taken, unlocked_forward}
use Rattle.treasury_core.proofs.ReplyLemmas.{closing_shut}
use Rattle.treasury_laws.specs.History.{records_among}
use Rattle.treasury_laws.proofs.HistoryLemmas.{own_or, after_records, among-records, among-closed}

-- a new branch has no lock
lock_at : (b : Branch) (t : Bool) (x y : Option Day) → x ≡ y → (if t then b.locked else x) ≡ (if t then b.locked else y)
lock_at b true x y e = refl
lock_at b false x y e = e

none_or : (t : Bool) → (if t then (let o : Option Day = None in o) else None) ≡ None
none_or true = refl
none_or false = refl

lock-branch : (bs : List Branch) (other name : List ℕ) → lock_in (bs ++ new_branch other ∷ []) name ≡ lock_in bs name
lock-branch [] other name = none_or (bytes_eq other name)
lock-branch (b ∷ bs) other name = lock_at b (bytes_eq b.name name) _ _ (lock-branch bs other name)

-- records leave locks
entered_at : (rs : List Record) (b : Branch) (bs xs : List Branch) (name : List ℕ) (t : Bool)
    → lock_in xs name ≡ lock_in bs name
    → lock_in (if t then with_records rs b ∷ bs else b ∷ xs) name ≡ lock_in (b ∷ bs) name
entered_at rs b bs xs name true e = refl
entered_at rs b bs xs name false e = lock_at b (bytes_eq b.name name) _ _ e

pub lock-entered : (rs : List Record) (bs : List Branch) (other name : List ℕ)
    → lock_in (changed (with_records rs) other bs) name ≡ lock_in bs name
lock-entered rs [] other name = refl
lock-entered rs (b ∷ bs) other name = entered_at rs b bs _ name (bytes_eq b.name other) (lock-entered rs bs other name)

own_lock : (b : Branch) (day d : Day) (o p : Option Day) (u : Bool) → goes_back b.locked day ≡ false → o ≡ p
    → is_locked (if u then b.locked else o) d ≡ true → is_locked (if u then Some day else p) d ≡ true
own_lock b day d o p true g e h = later_lock b.locked day d g h
own_lock b day d o p false g e h = ap (λ (x : Option Day). is_locked x d) (sym e) ∙ h

other_lock : (b : Branch) (d : Day) (o p : Option Day) (u : Bool) → (is_locked o d ≡ true → is_locked p d ≡ true)
    → is_locked (if u then b.locked else o) d ≡ true → is_locked (if u then b.locked else p) d ≡ true
other_lock b d o p true k h = h
other_lock b d o p false k h = k h

changed_lock : (day d : Day) (b : Branch) (bs : List Branch) (other name : List ℕ) (t : Bool)
    → goes_back (if t then b.locked else lock_in bs other) day ≡ false
    → (goes_back (lock_in bs other) day ≡ false → is_locked (lock_in bs name) d ≡ true
    → is_locked (lock_in (changed (with_lock day) other bs) name) d ≡ true)
    → is_locked (lock_in (b ∷ bs) name) d ≡ true
    → is_locked (lock_in (if t then with_lock day b ∷ bs else b ∷ changed (with_lock day) other bs) name) d ≡ true
changed_lock day d b bs other name true g k h =
    own_lock b day d (lock_in bs name) (lock_in bs name) (bytes_eq b.name name) g refl h
changed_lock day d b bs other name false g k h =
    other_lock b d (lock_in bs name) (lock_in (changed (with_lock day) other bs) name) (bytes_eq b.name name) (k g) h

locked_stays : (bs : List Branch) (day d : Day) (other name : List ℕ) → goes_back (lock_in bs other) day ≡ false
    → is_locked (lock_in bs name) d ≡ true → is_locked (lock_in (changed (with_lock day) other bs) name) d ≡ true
locked_stays [] day d other name g h = h
locked_stays (b ∷ bs) day d other name g h =
    changed_lock day d b bs other name (bytes_eq b.name other) g (λ e k. locked_stays bs day d other name e k) h

received_locked : (f : Federation) (x : Receive) (o : Option Transfer) (name : List ℕ) (d : Day)
    → is_locked (lock_of f name) d ≡ true → is_locked (lock_of (with_receipt_of f x o) name) d ≡ true
received_locked f x None name d h = h
received_locked f x (Some t) name d h =
    ap (λ (o : Option Day). is_locked o d)
    (lock-entered (receipt_record t (receipt_of t x) ∷ []) f.branches x.branch name) ∙ h

done_locked : (f : Federation) (c : Command) (a : Answer) (name : List ℕ) (d : Day) → IsDone a → reply f c ≡ Ok a
    → is_locked (lock_of f name) d ≡ true → is_locked (lock_of (done f c) name) d ≡ true
unfolding done
done_locked f (cmd.Branch other) a name d is e h =
    ap (λ (o : Option Day). is_locked o d) (lock-branch f.branches other name) ∙ h
done_locked f (cmd.Commodity style) a name d is e h = h
done_locked f (cmd.Enter other file) a name d is e h =
    ap (λ (o : Option Day). is_locked o d) (lock-entered (new_records f other file) f.branches other name) ∙ h
done_locked f (cmd.Dispatch x) a name d is e h =
    ap (λ (o : Option Day). is_locked o d)
    (lock-entered (dispatch_record (transfer_of x) ∷ []) f.branches x.source name) ∙ h
done_locked f (cmd.Receive x) a name d is e h = received_locked f x (transfer_at f x.id) name d h
done_locked f (cmd.Lock other day) a name d is e h =
    locked_stays f.branches day d other name (lock_forward f other day a is e) h
done_locked f (cmd.Close x) a name d is e h =
    let rs = closing_records x.day (closing_in f x.branch x.day x.choice) in
    locked_stays (changed (with_records rs) x.branch f.branches) x.day d x.branch name
    (ap (λ (o : Option Day). goes_back o x.day) (lock-entered rs f.branches x.branch x.branch) ∙ unlocked_forward
    (lock_of f x.branch) x.day (closing_shut f x a is e).unlocked)
    (ap (λ (o : Option Day). is_locked o d) (lock-entered rs f.branches x.branch name) ∙ h)

after_locked : (f : Federation) (c : Command) (r : Result Answer Refusal) (name : List ℕ) (d : Day) → Replies f c r
    → is_locked (lock_of f name) d ≡ true → is_locked (lock_of (after f c r) name) d ≡ true
after_locked f c (Ok Done) name d r h = done_locked f c Done name d tt (reply_if_Ok f c Done r) h
after_locked f c (Ok (Entered new repeated)) name d r h =
    done_locked f c (Entered new repeated) name d tt (reply_if_Ok f c (Entered new repeated) r) h
after_locked f c (Ok Repeated) name d r h = h
after_locked f c (Err refusal) name d r h = h

pub run_locked : (f : Federation) (turns : List Turn) (name : List ℕ) (d : Day) → IsRun f turns
    → is_locked (lock_of f name) d ≡ true → is_locked (lock_of (state_after f turns) name) d ≡ true
run_locked f [] name d r h = h
run_locked f (t ∷ ts) name d r h =
    run_locked (after_turn f t) ts name d r.2 (after_locked f t.command t.reply name d r.1 h)

-- new records are after the lock, and so add nothing through a locked day
later_day : (lock : Option Day) (day on : Day) → is_locked lock day ≡ true → is_locked lock on ≡ false
    → int_le on.0 day.0 ≡ false
later_day None day on h k = absurd cc
later_day (Some lock) day on h k = grind (arith, ints)

nothing_at : (t : Bool) (z : ℤ) → t ≡ false → (if t then z else pos 0) ≡ pos 0
nothing_at true z e = absurd cc
nothing_at false z e = refl

-- the day is after the lock
abbrev IsBehind : Option Day → Record → Type 0
IsBehind lock r = is_locked lock r.entry.day ≡ false

nothing_early : (lock : Option Day) (day : Day) (rs : List Record) (reach : Reach) (account : List ℕ) (unit : Commodity)
    → is_locked lock day ≡ true → AllByRecursion (IsBehind lock) rs
    → balance reach (entries rs) account unit (Through day) ≡ pos 0
nothing_early lock day [] reach account unit h k = balance-nil reach account unit (Through day)
nothing_early lock day (r ∷ rs) reach account unit h k =
    let first = balance-entry reach r.entry account unit day ∙ nothing_at (int_le r.entry.day.0 day.0)
    (sum_in reach account unit r.entry.legs) (later_day lock day r.entry.day h k.0) in
    let rest = nothing_early lock day rs reach account unit h k.1 in
    balance-append reach (r.entry ∷ []) (entries rs) account unit day ∙ (rw (first, rest) refl)

if_own : (t : Bool) (rs : List Record) (reach : Reach) (account : List ℕ) (unit : Commodity) (day : Day)
    → (t ≡ true → balance reach (entries rs) account unit (Through day) ≡ pos 0)
    → balance reach (entries (if t then rs else [])) account unit (Through day) ≡ pos 0
if_own true rs reach account unit day h = h refl
if_own false rs reach account unit day h = balance-nil reach account unit (Through day)

-- new records of one branch
own_nothing : (f : Federation) (other name : List ℕ) (rs : List Record) (day : Day) (reach : Reach) (account : List ℕ)
    (unit : Commodity) → is_locked (lock_of f name) day ≡ true → AllByRecursion (IsBehind (lock_of f other)) rs
    → balance reach (entries (own_or (bytes_eq other name) rs)) account unit (Through day) ≡ pos 0
own_nothing f other name rs day reach account unit h k =
    if_own (bytes_eq other name) rs reach account unit day (λ t.
    nothing_early (lock_of f other) day rs reach account unit
    (ap (λ (m : List ℕ). is_locked (lock_of f m) day) (same_bytes other name t) ∙ h) k)

abbrev moved : List ℕ → Day → Reach → List ℕ → Commodity → List Record → ℤ
moved name day reach account unit rs = balance reach (entries rs) account unit (Through day)

added_nothing : (f : Federation) (c : Command) (a : Answer) (name : List ℕ) (day : Day) (reach : Reach)
    (account : List ℕ) (unit : Commodity) → IsDone a → reply f c ≡ Ok a → is_locked (lock_of f name) day ≡ true
    → moved name day reach account unit (records_among name (added f c)) ≡ pos 0
unfolding added
added_nothing f (cmd.Branch other) a name day reach account unit is e h = balance-nil reach account unit (Through day)
added_nothing f (cmd.Commodity style) a name day reach account unit is e h =
    balance-nil reach account unit (Through day)
added_nothing f (cmd.Enter other file) a name day reach account unit is e h =
    ap (moved name day reach account unit) (among-records other name (new_records f other file))
    ∙ own_nothing f other name (new_records f other file) day reach account unit h
    (all_weaker (IsNew (lock_of f other) (records_of f other)) (IsBehind (lock_of f other)) (new_records f other file)
    (λ r k. k.unlocked) (accepted_new f other file a e))
added_nothing f (cmd.Dispatch d) a name day reach account unit is e h =
    ap (moved name day reach account unit)
    (append-nil (own_or (bytes_eq d.source name) (dispatch_record (transfer_of d) ∷ [])))
    ∙ own_nothing f d.source name (dispatch_record (transfer_of d) ∷ []) day reach account unit h
    ((dispatch_sent f d a is e).unlocked, tt)
added_nothing f (cmd.Receive r) a name day reach account unit is e h =
    let got = receipt_taken f r a is e in
    let x = receipt_record got.transfer (receipt_of got.transfer r) in
    subst (λ (o : Option Transfer).
    moved name day reach account unit (records_among name (receipt_additions r o)) ≡ pos 0) (sym got.found)
    (ap (moved name day reach account unit) (append-nil (own_or (bytes_eq r.branch name) (x ∷ [])))
    ∙ own_nothing f r.branch name (x ∷ []) day reach account unit h (got.unlocked, tt))
added_nothing f (cmd.Lock other on) a name day reach account unit is e h = balance-nil reach account unit (Through day)
added_nothing f (cmd.Close x) a name day reach account unit is e h =
    let got = closing_shut f x a is e in
    let rs = closing_records x.day (closing_in f x.branch x.day x.choice) in
    ap (moved name day reach account unit) (among-closed x.branch x.day rs name)
    ∙ own_nothing f x.branch name rs day reach account unit h
    (subst (λ (o : Option Txn). AllByRecursion (IsBehind (lock_of f x.branch)) (closing_records x.day o))
    (sym got.closes) (
      ap (λ (d : Day). is_locked (lock_of f x.branch) d) (made_on f x.branch x.day x.choice got.txn got.closes) ∙
          got.unlocked,
      tt,
    ))

delta_nothing : (f : Federation) (c : Command) (r : Result Answer Refusal) (name : List ℕ) (day : Day) (reach : Reach)
    (account : List ℕ) (unit : Commodity) → Replies f c r → is_locked (lock_of f name) day ≡ true
    → balance reach (entries (records_among name (delta f c r))) account unit (Through day) ≡ pos 0
delta_nothing f c (Ok Done) name day reach account unit r h =
    added_nothing f c Done name day reach account unit tt (reply_if_Ok f c Done r) h
delta_nothing f c (Ok (Entered new repeated)) name day reach account unit r h =
    added_nothing f c (Entered new repeated) name day reach account unit tt (reply_if_Ok f c (Entered new repeated) r) h
delta_nothing f c (Ok Repeated) name day reach account unit r h = balance-nil reach account unit (Through day)
delta_nothing f c (Err refusal) name day reach account unit r h = balance-nil reach account unit (Through day)

after_balance : (f : Federation) (c : Command) (r : Result Answer Refusal) (name : List ℕ) (day : Day) (reach : Reach)
    (account : List ℕ) (unit : Commodity) → Replies f c r → is_locked (lock_of f name) day ≡ true
    → balance reach (book_of (after f c r) name) account unit (Through day)
    ≡ balance reach (book_of f name) account unit (Through day)
after_balance f c r name day reach account unit replies h =
    let more = records_among name (delta f c r) in
    let zero = delta_nothing f c r name day reach account unit replies h in
    let sum = ap (λ (rs : List Record). balance reach (entries rs) account unit (Through day))
    (after_records f c r name replies)
    ∙ (ap (λ (es : List Entry). balance reach es account unit (Through day)) (entries-append (records_of f name) more)
    ∙ balance-append reach (book_of f name) (entries more) account unit day) in
    omega (arith, ints)

pub run_balance : (f : Federation) (turns : List Turn) (name : List ℕ) (day : Day) (reach : Reach) (account : List ℕ)
    (unit : Commodity) → IsRun f turns → is_locked (lock_of f name) day ≡ true
    → balance reach (book_of (state_after f turns) name) account unit (Through day)
    ≡ balance reach (book_of f name) account unit (Through day)
run_balance f [] name day reach account unit r h = refl
run_balance f (t ∷ ts) name day reach account unit r h =
    run_balance (after_turn f t) ts name day reach account unit r.2 (after_locked f t.command t.reply name day r.1 h)
    ∙ after_balance f t.command t.reply name day reach account unit r.1 h
