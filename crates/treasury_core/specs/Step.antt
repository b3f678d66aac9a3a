-- What a command is answered, and the state after it (own rules; docs/RULES.md, "Orders"). The cases stand in the order
-- of the refusals.
use Rattle.std.specs.Prelude.{◌≡◌, ◌⊎◌, ℕ, ℤ, ◌+◌, ◌-◌, nat_eq, nat_le, Bool, true, false, ◌&&◌, ◌||◌, not}
use Rattle.std.specs.Prelude.{if◌then◌else◌, List, [], ◌∷◌, ◌++◌, map, length, find, pos, int_le, int_lt, Option, Some}
use Rattle.std.specs.Prelude.{None, is_some, take, Result, Ok, Err}
use Rattle.std.specs.Ordering.{int_eq}
use Rattle.std.specs.Cmp.Lexicographic.{pointwise}
use Rattle.std.specs.List.{list_any}
use Rattle.std.specs.Option.{option_or}
use Rattle.std.specs.Str.{bytes_eq}
use Rattle.money_core.specs.declared.style.Style.{Style}
use Rattle.money_core.specs.declared.day.Day.{Day}
use Rattle.money_core.specs.declared.unit.Declared.{Declared}
use Rattle.money_core.specs.declared.unit.Declared.TheVariants.{New, Same}
use Rattle.money_core.specs.declared.cause.Cause.{Cause}
use Rattle.money_core.specs.declared.cause.Cause.TheVariants.{UnknownBranch, BranchName, Full, MarkClash, ReservedMark}
use Rattle.money_core.specs.declared.cause.Cause.TheVariants.{ReservedAccount, Locked, SameBranch, UnknownTransfer}
use Rattle.money_core.specs.declared.cause.Cause.TheVariants.{WrongBranch, AlreadyReceived, TooEarly, LockBack}
use Rattle.money_core.specs.declared.cause.Cause.TheVariants.{BadAccount, BadAmount, BadId, OutOfMemory, TooMuch}
use Rattle.money_core.specs.Style.{declared}
use Rattle.book_core.specs.declared.entry.Entry.{Entry}
use Rattle.book_core.specs.declared.refusal.Refusal.{Refusal}
use Rattle.book_core.specs.declared.refusal.Refusal.TheVariants.{Plain, Text}
use Rattle.book_core.specs.GoodBook.{verdict}
use Rattle.journal_format.specs.declared.txn.Txn.{Txn}
use Rattle.journal_format.specs.declared.txn.Located.{Located}
use Rattle.journal_format.specs.CanonicalText.{body_text, marked}
use Rattle.journal_balance.specs.Legs.{balanced_entry}
use Rattle.treasury_state.specs.declared.record.Record.{Record}
use Rattle.treasury_state.specs.declared.transfer.Part.{Part}
use Rattle.treasury_state.specs.declared.transfer.Transfer.{Transfer}
use Rattle.treasury_state.specs.declared.delta.Addition.{Addition}
use Rattle.treasury_state.specs.declared.delta.Addition.TheVariants as add
use Rattle.treasury_state.specs.Federation.{Federation, is_branch_name, most_branches, has_branch, records_of, lock_of}
use Rattle.treasury_state.specs.Federation.{entries, is_locked}
use Rattle.treasury_state.specs.Mark.{held, is_held, is_repeat, is_product_mark, transaction_mark, alike, close_mark}
use Rattle.treasury_state.specs.Transfer.{is_id, is_account_text, is_reserved, is_transit, dispatch_record}
use Rattle.treasury_state.specs.Transfer.{receipt_record, all_key, is_key, receipts_of, left_of, transfer_at}
use Rattle.treasury_state.specs.Joined.{with_style, with_branch, with_entered, with_locked, with_dispatched}
use Rattle.treasury_state.specs.Joined.{with_received}
use Rattle.treasury_core.specs.declared.command.Answer.{Answer}
use Rattle.treasury_core.specs.declared.command.Answer.TheVariants.{Done, Entered, Repeated}
use Rattle.treasury_core.specs.declared.command.AskedPart.{AskedPart}
use Rattle.treasury_core.specs.declared.command.Dispatch.{Dispatch}
use Rattle.treasury_core.specs.declared.command.Receive.{Receive}
use Rattle.treasury_core.specs.declared.command.Close.{Close}
use Rattle.treasury_core.specs.declared.command.Command.{Command}
use Rattle.treasury_core.specs.declared.command.Command.TheVariants as cmd
use Rattle.treasury_core.specs.Choice.{choice_comments, choice_refusal}
use Rattle.treasury_core.specs.Closing.{closing_record, closing_answer, closing_in}

-- the answer, unless there is a refusal
abbrev pub unless : Answer → Option Refusal → Result Answer Refusal
unless answer None = Ok answer
unless answer (Some refusal) = Err refusal

-- ---- Branch, Commodity

-- the reply to a new branch, by its name
abbrev pub branch_reply : Federation → List ℕ → Result Answer Refusal
branch_reply f name =
    if not (is_branch_name name) then Err (Plain BranchName)
    else if has_branch f name then Ok Repeated
    else if nat_le most_branches (length f.branches) then Err (Plain Full)
    else Ok Done

-- the reply to a declared commodity, by what the declaration answers
abbrev pub commodity_reply : Result Declared Cause → Result Answer Refusal
commodity_reply (Ok (New unit)) = Ok Done
commodity_reply (Ok (Same unit)) = Ok Repeated
commodity_reply (Err cause) = Err (Plain cause)

-- ---- Lock

-- the lock day is that day, and it is after that day
abbrev pub is_lock : Option Day → Day → Bool
is_lock None day = false
is_lock (Some lock) day = int_eq day.0 lock.0

-- the day is before the lock day
abbrev pub goes_back : Option Day → Day → Bool
goes_back None day = false
goes_back (Some lock) day = int_lt day.0 lock.0

-- the reply to a lock
abbrev pub lock_reply : Federation → List ℕ → Day → Result Answer Refusal
lock_reply f name day =
    if not (has_branch f name) then Err (Plain UnknownBranch)
    else if is_lock (lock_of f name) day then Ok Repeated
    else if goes_back (lock_of f name) day then Err (Plain LockBack)
    else Ok Done

-- ---- Enter

-- the fault of a transaction that has no entry, on the line of its header
abbrev pub fault_on : ℕ → Result Entry Cause → Option Refusal
fault_on line (Ok e) = None
fault_on line (Err cause) = Some (Text (record { line = line; cause = cause }))

-- the first one of a file
abbrev pub unbalanced : List Style → List Located → Option Refusal
unbalanced styles [] = None
unbalanced styles (x ∷ xs) = option_or (fault_on x.line (balanced_entry styles x.txn)) (unbalanced styles xs)

-- a transaction with its mark and its entry
abbrev pub recorded : Txn → List ℕ → Result Entry Cause → List Record
recorded t mark (Ok e) = record { mark = mark; txn = marked t (Some mark); entry = e } ∷ []
recorded t mark (Err cause) = []

-- which one of the unmarked transactions with its text a transaction is, from 1, after the transactions before it
abbrev pub number_in : List Style → List Txn → Txn → ℕ
number_in styles before t = alike styles (body_text styles t) before + 1

-- the record of a transaction of a file, after the transactions before it
abbrev pub recorded_in : List Style → List Txn → Txn → List Record
recorded_in styles before t =
    recorded t (transaction_mark styles t (number_in styles before t) t.mark) (balanced_entry styles t)

-- the records of a file, after the transactions before it
abbrev pub records_from : List Style → List Txn → List Located → List Record
records_from styles before [] = []
records_from styles before (x ∷ xs) = recorded_in styles before x.txn ++ records_from styles (before ++ x.txn ∷ []) xs

-- the records of a whole file
abbrev pub records_in_file : List Style → List Located → List Record
records_in_file styles file = records_from styles [] file

-- why a transaction is refused whose mark is not held, if it is
abbrev pub barred : Option Day → Record → Option Refusal
barred lock r =
    if is_product_mark r.mark then Some (Plain ReservedMark)
    else if list_any is_transit r.entry.legs then Some (Plain ReservedAccount)
    else if is_locked lock r.entry.day then Some (Plain Locked)
    else None

-- a record that comes new after those that are held: no one has its mark, which is not the product's, it has no leg on
-- `assets:transit` or below it, and its day is after the lock day
pub record IsNew (lock : Option Day) (held : List Record) (r : Record) : Type 0 where
  pub absent : is_held held r.mark ≡ false
  pub own : is_product_mark r.mark ≡ false
  pub clear : list_any is_transit r.entry.legs ≡ false
  pub unlocked : is_locked lock r.entry.day ≡ false

-- why a transaction that is no repeat is refused, if it is
abbrev pub refusal_of : Option Day → List Record → Record → Option Refusal
refusal_of lock held r = if is_held held r.mark then Some (Plain MarkClash) else barred lock r

-- the first refusal among transactions, taken in turn; those that are new are held by the next ones
abbrev pub refused_in : List Style → Option Day → List Record → List Record → Option Refusal
refused_in styles lock held [] = None
refused_in styles lock held (r ∷ rs) =
    if is_repeat styles held r then refused_in styles lock held rs
    else option_or (refusal_of lock held r) (refused_in styles lock (held ++ r ∷ []) rs)

-- those before a place are taken, and the one at that place is refused so
pub record StopsAt (styles : List Style) (lock : Option Day) (held rows : List Record) (place : ℕ)
    (refusal : Refusal) : Type 0 where
  pub before : refused_in styles lock held (take place rows) ≡ None
  pub here : refused_in styles lock held (take (place + 1) rows) ≡ Some refusal

-- the new ones: no record before has their mark
abbrev pub new_in : List Record → List Record → List Record
new_in held [] = []
new_in held (r ∷ rs) = if is_held held r.mark then new_in held rs else r ∷ new_in (held ++ r ∷ []) rs

-- what a file adds to the branch of that name
abbrev pub new_records : Federation → List ℕ → List Located → List Record
new_records f name file = new_in (records_of f name) (records_in_file f.styles file)

-- why a file is refused after records: first every transaction has to balance, then each is looked at in turn, then
-- all new ones together
abbrev pub file_refusal : List Style → Option Day → List Record → List Located → Option Refusal
file_refusal styles lock held file =
    option_or (unbalanced styles file)
    (option_or (refused_in styles lock held (records_in_file styles file))
    (verdict (entries held ++ entries (new_in held (records_in_file styles file)))))

-- why a branch refuses a file, if it does
abbrev pub enter_refusal : Federation → List ℕ → List Located → Option Refusal
enter_refusal f name file = file_refusal f.styles (lock_of f name) (records_of f name) file

-- the counts of new ones and of repeats
abbrev pub entered_answer : ℕ → ℕ → Answer
entered_answer new all = Entered new (all - new)

-- the reply to a file: how many of its transactions are new and how many repeated, or the refusal
abbrev pub enter_reply : Federation → List ℕ → List Located → Result Answer Refusal
enter_reply f name file =
    if not (has_branch f name) then Err (Plain UnknownBranch)
    else unless (entered_answer (length (new_records f name file)) (length file)) (enter_refusal f name file)

-- ---- Dispatch

-- the transfer that a dispatch asks for
abbrev pub transfer_of : Dispatch → Transfer
transfer_of d = record {
  id = d.id;
  source = d.source;
  target = d.target;
  unit = d.unit;
  qty = d.qty;
  day = d.day;
  payer = d.account;
  parts = [];
  receipt = None;
}

-- it was dispatched just so
abbrev pub is_dispatched_so : Dispatch → Option Transfer → Bool
is_dispatched_so d None = false
is_dispatched_so d (Some t) =
    bytes_eq t.source d.source && bytes_eq t.target d.target && int_eq t.day.0 d.day.0 && nat_eq t.unit.0 d.unit.0
    && int_eq t.qty d.qty && bytes_eq t.payer d.account

-- why a dispatch is refused, whose ID no transfer has, by what its source holds, if it is
abbrev pub dispatch_refusal : Option Day → List Record → Dispatch → Option Refusal
dispatch_refusal lock held d =
    if not (is_account_text d.account) then Some (Plain BadAccount)
    else if is_reserved d.account then Some (Plain ReservedAccount)
    else if int_le d.qty (pos 0) then Some (Plain BadAmount)
    else if is_locked lock d.day then Some (Plain Locked)
    else verdict (entries held ++ entries (dispatch_record (transfer_of d) ∷ []))

-- the reply to a dispatch
abbrev pub dispatch_reply : Federation → Dispatch → Result Answer Refusal
dispatch_reply f d =
    if not (has_branch f d.source) then Err (Plain UnknownBranch)
    else if not (has_branch f d.target) then Err (Plain UnknownBranch)
    else if bytes_eq d.source d.target then Err (Plain SameBranch)
    else if not (is_id d.id) then Err (Plain BadId)
    else if is_dispatched_so d (transfer_at f d.id) then Ok Repeated
    else if is_some (transfer_at f d.id) then Err (Plain MarkClash)
    else unless Done (dispatch_refusal (lock_of f d.source) (records_of f d.source) d)

-- ---- Receive

-- the key that is asked for: `all` without a part
abbrev pub key_of : Option AskedPart → List ℕ
key_of None = all_key
key_of (Some a) = a.key

-- the quantity that is asked for: without a part all that is left
abbrev pub qty_of : Transfer → Option AskedPart → ℤ
qty_of t None = left_of t
qty_of t (Some a) = a.qty

-- the receipt that is asked for
abbrev pub receipt_of : Transfer → Receive → Part
receipt_of t r = record { key = key_of r.part; qty = qty_of t r.part; day = r.day; payee = r.account }

-- the receipt is under that key
abbrev pub has_key : List ℕ → Part → Bool
has_key key p = bytes_eq p.key key

-- the amount, if one is asked for, is the receipt's
abbrev pub is_amount_so : Transfer → Part → Option AskedPart → Bool
is_amount_so t p None = true
is_amount_so t p (Some a) = nat_eq t.unit.0 a.unit.0 && int_eq p.qty a.qty

-- it was received just so
abbrev pub is_received_so : Transfer → Receive → Part → Bool
is_received_so t r p = int_eq p.day.0 r.day.0 && bytes_eq p.payee r.account && is_amount_so t p r.part

-- a part in another commodity, or of more than what is left
abbrev pub is_too_much : Transfer → Option AskedPart → Bool
is_too_much t None = false
is_too_much t (Some a) = not (nat_eq a.unit.0 t.unit.0) || int_lt (left_of t) a.qty

-- a part whose key is not well formed
abbrev pub has_bad_key : Option AskedPart → Bool
has_bad_key None = false
has_bad_key (Some a) = not (is_key a.key)

-- no part is asked for, and nothing is left
abbrev pub has_nothing_left : Transfer → Option AskedPart → Bool
has_nothing_left t None = int_le (left_of t) (pos 0)
has_nothing_left t (Some a) = false

-- why a receipt of a transfer is refused, whose key has none yet, by what its target holds, if it is
abbrev pub receipt_refusal : Option Day → List Record → Transfer → Receive → Option Refusal
receipt_refusal lock held t r =
    if not (is_account_text r.account) then Some (Plain BadAccount)
    else if is_reserved r.account then Some (Plain ReservedAccount)
    else if int_le (qty_of t r.part) (pos 0) then Some (Plain BadAmount)
    else if is_too_much t r.part then Some (Plain TooMuch)
    else if int_lt r.day.0 t.day.0 then Some (Plain TooEarly)
    else if is_locked lock r.day then Some (Plain Locked)
    else verdict (entries held ++ entries (receipt_record t (receipt_of t r) ∷ []))

-- the reply by the receipt that the key has, if it has one
abbrev pub held_reply : Federation → Transfer → Receive → Option Part → Result Answer Refusal
held_reply f t r (Some p) = if is_received_so t r p then Ok Repeated else Err (Plain AlreadyReceived)
held_reply f t r None =
    if has_nothing_left t r.part then Err (Plain AlreadyReceived)
    else unless Done (receipt_refusal (lock_of f r.branch) (records_of f r.branch) t r)

-- the reply by the transfer of the ID
abbrev pub receipt_reply : Federation → Receive → Option Transfer → Result Answer Refusal
receipt_reply f r None = Err (Plain UnknownTransfer)
receipt_reply f r (Some t) =
    if not (bytes_eq t.target r.branch) then Err (Plain WrongBranch)
    else held_reply f t r (find (has_key (key_of r.part)) (receipts_of t))

-- the reply to a receipt
abbrev pub receive_reply : Federation → Receive → Result Answer Refusal
receive_reply f r =
    if not (has_branch f r.branch) then Err (Plain UnknownBranch)
    else if not (is_id r.id) then Err (Plain BadId)
    else if has_bad_key r.part then Err (Plain BadId)
    else receipt_reply f r (transfer_at f r.id)

-- what a receipt of the transfer of its ID adds
abbrev pub receipt_additions : Receive → Option Transfer → List Addition
receipt_additions r None = []
receipt_additions r (Some t) =
    add.Record r.branch (receipt_record t (receipt_of t r)) ∷ add.Received r.id (receipt_of t r) ∷ []

-- and the state with it
abbrev pub with_receipt_of : Federation → Receive → Option Transfer → Federation
with_receipt_of f r None = f
with_receipt_of f r (Some t) =
    with_received (with_entered f r.branch (receipt_record t (receipt_of t r) ∷ [])) r.id (receipt_of t r)

-- ---- Close

-- why a closing does not come in after records, if it does not
abbrev pub entering_refusal : List Record → Day → Result Txn Refusal → Option Refusal
entering_refusal held day (Ok t) = verdict (entries held ++ entries (closing_record day t ∷ []))
entering_refusal held day (Err refusal) = Some refusal

-- why a branch is not closed at a day at which it was not closed yet, by what it holds, if it is not
abbrev pub close_refusal : Option Day → List Record → Close → Option Txn → Option Refusal
close_refusal lock held c txn =
    option_or (choice_refusal c.choice)
    (if is_locked lock c.day then Some (Plain Locked)
    else entering_refusal held c.day (closing_answer txn))

-- the reply by the record that has the mark of the day, if there is one: what it says was asked has to be what is asked
-- now
abbrev pub closed_reply : Federation → Close → Option Record → Result Answer Refusal
closed_reply f c None =
    unless Done (close_refusal (lock_of f c.branch) (records_of f c.branch) c (closing_in f c.branch c.day c.choice))
closed_reply f c (Some r) =
    if pointwise bytes_eq r.txn.comments (choice_comments c.choice) then Ok Repeated else Err (Plain MarkClash)

-- the reply to a closing
abbrev pub close_reply : Federation → Close → Result Answer Refusal
close_reply f c =
    if not (has_branch f c.branch) then Err (Plain UnknownBranch)
    else closed_reply f c (held (records_of f c.branch) (close_mark c.day))

-- the record that a closing adds
abbrev pub closing_records : Day → Option Txn → List Record
closing_records day None = []
closing_records day (Some t) = closing_record day t ∷ []

-- ---- all commands

-- the reply to a command
unfoldable pub reply : Federation → Command → Result Answer Refusal
reply f (cmd.Branch name) = branch_reply f name
reply f (cmd.Commodity style) = commodity_reply (declared f.styles style)
reply f (cmd.Enter name file) = enter_reply f name file
reply f (cmd.Dispatch d) = dispatch_reply f d
reply f (cmd.Receive r) = receive_reply f r
reply f (cmd.Lock name day) = lock_reply f name day
reply f (cmd.Close c) = close_reply f c

-- the state that a command leaves which is done
unfoldable pub done : Federation → Command → Federation
done f (cmd.Branch name) = with_branch f name
done f (cmd.Commodity style) = with_style f style
done f (cmd.Enter name file) = with_entered f name (new_records f name file)
done f (cmd.Dispatch d) =
    with_dispatched (with_entered f d.source (dispatch_record (transfer_of d) ∷ [])) (transfer_of d)
done f (cmd.Receive r) = with_receipt_of f r (transfer_at f r.id)
done f (cmd.Lock name day) = with_locked f name day
done f (cmd.Close c) =
    with_locked (with_entered f c.branch (closing_records c.day (closing_in f c.branch c.day c.choice))) c.branch c.day

-- the state after a reply: a refusal or a repeat leaves it
abbrev pub after : Federation → Command → Result Answer Refusal → Federation
after f c (Ok Done) = done f c
after f c (Ok (Entered new repeated)) = done f c
after f c (Ok Repeated) = f
after f c (Err refusal) = f

-- a command's step: its reply, and the next state
pub record Outcome : Type 0 where
  pub reply : Result Answer Refusal
  pub next : Federation

-- the step of a command: its reply, and the state after it
abbrev pub step : Federation → Command → Outcome
step f c = record { reply = reply f c; next = after f c (reply f c) }

-- what a command adds that is done
unfoldable pub added : Federation → Command → List Addition
added f (cmd.Branch name) = add.Branch name ∷ []
added f (cmd.Commodity style) = add.Commodity style ∷ []
added f (cmd.Enter name file) = map (λ (r : Record). add.Record name r) (new_records f name file)
added f (cmd.Dispatch d) = add.Record d.source (dispatch_record (transfer_of d)) ∷ add.Dispatched (transfer_of d) ∷ []
added f (cmd.Receive r) = receipt_additions r (transfer_at f r.id)
added f (cmd.Lock name day) = add.Locked name day ∷ []
added f (cmd.Close c) = map (λ (x : Record). add.Record c.branch x)
    (closing_records c.day (closing_in f c.branch c.day c.choice)) ++ add.Locked c.branch c.day ∷ []

-- what it adds by its reply
abbrev pub delta : Federation → Command → Result Answer Refusal → List Addition
delta f c (Ok Done) = added f c
delta f c (Ok (Entered new repeated)) = added f c
delta f c (Ok Repeated) = []
delta f c (Err refusal) = []

-- what a decision may answer: the step's reply with what it adds, or 40
abbrev pub Decides : Federation → Command → Result (Answer × List Addition) Refusal → Type 0
Decides f c (Ok p) = (reply f c ≡ Ok p.0) × (p.1 ≡ delta f c (Ok p.0))
Decides f c (Err e) = (e ≡ Plain OutOfMemory) ⊎ (reply f c ≡ Err e)
