-- A refusal can be printed: a failed assertion of a book names a date, a commodity and quantities of its entries.
use Rattle.std.proofs.Common.{◌≡◌, ◌∙◌, ◌≤◌, ◌<◌, ◌⊎◌, ◌++◌, List, [], ◌∷◌, length, Option, Some, None, Result, Ok, Err}
use Rattle.std.proofs.Common.{ℤ, pos, arith, refl, sym, subst, inl, inr, ℕ, Bool, true, false, not, nat_le, nat_lt}
use Rattle.std.specs.Prelude.{Contains, unsigned_abs, if◌then◌else◌, find, int_le, int_lt, is_some}
use Rattle.std.specs.Str.{bytes_eq}
use Rattle.std.specs.Cmp.Lexicographic.{pointwise}
use Rattle.std.specs.List.{AllByRecursion, list_all, list_any}
use Rattle.std.specs.Option.{option_or}
use Rattle.money_core.specs.declared.style.Style.{Style}
use Rattle.money_core.specs.declared.unit.Unit.{Unit as Commodity}
use Rattle.money_core.specs.declared.unit.Declared.{Declared}
use Rattle.money_core.specs.declared.unit.Declared.TheVariants.{New, Same}
use Rattle.money_core.specs.declared.day.Day.{Day}
use Rattle.money_core.specs.declared.cause.Cause.{Cause}
use Rattle.money_core.specs.declared.cause.Cause.TheVariants.{OutOfMemory, UnknownTransfer, AlreadyReceived, MarkClash}
use Rattle.money_core.specs.declared.cause.Cause.TheVariants.{NothingToClose, Locked, Limit}
use Rattle.money_core.specs.Amount.{limit}
use Rattle.money_core.specs.AmountText.{IsDeclared}
use Rattle.money_core.specs.Style.{declared}
use Rattle.money_core.proofs.ListLemmas.{all-append}
use Rattle.journal_lines.specs.Date.{IsDayNumber}
use Rattle.book_core.specs.declared.leg.Leg.{Leg}
use Rattle.book_core.specs.declared.claim.Placed.{Placed}
use Rattle.book_core.specs.declared.entry.Entry.{Entry}
use Rattle.book_core.specs.declared.refusal.Failure.{Failure}
use Rattle.book_core.specs.declared.refusal.Refusal.{Refusal}
use Rattle.book_core.specs.declared.refusal.Refusal.TheVariants.{Plain, Text, ClaimFailed}
use Rattle.book_core.specs.GoodBook.{verdict}
use Rattle.book_core.specs.Book.{legs_of as legs_in}
use Rattle.book_core.specs.Named.{IsOfBook, units_of}
use Rattle.book_core.proofs.NamedLemmas.{failed_named, named_unit}
use Rattle.journal_format.specs.declared.txn.Txn.{Txn}
use Rattle.journal_format.specs.declared.txn.Located.{Located}
use Rattle.journal_format.specs.Pieces.{posting_limit}
use Rattle.journal_format.specs.Printable.{IsPrintable}
use Rattle.journal_balance.specs.Legs.{balanced_entry}
use Rattle.journal_balance.proofs.EntryLemmas.{entry_day}
use Rattle.journal_balance.proofs.DeclaredLemmas.{entry_declared, entry_asserts}
use Rattle.treasury_state.specs.declared.record.Record.{Record}
use Rattle.treasury_state.specs.declared.transfer.Part.{Part}
use Rattle.treasury_state.specs.declared.transfer.Transfer.{Transfer}
use Rattle.treasury_state.specs.Federation.{Federation, is_branch_name, most_branches, has_branch, records_of, lock_of}
use Rattle.treasury_state.specs.Federation.{entries, book_of, is_locked}
use Rattle.treasury_state.specs.Mark.{held, is_held, is_repeat, is_product_mark, close_mark}
use Rattle.treasury_state.specs.Transfer.{is_id, is_account_text, is_reserved, is_transit, dispatch_record}
use Rattle.treasury_state.specs.Transfer.{receipt_record, receipts_of, transfer_at}
use Rattle.treasury_state.specs.Good.{IsGoodRecord, IsGoodState}
use Rattle.treasury_state.proofs.OpenLemmas.{good_records}
use Rattle.treasury_core.specs.declared.command.Answer.{Answer}
use Rattle.treasury_core.specs.declared.command.Answer.TheVariants.{Repeated}
use Rattle.treasury_core.specs.declared.command.Command.{Command}
use Rattle.treasury_core.specs.declared.command.Command.TheVariants as cmd
use Rattle.treasury_core.specs.declared.command.Dispatch.{Dispatch}
use Rattle.treasury_core.specs.declared.command.Receive.{Receive}
use Rattle.treasury_core.specs.declared.command.Close.{Close}
use Rattle.treasury_core.specs.declared.choice.Choice.{Choice}
use Rattle.treasury_core.specs.Choice.{is_selected, target_in, listed_names, list_text, choice_comments, list_limit}
use Rattle.treasury_core.specs.Choice.{holds_transit, choice_refusal}
use Rattle.treasury_core.specs.Closing.{closing_record, closing_answer, closing_in}
use Rattle.treasury_core.specs.Step.{unless, commodity_reply, is_lock, goes_back, fault_on, unbalanced, records_in_file}
use Rattle.treasury_core.specs.Step.{barred, refusal_of, refused_in, new_records, enter_refusal, transfer_of}
use Rattle.treasury_core.specs.Step.{is_dispatched_so, dispatch_refusal, dispatch_reply, key_of, qty_of, receipt_of}
use Rattle.treasury_core.specs.Step.{has_key, is_received_so, is_too_much, has_bad_key, has_nothing_left}
use Rattle.treasury_core.specs.Step.{receipt_refusal, held_reply, receipt_reply, receive_reply, entering_refusal}
use Rattle.treasury_core.specs.Step.{close_refusal, closed_reply, reply}
use Rattle.treasury_core.specs.Fits.{Fits}
use Rattle.treasury_core.proofs.ClosingReply.{not_more, closing_record_good}
use Rattle.treasury_core.proofs.ReplyLemmas.{new_good, dispatch_record_good, may_receive, receipt_record_good}
use Rattle.treasury_laws.proofs.LateEntryLemmas.{all_at}
use Rattle.treasury_api.specs.Answer.{IsPrintableFailure, IsPrintableRefusal}

-- an entry of a transaction that can be printed
pub record IsOfTransaction (styles : List Style) (e : Entry) : Type 0 where
  pub txn : Txn
  pub printable : IsPrintable styles txn
  pub legs : balanced_entry styles txn ≡ Ok e

-- what an entry of a transaction names
day_number : (styles : List Style) (e : Entry) → IsOfTransaction styles e → IsDayNumber e.day
day_number styles e is = subst IsDayNumber (sym (entry_day styles is.txn e is.legs)) is.printable.header.number

leg_declared : (styles : List Style) (e : Entry) (x : Leg) → IsOfTransaction styles e → Contains e.legs x
    → IsDeclared styles x.unit x.qty
leg_declared styles e x is on =
    all_at (λ (y : Leg). IsDeclared styles y.unit y.qty) e.legs x
    (entry_declared styles is.txn e is.printable.postings is.legs) on

claim_declared : (styles : List Style) (e : Entry) (p : Placed) → IsOfTransaction styles e → Contains e.claims p
    → IsDeclared styles p.claim.unit p.claim.qty
claim_declared styles e p is on =
    all_at (λ (q : Placed). IsDeclared styles q.claim.unit q.claim.qty) e.claims p
    (entry_asserts styles is.txn e is.printable.postings is.legs) on

-- the commodity that a failure names
unit_known : (styles : List Style) (b : List Entry) (f : Failure) → AllByRecursion (IsOfTransaction styles) b
    → IsOfBook b f → f.unit.0 < length styles
unit_known styles b f all named =
    named_unit (λ (u : Commodity). u.0 < length styles) b f named
    (λ e in_book x on. (leg_declared styles e x (all_at (IsOfTransaction styles) b e all in_book) on).known)
    (λ e in_book p on. (claim_declared styles e p (all_at (IsOfTransaction styles) b e all in_book) on).known)

pub printable_failure : (styles : List Style) (b : List Entry) (f : Failure) → AllByRecursion (IsOfTransaction styles) b
    → verdict b ≡ Some (ClaimFailed f)
    → IsPrintableFailure styles f
printable_failure styles b f all h = record {
  day = subst IsDayNumber (sym named.day) (day_number styles named.entry entry);
  asserted = record { known = known; size = asserted named.names };
  found = record { known = known; size = named.found };
}
  where
    named : IsOfBook b f
    named = failed_named b f h

    entry : IsOfTransaction styles named.entry
    entry = all_at (IsOfTransaction styles) b named.entry all named.in_book

    known : f.unit.0 < length styles
    known = unit_known styles b f all named

    asserted : ((f.unit ≡ named.assertion.claim.unit) × (f.asserted ≡ named.assertion.claim.qty))
        ⊎ (Contains (units_of (legs_in b)) f.unit × (f.asserted ≡ pos 0))
        → unsigned_abs f.asserted ≤ limit
    asserted (inl own) = subst (λ (q : ℤ). unsigned_abs q ≤ limit) (sym own.1)
        (claim_declared styles named.entry named.assertion entry named.on_entry).size
    asserted (inr other) = subst (λ (q : ℤ). unsigned_abs q ≤ limit) (sym other.1) (omega arith)

-- what a check answers can be printed
pub printable_verdict : (styles : List Style) (b : List Entry) (e : Refusal) → AllByRecursion (IsOfTransaction styles) b
    → verdict b ≡ Some e → IsPrintableRefusal styles e
printable_verdict styles b (Plain cause) all h = tt
printable_verdict styles b (Text fault) all h = tt
printable_verdict styles b (ClaimFailed f) all h = printable_failure styles b f all h

of_records : (styles : List Style) (rs : List Record) → AllByRecursion (IsGoodRecord styles) rs
    → AllByRecursion (IsOfTransaction styles) (entries rs)
of_records styles [] h = tt
of_records styles (r ∷ rs) h =
    (record { txn = r.txn; printable = h.0.printable; legs = h.0.legs }, of_records styles rs h.1)

-- ---- what a command is refused with

first_or : (o p : Option Refusal) (e : Refusal) → option_or o p ≡ Some e → (o ≡ Some e) ⊎ (p ≡ Some e)
first_or None p e h = inr h
first_or (Some x) p e h = inl h

fault_printable : (styles : List Style) (line : ℕ) (r : Result Entry Cause) (e : Refusal) → fault_on line r ≡ Some e
    → IsPrintableRefusal styles e
fault_printable styles line (Ok entry) e h = absurd cc
fault_printable styles line (Err cause) e h =
    let same : e ≡ Text (record { line = line; cause = cause }) = cc in subst (IsPrintableRefusal styles) (sym same) tt

unbalanced_printable : (styles : List Style) (file : List Located) (e : Refusal) → unbalanced styles file ≡ Some e
    → IsPrintableRefusal styles e
unbalanced_printable styles [] e h = absurd cc
unbalanced_printable styles (x ∷ xs) e h =
    elim (first_or (fault_on x.line (balanced_entry styles x.txn)) (unbalanced styles xs) e h) [
      | inl here ↦ fault_printable styles x.line (balanced_entry styles x.txn) e here
      | inr later ↦ unbalanced_printable styles xs e later
    ]

plain_printable : (styles : List Style) (cause : Cause) (e : Refusal) → Plain cause ≡ e → IsPrintableRefusal styles e
plain_printable styles cause e h = subst (IsPrintableRefusal styles) h tt

kept_or : (styles : List Style) (t : Bool) (cause : Cause) (o : Option Refusal) (e : Refusal)
    → (if not t then Some (Plain cause) else o) ≡ Some e → (t ≡ true → o ≡ Some e → IsPrintableRefusal styles e)
    → IsPrintableRefusal styles e
kept_or styles false cause o e h rest = plain_printable styles cause e cc
kept_or styles true cause o e h rest = rest refl h

printable_past_plain : (styles : List Style) (t : Bool) (cause : Cause) (o : Option Refusal) (e : Refusal)
    → (if t then Some (Plain cause) else o) ≡ Some e → (o ≡ Some e → IsPrintableRefusal styles e)
    → IsPrintableRefusal styles e
printable_past_plain styles true cause o e h rest = plain_printable styles cause e cc
printable_past_plain styles false cause o e h rest = rest h

passed_by : (styles : List Style) (t : Bool) (cause : Cause) (o : Option Refusal) (e : Refusal)
    → (if t then Some (Plain cause) else o) ≡ Some e → (t ≡ false → o ≡ Some e → IsPrintableRefusal styles e)
    → IsPrintableRefusal styles e
passed_by styles true cause o e h rest = plain_printable styles cause e cc
passed_by styles false cause o e h rest = rest refl h

barred_printable : (styles : List Style) (lock : Option Day) (r : Record) (e : Refusal) → barred lock r ≡ Some e
    → IsPrintableRefusal styles e
barred_printable styles lock r e h =
    printable_past_plain styles (is_product_mark r.mark) _ _ e h
    (λ h1. printable_past_plain styles (list_any is_transit r.entry.legs) _ _ e h1
    (λ h2. printable_past_plain styles (is_locked lock r.entry.day) _ _ e h2 (λ h3. absurd cc)))

refused_printable : (styles : List Style) (lock : Option Day) (held rs : List Record) (e : Refusal)
    → refused_in styles lock held rs ≡ Some e → IsPrintableRefusal styles e
refused_printable styles lock held [] e h = absurd cc
refused_printable styles lock held (r ∷ rs) e h =
    at (is_repeat styles held r) h (refused_printable styles lock held rs e)
    (refused_printable styles lock (held ++ r ∷ []) rs e)
  where
    at : (t : Bool) → (if t then refused_in styles lock held rs
        else option_or (refusal_of lock held r) (refused_in styles lock (held ++ r ∷ []) rs)) ≡ Some e
        → (refused_in styles lock held rs ≡ Some e → IsPrintableRefusal styles e)
        → (refused_in styles lock (held ++ r ∷ []) rs ≡ Some e → IsPrintableRefusal styles e)
        → IsPrintableRefusal styles e
    at true h repeat new = repeat h
    at false h repeat new = elim (first_or (refusal_of lock held r) (refused_in styles lock (held ++ r ∷ []) rs) e h) [
      | inl here ↦ printable_past_plain styles (is_held held r.mark) _ _ e here
          (λ h. barred_printable styles lock r e h)
      | inr later ↦ new later
    ]

file_printable : (f : Federation) (name : List ℕ) (file : List Located) (e : Refusal) → IsGoodState f
    → Fits f.styles (cmd.Enter name file) → enter_refusal f name file ≡ Some e → IsPrintableRefusal f.styles e
file_printable f name file e good fits h = elim (first_or (unbalanced f.styles file) _ e h) [
  | inl faulty ↦ unbalanced_printable f.styles file e faulty
  | inr next ↦ elim (first_or (refused_in f.styles (lock_of f name) (records_of f name) (records_in_file f.styles file))
      _ e next) [
        | inl refused ↦ refused_printable f.styles (lock_of f name) (records_of f name) (records_in_file f.styles file)
            e
            refused
        | inr fails ↦
            let old = of_records f.styles (records_of f name) (good_records f name good) in
            let new = of_records f.styles (new_records f name file) (new_good f name file fits) in
            printable_verdict f.styles (book_of f name ++ entries (new_records f name file)) e
            (all-append (IsOfTransaction f.styles) (book_of f name) (entries (new_records f name file)) old new) fails
      ]
]

-- the failure of a book with one good record more
with_record_printable : (f : Federation) (name : List ℕ) (r : Record) (e : Refusal) → IsGoodState f
    → IsGoodRecord f.styles r → verdict (entries (records_of f name) ++ entries (r ∷ [])) ≡ Some e
    → IsPrintableRefusal f.styles e
with_record_printable f name r e good written fails =
    let old = of_records f.styles (records_of f name) (good_records f name good) in
    let new = of_records f.styles (r ∷ []) (written, tt) in
    printable_verdict f.styles (book_of f name ++ entries (r ∷ [])) e
    (all-append (IsOfTransaction f.styles) (book_of f name) (entries (r ∷ [])) old new) fails

by_answer : (styles : List Style) (a : Answer) (o : Option Refusal) (e : Refusal) → unless a o ≡ Err e → o ≡ Some e
by_answer styles a None e h = absurd cc
by_answer styles a (Some refusal) e h = cc

replied_plain : (styles : List Style) (t : Bool) (cause : Cause) (x : Result Answer Refusal) (e : Refusal)
    → (if t then Err (Plain cause) else x) ≡ Err e → (x ≡ Err e → IsPrintableRefusal styles e)
    → IsPrintableRefusal styles e
replied_plain styles true cause x e h rest = plain_printable styles cause e cc
replied_plain styles false cause x e h rest = rest h

kept_out : (styles : List Style) (t : Bool) (cause : Cause) (x : Result Answer Refusal) (e : Refusal)
    → (if t then Err (Plain cause) else x) ≡ Err e → (t ≡ false → x ≡ Err e → IsPrintableRefusal styles e)
    → IsPrintableRefusal styles e
kept_out styles true cause x e h rest = plain_printable styles cause e cc
kept_out styles false cause x e h rest = rest refl h

replied_there : (styles : List Style) (t : Bool) (cause : Cause) (x : Result Answer Refusal) (e : Refusal)
    → (if not t then Err (Plain cause) else x) ≡ Err e → (t ≡ true → x ≡ Err e → IsPrintableRefusal styles e)
    → IsPrintableRefusal styles e
replied_there styles false cause x e h rest = plain_printable styles cause e cc
replied_there styles true cause x e h rest = rest refl h

replied_repeat : (styles : List Style) (t : Bool) (x : Result Answer Refusal) (e : Refusal)
    → (if t then Ok Repeated else x) ≡ Err e → (x ≡ Err e → IsPrintableRefusal styles e) → IsPrintableRefusal styles e
replied_repeat styles true x e h rest = absurd cc
replied_repeat styles false x e h rest = rest h

declared_printable : (styles : List Style) (d : Result Declared Cause) (e : Refusal) → commodity_reply d ≡ Err e
    → IsPrintableRefusal styles e
declared_printable styles (Ok (New unit)) e h = absurd cc
declared_printable styles (Ok (Same unit)) e h = absurd cc
declared_printable styles (Err cause) e h = plain_printable styles cause e cc

dispatch_printable : (f : Federation) (d : Dispatch) (e : Refusal) → IsGoodState f → Fits f.styles (cmd.Dispatch d)
    → dispatch_reply f d ≡ Err e → IsPrintableRefusal f.styles e
dispatch_printable f d e good fits h =
    replied_there f.styles (has_branch f d.source) _ _ e h
    (λ source h1. replied_there f.styles (has_branch f d.target) _ _ e h1 (λ target h2.
    replied_plain f.styles (bytes_eq d.source d.target) _ _ e h2
    (λ h3. replied_there f.styles (is_id d.id) _ _ e h3 (λ id h4.
    replied_repeat f.styles (is_dispatched_so d (transfer_at f d.id)) _ e h4
    (λ h5. replied_plain f.styles (is_some (transfer_at f d.id)) _ _ e h5 (λ h6.
    let refused = by_answer f.styles _ (dispatch_refusal (lock_of f d.source) (records_of f d.source) d) e h6 in
    kept_or f.styles (is_account_text d.account) _ _ e refused
    (λ account k1. printable_past_plain f.styles (is_reserved d.account) _ _ e k1 (λ k2.
    printable_past_plain f.styles (int_le d.qty (pos 0)) _ _ e k2
    (λ k3. printable_past_plain f.styles (is_locked (lock_of f d.source) d.day) _ _ e k3 (λ k4.
    with_record_printable f d.source (dispatch_record (transfer_of d)) e good
    (dispatch_record_good f d good fits source target id account) k4))))))))))

new_printable : (f : Federation) (r : Receive) (t : Transfer) (e : Refusal) → IsGoodState f
    → Fits f.styles (cmd.Receive r) → has_bad_key r.part ≡ false → transfer_at f r.id ≡ Some t
    → find (has_key (key_of r.part)) (receipts_of t) ≡ None
    → receipt_refusal (lock_of f r.branch) (records_of f r.branch) t r ≡ Some e → IsPrintableRefusal f.styles e
new_printable f r t e good fits bad at none refused =
    kept_or f.styles (is_account_text r.account) _ _ e refused
    (λ account k1. passed_by f.styles (is_reserved r.account) _ _ e k1 (λ clear k2.
    passed_by f.styles (int_le (qty_of t r.part) (pos 0)) _ _ e k2
    (λ some k3. passed_by f.styles (is_too_much t r.part) _ _ e k3 (λ enough k4.
    passed_by f.styles (int_lt r.day.0 t.day.0) _ _ e k4
    (λ late k5. printable_past_plain f.styles (is_locked (lock_of f r.branch) r.day) _ _ e k5 (λ k6.
    with_record_printable f r.branch (receipt_record t (receipt_of t r)) e good
    (receipt_record_good f r t good fits at (may_receive t r bad none clear some enough late) account) k6))))))

held_printable : (f : Federation) (r : Receive) (t : Transfer) (o : Option Part) (e : Refusal) → IsGoodState f
    → Fits f.styles (cmd.Receive r) → has_bad_key r.part ≡ false → transfer_at f r.id ≡ Some t
    → find (has_key (key_of r.part)) (receipts_of t) ≡ o → held_reply f t r o ≡ Err e → IsPrintableRefusal f.styles e
held_printable f r t (Some p) e good fits bad at held h =
    replied_repeat f.styles (is_received_so t r p) _ e h (λ h1. plain_printable f.styles AlreadyReceived e cc)
held_printable f r t None e good fits bad at none h =
    replied_plain f.styles (has_nothing_left t r.part) _ _ e h
    (λ h1. new_printable f r t e good fits bad at none
    (by_answer f.styles _ (receipt_refusal (lock_of f r.branch) (records_of f r.branch) t r) e h1))

receipt_printable : (f : Federation) (r : Receive) (o : Option Transfer) (e : Refusal) → IsGoodState f
    → Fits f.styles (cmd.Receive r) → has_bad_key r.part ≡ false → transfer_at f r.id ≡ o → receipt_reply f r o ≡ Err e
    → IsPrintableRefusal f.styles e
receipt_printable f r None e good fits bad at h = plain_printable f.styles UnknownTransfer e cc
receipt_printable f r (Some t) e good fits bad at h =
    replied_there f.styles (bytes_eq t.target r.branch) _ _ e h
    (λ target h1. held_printable f r t (find (has_key (key_of r.part)) (receipts_of t)) e good fits bad at refl h1)

receive_printable : (f : Federation) (r : Receive) (e : Refusal) → IsGoodState f → Fits f.styles (cmd.Receive r)
    → receive_reply f r ≡ Err e → IsPrintableRefusal f.styles e
receive_printable f r e good fits h =
    replied_there f.styles (has_branch f r.branch) _ _ e h
    (λ there h1. replied_there f.styles (is_id r.id) _ _ e h1
    (λ id h2. kept_out f.styles (has_bad_key r.part) _ _ e h2
    (λ bad h3. receipt_printable f r (transfer_at f r.id) e good fits bad refl h3)))

entering_printable : (f : Federation) (name : List ℕ) (day : Day) (c : Choice) (t : Txn) (b : Bool) (e : Refusal)
    → IsGoodState f → IsDayNumber day → choice_refusal c ≡ None → closing_in f name day c ≡ Some t
    → nat_lt posting_limit (length t.postings) ≡ b
    → entering_refusal (records_of f name) day (if b then Err (Plain Limit) else Ok t) ≡ Some e
    → IsPrintableRefusal f.styles e
entering_printable f name day c t true e good days allowed closes few h = plain_printable f.styles Limit e cc
entering_printable f name day c t false e good days allowed closes few h =
    with_record_printable f name (closing_record day t) e good
    (closing_record_good f name day c t good days allowed closes (not_more (length t.postings) few)) h

closing_printable : (f : Federation) (name : List ℕ) (day : Day) (c : Choice) (o : Option Txn) (e : Refusal)
    → IsGoodState f → IsDayNumber day → choice_refusal c ≡ None → closing_in f name day c ≡ o
    → entering_refusal (records_of f name) day (closing_answer o) ≡ Some e → IsPrintableRefusal f.styles e
closing_printable f name day c None e good days allowed closes h = plain_printable f.styles NothingToClose e cc
closing_printable f name day c (Some t) e good days allowed closes h =
    entering_printable f name day c t (nat_lt posting_limit (length t.postings)) e good days allowed closes refl h

-- a choice is refused by a cause alone
choice_printable : (styles : List Style) (c : Choice) (e : Refusal) → choice_refusal c ≡ Some e
    → IsPrintableRefusal styles e
choice_printable styles c e h =
    kept_or styles (list_all is_account_text (listed_names c.accounts)) _ _ e h
    (λ formed k1. kept_or styles (is_account_text (target_in c.into)) _ _ e k1 (λ target k2.
    printable_past_plain styles (list_any holds_transit (listed_names c.accounts)) _ _ e k2
    (λ k3. printable_past_plain styles (is_reserved (target_in c.into)) _ _ e k3 (λ k4.
    printable_past_plain styles (is_selected c.accounts (target_in c.into)) _ _ e k4
    (λ k5. printable_past_plain styles (nat_lt list_limit (length (list_text (listed_names c.accounts)))) _ _ e k5
    (λ k6. absurd cc))))))

close_printable : (f : Federation) (x : Close) (o : Option Refusal) (e : Refusal) → IsGoodState f → IsDayNumber x.day
    → choice_refusal x.choice ≡ o
    → option_or o (if is_locked (lock_of f x.branch) x.day then Some (Plain Locked)
    else entering_refusal (records_of f x.branch) x.day (closing_answer (closing_in f x.branch x.day x.choice)))
    ≡ Some e → IsPrintableRefusal f.styles e
close_printable f x (Some refusal) e good days is h = choice_printable f.styles x.choice e (is ∙ h)
close_printable f x None e good days is h =
    printable_past_plain f.styles (is_locked (lock_of f x.branch) x.day) _ _ e h
    (λ k. closing_printable f x.branch x.day x.choice (closing_in f x.branch x.day x.choice) e good days is refl k)

closed_printable : (f : Federation) (x : Close) (o : Option Record) (e : Refusal) → IsGoodState f → IsDayNumber x.day
    → closed_reply f x o ≡ Err e → IsPrintableRefusal f.styles e
closed_printable f x (Some r) e good days h =
    replied_repeat f.styles (pointwise bytes_eq r.txn.comments (choice_comments x.choice)) _ e h
    (λ h1. plain_printable f.styles MarkClash e cc)
closed_printable f x None e good days h =
    close_printable f x (choice_refusal x.choice) e good days refl
    (by_answer f.styles _
    (close_refusal (lock_of f x.branch) (records_of f x.branch) x (closing_in f x.branch x.day x.choice)) e h)

reply_printable : (f : Federation) (c : Command) (e : Refusal) → IsGoodState f → Fits f.styles c → reply f c ≡ Err e
    → IsPrintableRefusal f.styles e
unfolding reply
reply_printable f (cmd.Branch name) e good fits h =
    replied_there f.styles (is_branch_name name) _ _ e h
    (λ named h1. replied_repeat f.styles (has_branch f name) _ e h1 (λ h2.
    replied_plain f.styles (nat_le most_branches (length f.branches)) _ _ e h2 (λ h3. absurd cc)))
reply_printable f (cmd.Commodity style) e good fits h = declared_printable f.styles (declared f.styles style) e h
reply_printable f (cmd.Enter name file) e good fits h =
    replied_there f.styles (has_branch f name) _ _ e h
    (λ there h1. file_printable f name file e good fits (by_answer f.styles _ (enter_refusal f name file) e h1))
reply_printable f (cmd.Dispatch d) e good fits h = dispatch_printable f d e good fits h
reply_printable f (cmd.Receive r) e good fits h = receive_printable f r e good fits h
reply_printable f (cmd.Lock name day) e good fits h =
    replied_there f.styles (has_branch f name) _ _ e h
    (λ there h1. replied_repeat f.styles (is_lock (lock_of f name) day) _ e h1 (λ h2.
    replied_plain f.styles (goes_back (lock_of f name) day) _ _ e h2 (λ h3. absurd cc)))
reply_printable f (cmd.Close x) e good fits h =
    replied_there f.styles (has_branch f x.branch) _ _ e h
    (λ there h1. closed_printable f x (held (records_of f x.branch) (close_mark x.day)) e good fits h1)

-- the refusal of a decided command can be printed
pub decided_printable : (f : Federation) (c : Command) (e : Refusal) → IsGoodState f → Fits f.styles c
    → (e ≡ Plain OutOfMemory) ⊎ (reply f c ≡ Err e) → IsPrintableRefusal f.styles e
decided_printable f c e good fits (inl memory) = subst (IsPrintableRefusal f.styles) (sym memory) tt
decided_printable f c e good fits (inr h) = reply_printable f c e good fits h
