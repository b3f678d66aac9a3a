-- what an accepted command was, and that it leaves a good state good
use Rattle.std.proofs.Common.{◌≡◌, ◌≤◌, ℕ, Bool, true, false, ◌||◌, cond, List, [], ◌∷◌, ◌++◌, length, ℤ, pos, ◌<ℤ◌}
use Rattle.std.proofs.Common.{refl, ap, ◌∙◌, sym, subst, arith, inl, inr, Option, Some, None, Ok, Err, nat_le, nat_lt}
use Rattle.std.proofs.Common.{◌≤ℤ◌}
use Rattle.std.specs.Prelude.{if◌then◌else◌, Result, not, ⊤, find, is_some, int_le, int_lt, unsigned_abs, nat_eq}
use Rattle.std.specs.Cmp.Lexicographic.{pointwise}
use Rattle.std.specs.List.{list_any, AllByRecursion}
use Rattle.std.specs.Str.{bytes_eq, is_utf8}
use Rattle.std.proofs.lemmas.Bool.{leb-false, and_from, and_parts, or_parts}
use Rattle.std.proofs.lemmas.Bool.Decides.{nat_tests}
use Rattle.std.proofs.lemmas.Int.{ints}
use Rattle.money_core.specs.declared.style.Style.{Style}
use Rattle.money_core.specs.declared.day.Day.{Day}
use Rattle.money_core.specs.declared.unit.Unit.{Unit as Commodity}
use Rattle.money_core.specs.declared.unit.Declared.{Declared}
use Rattle.money_core.specs.declared.unit.Declared.TheVariants.{New, Same}
use Rattle.money_core.specs.declared.cause.Cause.{Cause}
use Rattle.money_core.specs.declared.cause.Cause.TheVariants.{MarkClash, OutOfMemory, Limit}
use Rattle.money_core.specs.Style.{declared, is_style}
use Rattle.money_core.specs.Amount.{limit}
use Rattle.money_core.specs.AmountText.{IsDeclared}
use Rattle.money_core.proofs.BytesLemmas.{same_bytes}
use Rattle.money_core.proofs.TestLemmas.{le_from_int_le}
use Rattle.book_core.specs.declared.refusal.Refusal.{Refusal}
use Rattle.book_core.specs.declared.refusal.Refusal.TheVariants.{Plain}
use Rattle.book_core.specs.GoodBook.{verdict}
use Rattle.journal_lines.specs.AccountName.{is_account}
use Rattle.journal_lines.specs.Date.{IsDayNumber}
use Rattle.journal_format.specs.declared.txn.Txn.{Txn}
use Rattle.journal_format.specs.declared.txn.Located.{Located}
use Rattle.journal_format.specs.Pieces.{posting_limit}
use Rattle.journal_format.specs.Printable.{is_amount}
use Rattle.treasury_state.specs.declared.record.Record.{Record}
use Rattle.treasury_state.specs.declared.transfer.Part.{Part}
use Rattle.treasury_state.specs.declared.transfer.Transfer.{Transfer}
use Rattle.treasury_state.specs.Federation.{Branch, Federation, is_branch_name, has_branch, records_in, records_of}
use Rattle.treasury_state.specs.Federation.{lock_of, entries, book_of, is_locked}
use Rattle.treasury_state.specs.Mark.{held, HaveOwnMarks, close_mark}
use Rattle.treasury_state.specs.Transfer.{is_id, is_account_text, is_reserved, has_id, dispatch_record, receipt_record}
use Rattle.treasury_state.specs.Transfer.{is_all, is_key, receipts_of, left_of, transfer_at}
use Rattle.treasury_state.specs.Joined.{with_entered, with_locked, with_received}
use Rattle.treasury_state.specs.Good.{IsGoodBranch, IsGoodRecord, IsGoodTransfer, IsGoodState}
use Rattle.treasury_state.proofs.MarkLemmas.{not_all}
use Rattle.treasury_state.proofs.PartLemmas.{small_from}
use Rattle.treasury_state.proofs.FairLemmas.{known_name_holds, names_of}
use Rattle.treasury_state.proofs.HeldLemmas.{own_push}
use Rattle.treasury_state.proofs.DispatchLemmas.{dispatch_written}
use Rattle.treasury_state.proofs.FoundLemmas.{found_transfer, amount_small}
use Rattle.treasury_core.specs.declared.command.Answer.{Answer}
use Rattle.treasury_core.specs.declared.command.Answer.TheVariants.{Done, Entered, Repeated}
use Rattle.treasury_core.specs.declared.command.AskedPart.{AskedPart}
use Rattle.treasury_core.specs.declared.command.Dispatch.{Dispatch}
use Rattle.treasury_core.specs.declared.command.Receive.{Receive}
use Rattle.treasury_core.specs.declared.command.Close.{Close}
use Rattle.treasury_core.specs.declared.command.Command.{Command}
use Rattle.treasury_core.specs.declared.command.Command.TheVariants as cmd
use Rattle.treasury_core.specs.Choice.{choice_comments, choice_refusal}
use Rattle.treasury_core.specs.Closing.{closing_record, closing_answer, closing_in}
use Rattle.treasury_core.specs.Step.{unless, reply, done, after, new_records, records_in_file, unbalanced, refused_in}
use Rattle.treasury_core.specs.Step.{is_lock, goes_back, commodity_reply, transfer_of, is_dispatched_so, receipt_of}
use Rattle.treasury_core.specs.Step.{is_received_so, receipt_reply, entering_refusal, close_refusal, closed_reply}
use Rattle.treasury_core.specs.Step.{closing_records, key_of, qty_of, has_key, is_too_much, has_bad_key}
use Rattle.treasury_core.specs.Step.{has_nothing_left, receipt_refusal, held_reply, with_receipt_of, IsNew}
use Rattle.treasury_core.specs.Fits.{Fits}
use Rattle.treasury_core.specs.Run.{Turn, Replies, after_turn, IsRun, state_after}
use Rattle.treasury_core.proofs.FileLemmas.{records_good, all-new, own-new, all_fresh, neither_refusal}
use Rattle.treasury_core.proofs.TransferLemmas.{left_high}
use Rattle.treasury_core.proofs.ReceiveLemmas.{IsReceipt}
use Rattle.treasury_core.proofs.KeepLemmas.{good_branch, good_style, own_entries, good_entered, good_locked}
use Rattle.treasury_core.proofs.KeepLemmas.{good_closed}
use Rattle.treasury_core.proofs.ChoiceLemmas.{true_from_not_false, None_only_if_false}
use Rattle.treasury_core.proofs.ClosingReply.{not_more, closing_record_good, closing_record_own}
use Rattle.treasury_core.proofs.DispatchLemmas.{good_dispatched, good_received}
use Rattle.treasury_core.proofs.ProductLemmas.{IsWritable, dispatch_good, receipt_good}

-- an answer to a command that is done
abbrev pub IsDone : Answer → Type 0
IsDone Done = ⊤
IsDone (Entered new repeated) = ⊤
IsDone Repeated = ⊥

-- a case that does not apply
Ok_only_if_false : (t : Bool) (e : Refusal) (x : Result Answer Refusal) (a : Answer) → (if t then Err e else x) ≡ Ok a
    → (t ≡ false) × (x ≡ Ok a)
Ok_only_if_false true e x a h = absurd cc
Ok_only_if_false false e x a h = (refl, h)

pub Ok_only_if_true : (t : Bool) (e : Refusal) (x : Result Answer Refusal) (a : Answer)
    → (if not t then Err e else x) ≡ Ok a → (t ≡ true) × (x ≡ Ok a)
Ok_only_if_true true e x a h = (refl, h)
Ok_only_if_true false e x a h = absurd cc

not_repeated : (t : Bool) (x : Result Answer Refusal) (a : Answer) → IsDone a → (if t then Ok Repeated else x) ≡ Ok a
    → (t ≡ false) × (x ≡ Ok a)
not_repeated true x Done d h = absurd cc
not_repeated true x (Entered new repeated) d h = absurd cc
not_repeated true x Repeated d h = absurd d
not_repeated false x a d h = (refl, h)

pub no_refusal : (b a : Answer) (o : Option Refusal) → unless b o ≡ Ok a → o ≡ None
no_refusal b a None h = refl
no_refusal b a (Some e) h = absurd cc

-- a new branch, a new commodity, a lock
done_branch : (f : Federation) (name : List ℕ) (a : Answer) → IsDone a → IsGoodState f
    → reply f (cmd.Branch name) ≡ Ok a → IsGoodState (done f (cmd.Branch name))
unfolding reply done
done_branch f name a d good h =
    let one = Ok_only_if_true (is_branch_name name) _ _ a h in
    let two = not_repeated (has_branch f name) _ a d one.1 in
    let three = Ok_only_if_false (nat_le 32 (length f.branches)) _ _ a two.1 in
    good_branch f name good one.0 two.0 (leb-false 32 (length f.branches) three.0)

declared_new : (f : Federation) (style : Style) (a : Answer) (r : Result Declared Cause) → IsDone a
    → declared f.styles style ≡ r → commodity_reply r ≡ Ok a → IsGoodState f → is_style style ≡ true
    → IsGoodState (done f (cmd.Commodity style))
unfolding done
declared_new f style a (Ok (New unit)) d e h good is = good_style f style unit good is e
declared_new f style Done (Ok (Same unit)) d e h good is = absurd cc
declared_new f style (Entered new repeated) (Ok (Same unit)) d e h good is = absurd cc
declared_new f style Repeated (Ok (Same unit)) d e h good is = absurd d
declared_new f style a (Err cause) d e h good is = absurd cc

done_commodity : (f : Federation) (style : Style) (a : Answer) → IsDone a → IsGoodState f → is_style style ≡ true
    → reply f (cmd.Commodity style) ≡ Ok a → IsGoodState (done f (cmd.Commodity style))
unfolding reply
done_commodity f style a d good is h = declared_new f style a (declared f.styles style) d refl h good is

-- a lock day that is accepted is not before the held one
pub lock_forward : (f : Federation) (name : List ℕ) (day : Day) (a : Answer) → IsDone a
    → reply f (cmd.Lock name day) ≡ Ok a → goes_back (lock_of f name) day ≡ false
unfolding reply
lock_forward f name day a d h =
    let there = Ok_only_if_true (has_branch f name) _ _ a h in
    let other = not_repeated (is_lock (lock_of f name) day) _ a d there.1 in
    (Ok_only_if_false (goes_back (lock_of f name) day) _ _ a other.1).0

done_lock : (f : Federation) (name : List ℕ) (day : Day) (a : Answer) → IsDone a → IsGoodState f → IsDayNumber day
    → reply f (cmd.Lock name day) ≡ Ok a → IsGoodState (done f (cmd.Lock name day))
unfolding done
done_lock f name day a is good number h = good_locked f name day good number (lock_forward f name day a is h)

-- the branch of a name has no mark twice
pub own_marks_of : (f : Federation) (name : List ℕ) → IsGoodState f → HaveOwnMarks (records_of f name)
own_marks_of f name good = own_in f.branches good.branches
  where
    own_in : (bs : List Branch) → AllByRecursion (IsGoodBranch f.styles) bs → HaveOwnMarks (records_in bs name)
    own_in [] h = tt
    own_in (b ∷ bs) h = own_at (bytes_eq b.name name) h.0.marks (own_in bs h.1)
      where
        own_at : (t : Bool) → HaveOwnMarks b.records → HaveOwnMarks (records_in bs name)
            → HaveOwnMarks (if t then b.records else records_in bs name)
        own_at true h k = h
        own_at false h k = k

-- what an accepted file was
pub record IsAccepted (f : Federation) (name : List ℕ) (file : List Located) : Type 0 where
  pub there : has_branch f name ≡ true
  pub balanced : unbalanced f.styles file ≡ None
  pub taken : refused_in f.styles (lock_of f name) (records_of f name) (records_in_file f.styles file) ≡ None
  pub passes : verdict (book_of f name ++ entries (new_records f name file)) ≡ None

pub file_accepted : (f : Federation) (name : List ℕ) (file : List Located) (a : Answer)
    → reply f (cmd.Enter name file) ≡ Ok a → IsAccepted f name file
unfolding reply
file_accepted f name file a h =
    let there = Ok_only_if_true (has_branch f name) _ _ a h in
    let none = no_refusal _ a _ there.1 in
    let first = neither_refusal (unbalanced f.styles file) _ none in
    let second = neither_refusal (refused_in f.styles (lock_of f name) (records_of f name)
    (records_in_file f.styles file)) _ first.1 in
    record { there = there.0; balanced = first.0; taken = second.0; passes = second.1 }

pub accepted_new : (f : Federation) (name : List ℕ) (file : List Located) (a : Answer)
    → reply f (cmd.Enter name file) ≡ Ok a
    → AllByRecursion (IsNew (lock_of f name) (records_of f name)) (new_records f name file)
accepted_new f name file a h = all_fresh f.styles (lock_of f name) (records_of f name) (records_in_file f.styles file)
    (file_accepted f name file a h).taken

pub new_good : (f : Federation) (name : List ℕ) (file : List Located) → Fits f.styles (cmd.Enter name file)
    → AllByRecursion (IsGoodRecord f.styles) (new_records f name file)
new_good f name file fits = all-new (IsGoodRecord f.styles) (records_of f name) (records_in_file f.styles file)
    (records_good f.styles [] file (omega (arith, fits.few)) fits.printable)

done_enter : (f : Federation) (name : List ℕ) (file : List Located) (a : Answer) → IsGoodState f
    → Fits f.styles (cmd.Enter name file) → reply f (cmd.Enter name file) ≡ Ok a
    → IsGoodState (done f (cmd.Enter name file))
unfolding done
done_enter f name file a good fits h =
    good_entered f name (new_records f name file) good
    (own-new (records_of f name) (records_in_file f.styles file) (own_marks_of f name good))
    (new_good f name file fits)
    (own_entries (lock_of f name) (records_of f name) (new_records f name file) (accepted_new f name file a h))
    (file_accepted f name file a h).passes

-- a refusal that does not come
keeps_to : (t : Bool) (e : Refusal) (o : Option Refusal) → (if not t then Some e else o) ≡ None
    → (t ≡ true) × (o ≡ None)
keeps_to true e o h = (refl, h)
keeps_to false e o h = absurd cc

-- a dispatch that was accepted
pub record IsSent (f : Federation) (d : Dispatch) : Type 0 where
  pub source : has_branch f d.source ≡ true
  pub target : has_branch f d.target ≡ true
  pub apart : bytes_eq d.source d.target ≡ false
  pub id : is_id d.id ≡ true
  pub free : transfer_at f d.id ≡ None
  pub account : is_account_text d.account ≡ true
  pub clear : is_reserved d.account ≡ false
  pub positive : int_le d.qty (pos 0) ≡ false
  pub unlocked : is_locked (lock_of f d.source) d.day ≡ false
  pub passes : verdict (book_of f d.source ++ (dispatch_record (transfer_of d)).entry ∷ []) ≡ None

no_transfer : (o : Option Transfer) → is_some o ≡ false → o ≡ None
no_transfer None h = refl
no_transfer (Some t) h = absurd cc

pub dispatch_sent : (f : Federation) (d : Dispatch) (a : Answer) → IsDone a → reply f (cmd.Dispatch d) ≡ Ok a
    → IsSent f d
unfolding reply
dispatch_sent f d a is h =
    let source = Ok_only_if_true (has_branch f d.source) _ _ a h in
    let target = Ok_only_if_true (has_branch f d.target) _ _ a source.1 in
    let apart = Ok_only_if_false (bytes_eq d.source d.target) _ _ a target.1 in
    let id = Ok_only_if_true (is_id d.id) _ _ a apart.1 in
    let fresh = not_repeated (is_dispatched_so d (transfer_at f d.id)) _ a is id.1 in
    let free = Ok_only_if_false (is_some (transfer_at f d.id)) _ _ a fresh.1 in
    let none = no_refusal Done a _ free.1 in
    let account = keeps_to (is_account_text d.account) _ _ none in
    let clear = None_only_if_false (is_reserved d.account) _ _ account.1 in
    let amount = None_only_if_false (int_le d.qty (pos 0)) _ _ clear.1 in
    let unlocked = None_only_if_false (is_locked (lock_of f d.source) d.day) _ _ amount.1 in
    record {
      source = source.0;
      target = target.0;
      apart = apart.0;
      id = id.0;
      free = no_transfer (transfer_at f d.id) free.0;
      account = account.0;
      clear = clear.0;
      positive = amount.0;
      unlocked = unlocked.0;
      passes = unlocked.1;
    }

none_found_at : {X : Type 0} (t u : Bool) (x : X) (o : Option X) → cond t (Some x) o ≡ None → (o ≡ None → u ≡ false)
    → (t || u) ≡ false
none_found_at true u x o h k = absurd cc
none_found_at false u x o h k = k h

none_found : {X : Type 0} (p : X → Bool) (ts : List X) → find p ts ≡ None → list_any p ts ≡ false
none_found p [] h = refl
none_found p (t ∷ ts) h = none_found_at (p t) (list_any p ts) t (find p ts) h (none_found p ts)

-- nothing is at most a positive amount
no_parts : (q : ℤ) → int_le (pos 1) q ≡ true → int_le (pos 0) q ≡ true
no_parts q h = grind (arith, ints)

positive_from : (q : ℤ) → int_le q (pos 0) ≡ false → int_le (pos 1) q ≡ true
positive_from q h = let k : pos 0 <ℤ q = grind (arith, ints) in grind (arith, ints)

amount_is : (styles : List Style) (unit : Commodity) (q : ℤ) → IsDeclared styles unit q → is_amount styles unit q ≡ true
amount_is styles unit q h = and_from (nat_lt unit.0 (length styles)) (nat_le (unsigned_abs q) limit)
    (let k = h.known in grind (arith, nat_tests)) (let k = h.size in grind (arith, nat_tests))

-- the name of a branch that is there is well formed
name_known : (f : Federation) (name : List ℕ) → IsGoodState f → has_branch f name ≡ true → is_branch_name name ≡ true
name_known f name good h = known_name_holds (λ (n : List ℕ). is_branch_name n ≡ true) f.branches name
    (names_of (λ (n : List ℕ). is_branch_name n ≡ true) f.branches (λ b k. k.named) good.branches) h

-- the record of a dispatch can be printed, and has its entry
pub dispatch_record_good : (f : Federation) (d : Dispatch) → IsGoodState f → Fits f.styles (cmd.Dispatch d)
    → has_branch f d.source ≡ true → has_branch f d.target ≡ true → is_id d.id ≡ true
    → is_account_text d.account ≡ true → IsGoodRecord f.styles (dispatch_record (transfer_of d))
dispatch_record_good f d good fits source target id written =
    let account = and_parts (is_account d.account) (is_utf8 d.account) written in
    let writable : IsWritable f.styles (transfer_of d) = record {
      id = id;
      source = name_known f d.source good source;
      target = name_known f d.target good target;
      day = fits.day;
      amount = amount_is f.styles d.unit d.qty fits.amount;
      payer = account.0;
      utf8 = account.1;
    } in
    dispatch_good f.styles (transfer_of d) good.styles writable

done_dispatch : (f : Federation) (d : Dispatch) (a : Answer) → IsDone a → IsGoodState f → Fits f.styles (cmd.Dispatch d)
    → reply f (cmd.Dispatch d) ≡ Ok a → IsGoodState (done f (cmd.Dispatch d))
unfolding done
done_dispatch f d a is good fits h =
    let s = dispatch_sent f d a is h in
    let positive = positive_from d.qty s.positive in
    let fair : IsGoodTransfer f.branches (transfer_of d) =
    record {
      id = s.id;
      source = s.source;
      target = s.target;
      apart = s.apart;
      positive = positive;
      payer = s.clear;
      parts = record { keys = tt; keyed = tt; each = tt; within = no_parts d.qty positive };
      rest = tt;
    } in
    good_dispatched f (transfer_of d) good refl fair (none_found (has_id d.id) f.transfers s.free)
    (dispatch_record_good f d good fits s.source s.target s.id s.account) s.passes

-- a receipt that was accepted
pub record IsTaken (f : Federation) (r : Receive) : Type 0 where
  pub transfer : Transfer
  pub found : transfer_at f r.id ≡ Some transfer
  pub target : bytes_eq transfer.target r.branch ≡ true
  pub may : IsReceipt transfer (receipt_of transfer r)
  pub account : is_account_text r.account ≡ true
  pub unlocked : is_locked (lock_of f r.branch) r.day ≡ false
  pub passes : verdict (book_of f r.branch ++ (receipt_record transfer (receipt_of transfer r)).entry ∷ []) ≡ None

late_from : (s r : ℤ) → int_lt r s ≡ false → int_le s r ≡ true
late_from s r h = grind (arith, ints)

-- what is asked for, by whether a part is
key_at : (o : Option AskedPart) → has_bad_key o ≡ false → is_all (key_of o) ≡ false → is_key (key_of o) ≡ true
key_at None h e = absurd (let k : true ≡ false = e in cc)
key_at (Some a) h e = true_from_not_false (is_key a.key) h

whole_at : (t : Transfer) (o : Option AskedPart) → has_bad_key o ≡ false → is_all (key_of o) ≡ true
    → qty_of t o ≡ left_of t
whole_at t None h e = refl
whole_at t (Some a) h e =
    absurd (let k : true ≡ false = sym e ∙ not_all a.key (true_from_not_false (is_key a.key) h) in cc)

at_most : (y z : ℤ) → int_lt y z ≡ false → z ≤ℤ y
at_most y z h = grind (arith, ints)

within_at : (t : Transfer) (o : Option AskedPart) → is_too_much t o ≡ false → qty_of t o ≤ℤ left_of t
within_at t None h = omega (arith, ints)
within_at t (Some a) h =
    at_most (left_of t) a.qty (or_parts (not (nat_eq a.unit.0 t.unit.0)) (int_lt (left_of t) a.qty) h).1

-- what is asked for may come, where no case of its refusal applies
pub may_receive : (t : Transfer) (r : Receive) → has_bad_key r.part ≡ false
    → find (has_key (key_of r.part)) (receipts_of t) ≡ None → is_reserved r.account ≡ false
    → int_le (qty_of t r.part) (pos 0) ≡ false
    → is_too_much t r.part ≡ false → int_lt r.day.0 t.day.0 ≡ false → IsReceipt t (receipt_of t r)
may_receive t r bad none clear some enough late = record {
  key = key_at r.part bad;
  whole = whole_at t r.part bad;
  fresh = none_found (has_key (key_of r.part)) (receipts_of t) none;
  part =
      record { positive = positive_from (qty_of t r.part) some; later = late_from t.day.0 r.day.0 late; payee = clear };
  within = within_at t r.part enough;
}

-- a receipt whose key has none yet
abbrev IsOpen : Federation → Transfer → Receive → Option Part → Type 0
IsOpen f t r o = (o ≡ None) × (receipt_refusal (lock_of f r.branch) (records_of f r.branch) t r ≡ None)

open_at : (f : Federation) (t : Transfer) (r : Receive) (a : Answer) (o : Option Part) → IsDone a
    → held_reply f t r o ≡ Ok a → IsOpen f t r o
open_at f t r a (Some p) is h = absurd (let k = (not_repeated (is_received_so t r p) _ a is h).1 in cc)
open_at f t r a None is h =
    let some = Ok_only_if_false (has_nothing_left t r.part) _ _ a h in
    (refl, no_refusal Done a _ some.1)

taken_at : (f : Federation) (r : Receive) (a : Answer) (o : Option Transfer) → IsDone a → has_bad_key r.part ≡ false
    → transfer_at f r.id ≡ o → receipt_reply f r o ≡ Ok a → IsTaken f r
taken_at f r a None is bad e h = absurd cc
taken_at f r a (Some t) is bad e h =
    let target = Ok_only_if_true (bytes_eq t.target r.branch) _ _ a h in
    let fresh = open_at f t r a (find (has_key (key_of r.part)) (receipts_of t)) is target.1 in
    let account = keeps_to (is_account_text r.account) _ _ fresh.1 in
    let clear = None_only_if_false (is_reserved r.account) _ _ account.1 in
    let some = None_only_if_false (int_le (qty_of t r.part) (pos 0)) _ _ clear.1 in
    let enough = None_only_if_false (is_too_much t r.part) _ _ some.1 in
    let late = None_only_if_false (int_lt r.day.0 t.day.0) _ _ enough.1 in
    let unlocked = None_only_if_false (is_locked (lock_of f r.branch) r.day) _ _ late.1 in
    record {
      transfer = t;
      found = e;
      target = target.0;
      may = may_receive t r bad fresh.0 clear.0 some.0 enough.0 late.0;
      account = account.0;
      unlocked = unlocked.0;
      passes = unlocked.1;
    }

pub receipt_taken : (f : Federation) (r : Receive) (a : Answer) → IsDone a → reply f (cmd.Receive r) ≡ Ok a
    → IsTaken f r
unfolding reply
receipt_taken f r a is h =
    let branch = Ok_only_if_true (has_branch f r.branch) _ _ a h in
    let id = Ok_only_if_true (is_id r.id) _ _ a branch.1 in
    let bad = Ok_only_if_false (has_bad_key r.part) _ _ a id.1 in
    taken_at f r a (transfer_at f r.id) is bad.0 refl bad.1

-- and so is what is received of it
receipt_small : (f : Federation) (t : Transfer) (p : Part) → IsGoodTransfer f.branches t
    → IsGoodRecord f.styles (dispatch_record t) → IsReceipt t p → unsigned_abs p.qty ≤ limit
receipt_small f t p fair written may =
    let low = le_from_int_le (pos 1) p.qty may.part.positive in
    let amount = le_from_int_le (pos 1) t.qty fair.positive in
    let high = left_high t fair.parts (omega (arith, ints)) in
    let within = may.within in
    small_from p.qty t.qty (omega (arith, ints)) (omega (arith, ints)) (amount_small f t written)

-- the record of a receipt can be printed, and has its entry
pub receipt_record_good : (f : Federation) (r : Receive) (t : Transfer) → IsGoodState f → Fits f.styles (cmd.Receive r)
    → transfer_at f r.id ≡ Some t → IsReceipt t (receipt_of t r) → is_account_text r.account ≡ true
    → IsGoodRecord f.styles (receipt_record t (receipt_of t r))
receipt_record_good f r t good fits found may written =
    let fair = found_transfer (IsGoodTransfer f.branches) r.id f.transfers t found good.transfers in
    let here : find (has_id t.id) f.transfers ≡ Some t =
    ap (λ (m : List ℕ). find (has_id m) f.transfers) fair.1 ∙ found in
    let account = and_parts (is_account r.account) (is_utf8 r.account) written in
    let sent = dispatch_written f t good here fair.0 in
    receipt_good f.styles t (receipt_of t r) good.styles fair.0.id (name_known f t.source good fair.0.source)
    (name_known f t.target good fair.0.target) sent may.key
    (receipt_small f t (receipt_of t r) fair.0 sent may) fits.day account.0 account.1

received_good : (f : Federation) (r : Receive) (a : Answer) → IsGoodState f → Fits f.styles (cmd.Receive r)
    → (got : IsTaken f r)
    → IsGoodState (with_received (with_entered f r.branch
    (receipt_record got.transfer (receipt_of got.transfer r) ∷ [])) r.id (receipt_of got.transfer r))
received_good f r a good fits got =
    let t = got.transfer in
    let p = receipt_of t r in
    let fair = found_transfer (IsGoodTransfer f.branches) r.id f.transfers t got.found good.transfers in
    let here : find (has_id t.id) f.transfers ≡ Some t =
    ap (λ (m : List ℕ). find (has_id m) f.transfers) fair.1 ∙ got.found in
    let name = same_bytes t.target r.branch got.target in
    let written = receipt_record_good f r t good fits got.found got.may got.account in
    let passes_ : verdict (book_of f t.target ++ (receipt_record t p).entry ∷ []) ≡ None =
    ap (λ (m : List ℕ). verdict (book_of f m ++ (receipt_record t p).entry ∷ [])) name ∙ got.passes in
    let result = good_received f t p good here fair.0 got.may written passes_ in
    let P : List ℕ → List ℕ → Type 0 = λ m n.
    IsGoodState (with_received (with_entered f m (receipt_record t p ∷ [])) n p) in
    subst (λ m. P m r.id) name (subst (λ n. P t.target n) fair.1 result)

done_receive : (f : Federation) (r : Receive) (a : Answer) → IsDone a → IsGoodState f → Fits f.styles (cmd.Receive r)
    → reply f (cmd.Receive r) ≡ Ok a → IsGoodState (done f (cmd.Receive r))
unfolding done
done_receive f r a is good fits h =
    let got = receipt_taken f r a is h in
    subst (λ (o : Option Transfer). IsGoodState (with_receipt_of f r o)) (sym got.found)
    (received_good f r a good fits got)

-- a closing that was accepted
pub record IsShut (f : Federation) (x : Close) : Type 0 where
  pub txn : Txn
  pub there : has_branch f x.branch ≡ true
  pub fresh : held (records_of f x.branch) (close_mark x.day) ≡ None
  pub chosen : choice_refusal x.choice ≡ None
  pub unlocked : is_locked (lock_of f x.branch) x.day ≡ false
  pub closes : closing_in f x.branch x.day x.choice ≡ Some txn
  pub few : length txn.postings ≤ posting_limit
  pub passes : verdict (book_of f x.branch ++ entries (closing_record x.day txn ∷ [])) ≡ None

closing_within_limit : (held : List Record) (day : Day) (t : Txn) (b : Bool)
    → entering_refusal held day (if b then Err (Plain Limit) else Ok t) ≡ None
    → (b ≡ false) × (verdict (entries held ++ entries (closing_record day t ∷ [])) ≡ None)
closing_within_limit held day t true h = absurd cc
closing_within_limit held day t false h = (refl, h)

shut_at : (f : Federation) (x : Close) (o : Option Txn) → has_branch f x.branch ≡ true
    → held (records_of f x.branch) (close_mark x.day) ≡ None → choice_refusal x.choice ≡ None
    → is_locked (lock_of f x.branch) x.day ≡ false
    → closing_in f x.branch x.day x.choice ≡ o
    → entering_refusal (records_of f x.branch) x.day (closing_answer o) ≡ None → IsShut f x
shut_at f x None there fresh chosen unlocked e h = absurd cc
shut_at f x (Some t) there fresh chosen unlocked e h =
    let parts = closing_within_limit (records_of f x.branch) x.day t (nat_lt posting_limit (length t.postings)) h in
    record {
      txn = t;
      there = there;
      fresh = fresh;
      chosen = chosen;
      unlocked = unlocked;
      closes = e;
      few = not_more (length t.postings) parts.0;
      passes = parts.1;
    }

-- a day that was closed before is answered without anything done
abbrev again : Bool → Result Answer Refusal
again t = if t then Ok Repeated else Err (Plain MarkClash)

not_again : (t : Bool) (a : Answer) → IsDone a → again t ≡ Ok a → ⊥
not_again true Done d h = cc
not_again true (Entered new repeated) d h = cc
not_again true Repeated d h = d
not_again false a d h = cc

closed_fresh : (f : Federation) (x : Close) (o : Option Record) (a : Answer) → IsDone a → closed_reply f x o ≡ Ok a
    → (o ≡ None) × (close_refusal (lock_of f x.branch) (records_of f x.branch) x (closing_in f x.branch x.day x.choice)
    ≡ None)
closed_fresh f x None a is h = (refl, no_refusal Done a _ h)
closed_fresh f x (Some r) a is h =
    absurd (not_again (pointwise bytes_eq r.txn.comments (choice_comments x.choice)) a is h)

pub closing_shut : (f : Federation) (x : Close) (a : Answer) → IsDone a → reply f (cmd.Close x) ≡ Ok a → IsShut f x
unfolding reply
closing_shut f x a is h =
    let there = Ok_only_if_true (has_branch f x.branch) _ _ a h in
    let fresh = closed_fresh f x (held (records_of f x.branch) (close_mark x.day)) a is there.1 in
    let parts = neither_refusal (choice_refusal x.choice) _ fresh.1 in
    let unlocked = None_only_if_false (is_locked (lock_of f x.branch) x.day) _ _ parts.1 in
    shut_at f x (closing_in f x.branch x.day x.choice) there.0 fresh.0 parts.0 unlocked.0 refl unlocked.1

-- a day that is not locked is after the lock day
pub unlocked_forward : (lock : Option Day) (day : Day) → is_locked lock day ≡ false → goes_back lock day ≡ false
unlocked_forward None day h = refl
unlocked_forward (Some lock) day h = grind (arith, ints)

done_close : (f : Federation) (x : Close) (a : Answer) → IsDone a → IsGoodState f → Fits f.styles (cmd.Close x)
    → reply f (cmd.Close x) ≡ Ok a → IsGoodState (done f (cmd.Close x))
unfolding done
done_close f x a is good fits h =
    let s = closing_shut f x a is h in
    let r = closing_record x.day s.txn in
    let marks = own_push (records_of f x.branch) r (own_marks_of f x.branch good) s.fresh in
    subst (λ (o : Option Txn). IsGoodState
    (with_locked (with_entered f x.branch (closing_records x.day o)) x.branch x.day)) (sym s.closes)
    (good_closed f x.branch x.day (r ∷ []) good fits (unlocked_forward (lock_of f x.branch) x.day s.unlocked) marks
    (closing_record_good f x.branch x.day x.choice s.txn good fits s.chosen s.closes s.few, tt)
    (closing_record_own f x.branch x.day x.choice s.txn s.chosen s.closes, tt) s.passes)

-- all commands
done_good : (f : Federation) (c : Command) (a : Answer) → IsDone a → IsGoodState f → Fits f.styles c → reply f c ≡ Ok a
    → IsGoodState (done f c)
done_good f (cmd.Branch name) a is good fits h = done_branch f name a is good h
done_good f (cmd.Commodity style) a is good fits h = done_commodity f style a is good fits h
done_good f (cmd.Enter name file) a is good fits h = done_enter f name file a good fits h
done_good f (cmd.Dispatch d) a is good fits h = done_dispatch f d a is good fits h
done_good f (cmd.Receive r) a is good fits h = done_receive f r a is good fits h
done_good f (cmd.Lock name day) a is good fits h = done_lock f name day a is good fits h
done_good f (cmd.Close x) a is good fits h = done_close f x a is good fits h

abbrev no_memory : Result Answer Refusal
no_memory = Err (Plain OutOfMemory)

pub reply_if_Ok : (f : Federation) (c : Command) (a : Answer) → Replies f c (Ok a) → reply f c ≡ Ok a
reply_if_Ok f c a (inl e) = sym e
reply_if_Ok f c a (inr e) = absurd (let k : Ok a ≡ no_memory = e in cc)

pub after_good : (f : Federation) (c : Command) (r : Result Answer Refusal) → IsGoodState f → Fits f.styles c
    → Replies f c r → IsGoodState (after f c r)
after_good f c (Ok Done) good fits h = done_good f c Done tt good fits (reply_if_Ok f c Done h)
after_good f c (Ok (Entered new repeated)) good fits h =
    done_good f c (Entered new repeated) tt good fits (reply_if_Ok f c (Entered new repeated) h)
after_good f c (Ok Repeated) good fits h = good
after_good f c (Err refusal) good fits h = good

pub run_good : (f : Federation) (turns : List Turn) → IsGoodState f → IsRun f turns → IsGoodState (state_after f turns)
run_good f [] good h = good
run_good f (t ∷ ts) good h = run_good (after_turn f t) ts (after_good f t.command t.reply good h.0 h.1) h.2
