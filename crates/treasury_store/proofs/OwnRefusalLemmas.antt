-- a step is refused by the rules of commands alone
use Rattle.std.proofs.Common.{◌≡◌, ◌⊎◌, ◌∙◌, inl, inr, ℕ, Bool, true, false, not, List, [], ◌∷◌, ◌++◌, refl, sym, ap}
use Rattle.std.proofs.Common.{IsTrue, Some, None, Ok, Err, nat_le, nat_lt, length, slice_get, subst}
use Rattle.std.specs.Prelude.{if◌then◌else◌, Result, Option, IfSome, IfErr, is_some, int_le, int_lt, pos, find}
use Rattle.std.specs.Cmp.Lexicographic.{pointwise}
use Rattle.std.specs.List.{list_all, list_any}
use Rattle.std.specs.Str.{bytes_eq}
use Rattle.std.specs.Option.{option_or, option_map}
use Rattle.money_core.specs.declared.cause.Cause.{Cause}
use Rattle.money_core.specs.declared.cause.Cause.TheVariants.{Full, CommodityExists, UnknownBranch, BranchName}
use Rattle.money_core.specs.declared.cause.Cause.TheVariants.{MarkClash, ReservedMark, ReservedAccount, Locked}
use Rattle.money_core.specs.declared.cause.Cause.TheVariants.{SameBranch, WrongBranch, AlreadyReceived, TooEarly}
use Rattle.money_core.specs.declared.cause.Cause.TheVariants.{TooMuch, LockBack, BadAccount, BadAmount, BadId, Limit}
use Rattle.money_core.specs.declared.cause.Cause.TheVariants.{OutOfMemory, Store as Failed, Damaged}
use Rattle.money_core.specs.declared.style.Style.{Style}
use Rattle.money_core.specs.declared.day.Day.{Day}
use Rattle.money_core.specs.declared.unit.Declared.TheVariants.{New, Same}
use Rattle.money_core.specs.Style.{declared, declared_at, declared_with, max_commodities, style_eq}
use Rattle.book_core.specs.declared.entry.Entry.{Entry}
use Rattle.book_core.specs.declared.refusal.Failure.{Failure}
use Rattle.book_core.specs.declared.refusal.Refusal.{Refusal}
use Rattle.book_core.specs.declared.refusal.Refusal.TheVariants.{Plain, ClaimFailed}
use Rattle.book_core.specs.GoodBook.{verdict, most_entries, is_over}
use Rattle.book_core.specs.Claim.{failure}
use Rattle.journal_format.specs.declared.txn.Txn.{Txn}
use Rattle.journal_format.specs.declared.txn.Located.{Located}
use Rattle.journal_format.specs.Pieces.{posting_limit}
use Rattle.treasury_state.specs.declared.record.Record.{Record}
use Rattle.treasury_state.specs.declared.transfer.Part.{Part}
use Rattle.treasury_state.specs.declared.transfer.Transfer.{Transfer}
use Rattle.treasury_state.specs.Federation.{Federation, is_branch_name, most_branches, has_branch, records_of, lock_of}
use Rattle.treasury_state.specs.Federation.{entries, is_locked}
use Rattle.treasury_state.specs.Mark.{held, is_held, is_repeat, is_product_mark, close_mark}
use Rattle.treasury_state.specs.Transfer.{is_id, is_account_text, is_reserved, is_transit, receipts_of, transfer_at}
use Rattle.treasury_core.specs.declared.command.Answer.{Answer}
use Rattle.treasury_core.specs.declared.command.Answer.TheVariants.{Done, Repeated}
use Rattle.treasury_core.specs.declared.command.Dispatch.{Dispatch}
use Rattle.treasury_core.specs.declared.choice.Choice.{Choice}
use Rattle.treasury_core.specs.declared.command.Receive.{Receive}
use Rattle.treasury_core.specs.declared.command.Close.{Close}
use Rattle.treasury_core.specs.declared.command.Command.{Command}
use Rattle.treasury_core.specs.declared.command.Command.TheVariants as cmd
use Rattle.treasury_core.specs.Choice.{is_selected, target_in, listed_names, list_text, choice_comments, list_limit}
use Rattle.treasury_core.specs.Choice.{holds_transit, choice_refusal}
use Rattle.treasury_core.specs.Closing.{closing_record, closing_answer, closing_in}
use Rattle.treasury_core.specs.Step.{unless, reply, commodity_reply, fault_on, unbalanced, barred, refused_in}
use Rattle.treasury_core.specs.Step.{file_refusal, dispatch_refusal, receipt_refusal, receipt_reply, is_dispatched_so}
use Rattle.treasury_core.specs.Step.{is_received_so, entering_refusal, close_refusal, closed_reply, is_lock, goes_back}
use Rattle.treasury_core.specs.Step.{held_reply, key_of, qty_of, has_key, is_too_much, has_bad_key, has_nothing_left}
use Rattle.treasury_store.specs.Store.{AnswersState}
use Rattle.treasury_store.specs.Treasury.{FailsBy, RepliesOrFails, is_by_rules, IsListedRefusal}

abbrev IsOwn : Refusal → Type 0
IsOwn e = is_by_rules e ≡ true

IsOwnReply : Result Answer Refusal → Type 0
IsOwnReply r = IfErr r IsOwn

IsOwnFault : Option Refusal → Type 0
IsOwnFault o = IfSome o IsOwn

none_own : IsOwnFault None
unfolding IsOwnFault
none_own = tt

ok_own : (a : Answer) → IsOwnReply (Ok a)
unfolding IsOwnReply
ok_own a = tt

err_own : (e : Refusal) → IsOwn e → IsOwnReply (Err e)
unfolding IsOwnReply
err_own e own = own

-- a case of a reply, and of a fault
own_if_Err : (t : Bool) (e : Refusal) (r : Result Answer Refusal) → IsOwn e → IsOwnReply r
    → IsOwnReply (if t then Err e else r)
unfolding IsOwnReply
own_if_Err true e r own rest = own
own_if_Err false e r own rest = rest

own_if_Ok : (t : Bool) (a : Answer) (r : Result Answer Refusal) → IsOwnReply r → IsOwnReply (if t then Ok a else r)
unfolding IsOwnReply
own_if_Ok true a r rest = tt
own_if_Ok false a r rest = rest

own_if_Some : (t : Bool) (e : Refusal) (o : Option Refusal) → IsOwn e → IsOwnFault o
    → IsOwnFault (if t then Some e else o)
unfolding IsOwnFault
own_if_Some true e o own rest = own
own_if_Some false e o own rest = rest

own_if_either : (t : Bool) (o p : Option Refusal) → IsOwnFault o → IsOwnFault p → IsOwnFault (if t then o else p)
own_if_either true o p one two = one
own_if_either false o p one two = two

first_of : (o p : Option Refusal) → IsOwnFault o → IsOwnFault p → IsOwnFault (option_or o p)
unfolding IsOwnFault
first_of None p one two = two
first_of (Some e) p one two = one

own_unless : (a : Answer) (o : Option Refusal) → IsOwnFault o → IsOwnReply (unless a o)
unfolding IsOwnReply IsOwnFault
own_unless a None own = tt
own_unless a (Some e) own = own

own_claim : (o : Option Failure) → IsOwnFault (option_map ClaimFailed o)
unfolding IsOwnFault
own_claim None = tt
own_claim (Some failure) = refl

own_verdict : (b : List Entry) → IsOwnFault (verdict b)
unfolding verdict
own_verdict b = own_if_Some (nat_lt most_entries (length b)) (Plain Full) _ refl
    (own_if_Some (is_over b) (Plain Limit) _ refl (own_claim (failure b)))

own_same : (t : Bool) (place : ℕ)
    → IsOwnReply (commodity_reply (if t then Ok (Same (record { 0 = place })) else Err CommodityExists))
own_same true place = ok_own _
own_same false place = err_own _ refl

own_with : (style : Style) (place : ℕ) (o : Option Style) → IsOwnReply (commodity_reply (declared_with style place o))
own_with style place None = err_own _ refl
own_with style place (Some held) = own_same (style_eq held style) place

own_room : (t : Bool) (place : ℕ)
    → IsOwnReply (commodity_reply (if t then Err Full else Ok (New (record { 0 = place }))))
own_room true place = err_own _ refl
own_room false place = ok_own _

own_at : (styles : List Style) (style : Style) (o : Option ℕ)
    → IsOwnReply (commodity_reply (declared_at styles style o))
own_at styles style (Some place) = own_with style place (slice_get styles place)
own_at styles style None = own_room (nat_le max_commodities (length styles)) (length styles)

own_commodity : (styles : List Style) (style : Style) → IsOwnReply (commodity_reply (declared styles style))
unfolding declared
own_commodity styles style = own_at styles style _

own_line : (line : ℕ) (r : Result Entry Cause) → IsOwnFault (fault_on line r)
unfolding IsOwnFault
own_line line (Ok e) = tt
own_line line (Err cause) = refl

own_unbalanced : (styles : List Style) (file : List Located) → IsOwnFault (unbalanced styles file)
own_unbalanced styles [] = none_own
own_unbalanced styles (x ∷ xs) = first_of _ _ (own_line x.line _) (own_unbalanced styles xs)

own_barred : (lock : Option Day) (r : Record) → IsOwnFault (barred lock r)
own_barred lock r =
    own_if_Some (is_product_mark r.mark) (Plain ReservedMark) _ refl
    (own_if_Some (list_any is_transit r.entry.legs) (Plain ReservedAccount) _ refl
    (own_if_Some (is_locked lock r.entry.day) (Plain Locked) _ refl none_own))

own_refused : (styles : List Style) (lock : Option Day) (held rs : List Record)
    → IsOwnFault (refused_in styles lock held rs)
own_refused styles lock held [] = none_own
own_refused styles lock held (r ∷ rs) =
    own_if_either (is_repeat styles held r) _ _ (own_refused styles lock held rs)
    (first_of _ _ (own_if_Some (is_held held r.mark) (Plain MarkClash) _ refl (own_barred lock r))
    (own_refused styles lock (held ++ r ∷ []) rs))

own_file : (styles : List Style) (lock : Option Day) (held : List Record) (file : List Located)
    → IsOwnFault (file_refusal styles lock held file)
own_file styles lock held file =
    first_of _ _ (own_unbalanced styles file) (first_of _ _ (own_refused styles lock held _) (own_verdict _))

own_dispatch : (lock : Option Day) (held : List Record) (d : Dispatch) → IsOwnFault (dispatch_refusal lock held d)
own_dispatch lock held d =
    own_if_Some (not (is_account_text d.account)) (Plain BadAccount) _ refl
    (own_if_Some (is_reserved d.account) (Plain ReservedAccount) _ refl
    (own_if_Some (int_le d.qty (pos 0)) (Plain BadAmount) _ refl
    (own_if_Some (is_locked lock d.day) (Plain Locked) _ refl (own_verdict _))))

own_receipt : (lock : Option Day) (held : List Record) (t : Transfer) (r : Receive)
    → IsOwnFault (receipt_refusal lock held t r)
own_receipt lock held t r =
    own_if_Some (not (is_account_text r.account)) (Plain BadAccount) _ refl
    (own_if_Some (is_reserved r.account) (Plain ReservedAccount) _ refl
    (own_if_Some (int_le (qty_of t r.part) (pos 0)) (Plain BadAmount) _ refl
    (own_if_Some (is_too_much t r.part) (Plain TooMuch) _ refl
    (own_if_Some (int_lt r.day.0 t.day.0) (Plain TooEarly) _ refl
    (own_if_Some (is_locked lock r.day) (Plain Locked) _ refl (own_verdict _))))))

own_held : (f : Federation) (t : Transfer) (r : Receive) (o : Option Part) → IsOwnReply (held_reply f t r o)
own_held f t r (Some p) = own_if_Ok (is_received_so t r p) Repeated _ (err_own _ refl)
own_held f t r None =
    own_if_Err (has_nothing_left t r.part) (Plain AlreadyReceived) _ refl
    (own_unless Done _ (own_receipt (lock_of f r.branch) (records_of f r.branch) t r))

own_received : (f : Federation) (r : Receive) (o : Option Transfer) → IsOwnReply (receipt_reply f r o)
own_received f r None = err_own _ refl
own_received f r (Some t) =
    own_if_Err (not (bytes_eq t.target r.branch)) (Plain WrongBranch) _ refl
    (own_held f t r (find (has_key (key_of r.part)) (receipts_of t)))

abbrev IsOwnAnswer : Result Txn Refusal → Type 0
IsOwnAnswer r = IfErr r IsOwn

own_limited : (t : Bool) (txn : Txn) → IsOwnAnswer (if t then Err (Plain Limit) else Ok txn)
own_limited true txn = refl
own_limited false txn = tt

own_closed : (o : Option Txn) → IsOwnAnswer (closing_answer o)
own_closed None = refl
own_closed (Some t) = own_limited (nat_lt posting_limit (length t.postings)) t

own_entering : (held : List Record) (day : Day) (r : Result Txn Refusal) → IsOwnAnswer r
    → IsOwnFault (entering_refusal held day r)
unfolding IsOwnFault
own_entering held day (Ok t) own = own_verdict (entries held ++ entries (closing_record day t ∷ []))
own_entering held day (Err e) own = own

own_choice : (c : Choice) → IsOwnFault (choice_refusal c)
own_choice c =
    own_if_Some (not (list_all is_account_text (listed_names c.accounts))) (Plain BadAccount) _ refl
    (own_if_Some (not (is_account_text (target_in c.into))) (Plain BadAccount) _ refl
    (own_if_Some (list_any holds_transit (listed_names c.accounts)) (Plain ReservedAccount) _ refl
    (own_if_Some (is_reserved (target_in c.into)) (Plain ReservedAccount) _ refl
    (own_if_Some (is_selected c.accounts (target_in c.into)) (Plain BadAccount) _ refl
    (own_if_Some (nat_lt list_limit (length (list_text (listed_names c.accounts)))) (Plain Limit) _ refl none_own)))))

own_close : (lock : Option Day) (held : List Record) (x : Close) (o : Option Txn)
    → IsOwnFault (close_refusal lock held x o)
own_close lock held x o =
    first_of _ _ (own_choice x.choice)
    (own_if_Some (is_locked lock x.day) (Plain Locked) _ refl
    (own_entering held x.day (closing_answer o) (own_closed o)))

own_closing : (f : Federation) (x : Close) (o : Option Record) → IsOwnReply (closed_reply f x o)
own_closing f x None =
    own_unless Done _ (own_close (lock_of f x.branch) (records_of f x.branch) x (closing_in f x.branch x.day x.choice))
own_closing f x (Some r) =
    own_if_Ok (pointwise bytes_eq r.txn.comments (choice_comments x.choice)) Repeated _ (err_own _ refl)

own_reply : (f : Federation) (c : Command) → IsOwnReply (reply f c)
unfolding reply
own_reply f (cmd.Branch name) =
    own_if_Err (not (is_branch_name name)) (Plain BranchName) _ refl (own_if_Ok (has_branch f name) Repeated _
    (own_if_Err (nat_le most_branches (length f.branches)) (Plain Full) _ refl (ok_own Done)))
own_reply f (cmd.Commodity style) = own_commodity f.styles style
own_reply f (cmd.Enter name file) =
    own_if_Err (not (has_branch f name)) (Plain UnknownBranch) _ refl
    (own_unless _ _ (own_file f.styles (lock_of f name) (records_of f name) file))
own_reply f (cmd.Dispatch d) =
    own_if_Err (not (has_branch f d.source)) (Plain UnknownBranch) _ refl
    (own_if_Err (not (has_branch f d.target)) (Plain UnknownBranch) _ refl
    (own_if_Err (bytes_eq d.source d.target) (Plain SameBranch) _ refl
    (own_if_Err (not (is_id d.id)) (Plain BadId) _ refl
    (own_if_Ok (is_dispatched_so d (transfer_at f d.id)) Repeated _
    (own_if_Err (is_some (transfer_at f d.id)) (Plain MarkClash) _ refl
    (own_unless Done _ (own_dispatch (lock_of f d.source) (records_of f d.source) d)))))))
own_reply f (cmd.Receive r) =
    own_if_Err (not (has_branch f r.branch)) (Plain UnknownBranch) _ refl
    (own_if_Err (not (is_id r.id)) (Plain BadId) _ refl
    (own_if_Err (has_bad_key r.part) (Plain BadId) _ refl (own_received f r (transfer_at f r.id))))
own_reply f (cmd.Lock name day) =
    own_if_Err (not (has_branch f name)) (Plain UnknownBranch) _ refl
    (own_if_Ok (is_lock (lock_of f name) day) Repeated _
    (own_if_Err (goes_back (lock_of f name) day) (Plain LockBack) _ refl (ok_own Done)))
own_reply f (cmd.Close x) = own_if_Err (not (has_branch f x.branch)) (Plain UnknownBranch) _ refl
    (own_closing f x (held (records_of f x.branch) (close_mark x.day)))

own_is : (r : Result Answer Refusal) → IsOwnReply r → r ≡ Err (Plain Failed) → ⊥
unfolding IsOwnReply
own_is r own is = let failed : false ≡ true = subst (λ (x : Result Answer Refusal). IsOwnReply x) is own in absurd cc

-- no step is refused with 41
pub reply_not_failed : (f : Federation) (c : Command) → reply f c ≡ Err (Plain Failed) → ⊥
reply_not_failed f c is = own_is (reply f c) (own_reply f c) is

-- a refused command has not failed
pub refused_unfailed : (f : Federation) (c : Command) (e : Refusal) (failed : Bool) → failed ≡ false
    → (e ≡ Plain OutOfMemory) ⊎ (reply f c ≡ Err e) → FailsBy (Err e) failed
refused_unfailed f c e failed unfailed (inl memory) = ((λ is. absurd cc), (λ is. absurd cc))
refused_unfailed f c e failed unfailed (inr refused) =
    ((λ is. absurd cc), (λ is. absurd (reply_not_failed f c (refused ∙ is))))

own_err : (r : Result Answer Refusal) → IsOwnReply r → IfErr r (λ e. IsTrue (is_by_rules e))
unfolding IsOwnReply
own_err r own = own

-- what may be replied to a command is refused by the rules, or by 41
pub listed_reply : (f : Federation) (c : Command) (r : Result Answer Refusal) → RepliesOrFails f c r
    → IfErr r IsListedRefusal
listed_reply f c (Ok answer) replies = tt
listed_reply f c (Err e) (inl (inl step)) =
    inl (subst (λ (r : Result Answer Refusal). IfErr r (λ x. IsTrue (is_by_rules x))) (sym step)
    (own_err (reply f c) (own_reply f c)))
listed_reply f c (Err e) (inl (inr memory)) =
    let k : e ≡ Plain OutOfMemory = cc in inl (subst (λ (x : Refusal). IsTrue (is_by_rules x)) (sym k) refl)
listed_reply f c (Err e) (inr failed) = let k : e ≡ Plain Failed = cc in inr (inl k)

-- and so is a command on a state that could not be had
pub listed_unheld : {T : Type 0} (cause : Cause) (failed : Bool) → AnswersState {T = T} (Err cause) failed
    → IsListedRefusal (Plain cause)
listed_unheld cause failed (inl (inl memory)) =
    inl (subst (λ (x : Cause). IsTrue (is_by_rules (Plain x))) (sym memory.0) refl)
listed_unheld cause failed (inl (inr failure)) = inr (inl (ap Plain failure.0))
listed_unheld {T = T} cause failed (inr damaged) = inr (inr (ap Plain (same {T = T} damaged.0)))
  where
    same : {T : Type 0} → ◌≡◌ {A = Result T Cause} (Err cause) (Err Damaged) → cause ≡ Damaged
    same e = cc
