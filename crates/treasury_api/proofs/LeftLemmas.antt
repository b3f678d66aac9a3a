-- What a request leaves of a treasury, and why it is refused.
use Rattle.std.proofs.Common.{◌≡◌, ◌⊎◌, ℕ, ℤ, List, Bool, true, false, IfErr, Option, Some, None, Result, Ok, Err}
use Rattle.std.proofs.Common.{OnOk, IsTrue, refl, ap, ◌∙◌, sym, subst, inl, inr}
use Rattle.sqlite.specs.Store.{Ghosts}
use Rattle.sqlite.specs.Held.{Held, state}
use Rattle.money_core.specs.declared.style.Style.{Style}
use Rattle.money_core.specs.declared.unit.Unit.{Unit as Commodity}
use Rattle.money_core.specs.declared.cause.Cause.{Cause}
use Rattle.money_core.specs.declared.cause.Cause.TheVariants.{OutOfMemory, UnknownBranch, Amount, UnknownCommodity}
use Rattle.money_core.specs.declared.cause.Cause.TheVariants.{Decimals, Closed, Damaged, Store as Failed}
use Rattle.money_core.specs.declared.cause.Fault.{Fault}
use Rattle.money_core.specs.Sampling.{style_of}
use Rattle.money_core.specs.Reading.{amount}
use Rattle.money_core.proofs.ReadingLemmas.{one_of_causes}
use Rattle.book_core.specs.declared.refusal.Refusal.{Refusal}
use Rattle.book_core.specs.declared.refusal.Refusal.TheVariants.{Plain, Text}
use Rattle.journal_format.specs.declared.txn.Located.{Located}
use Rattle.journal_format.proofs.FaultLemmas.{one_list, no_fault_read, one_fault}
use Rattle.treasury_state.specs.Federation.{Federation}
use Rattle.treasury_state.specs.Rows.{rows}
use Rattle.treasury_core.specs.declared.command.Answer.{Answer}
use Rattle.treasury_core.specs.declared.command.Command.{Command as AnyCommand}
use Rattle.treasury_core.specs.declared.command.Command.TheVariants as cmd
use Rattle.treasury_tables.specs.Kept.{ShutsByFault, IsFaithful}
use Rattle.treasury_tables.specs.Rows.{Tables}
use Rattle.treasury_store.specs.Store.{TablesAreWhileOpen, AnswersState}
use Rattle.treasury_store.specs.Treasury.{Treasury, IsTreasuryOf, FailsBy, is_by_rules}
use Rattle.treasury_store.specs.Left.{LeavesRows, LeavesEither, LeavesSame, LeavesStep}
use Rattle.treasury_requests.specs.declared.request.Spelled.{Spelled}
use Rattle.treasury_requests.specs.declared.request.Request.{Request}
use Rattle.treasury_requests.specs.declared.request.Request.TheVariants.{Branch as ForBranch, Commodity as ForCommodity}
use Rattle.treasury_requests.specs.declared.request.Request.TheVariants.{Import as ForImport, Dispatch as ForDispatch}
use Rattle.treasury_requests.specs.declared.request.Request.TheVariants.{Receive as ForReceive, Lock as ForLock}
use Rattle.treasury_requests.specs.declared.request.Request.TheVariants.{Close as ForClose}
use Rattle.treasury_api.specs.declared.asking.Asked.{Asked}
use Rattle.treasury_api.specs.declared.asking.Asked.TheVariants.{Command}
use Rattle.treasury_api.specs.Asked.{asked_by_sample, asked_by_amount, asked_by_part, JournalAsks, RequestAsks, AsksOf}
use Rattle.treasury_api.specs.Asked.{or_dry_run, unless_changed, SpelledAsks}
use Rattle.treasury_api.specs.Serving.{IsHeldFor, OrMemory}
use Rattle.treasury_api.proofs.SpelledLemmas.{spelled_refusal}
use Rattle.treasury_api.specs.Left.{FailsWith, IsUnread, IsOpenBut, KeepsDatabase, LeavesAsked, LeavesRequest}
use Rattle.treasury_api.proofs.ReplyLemmas.{fits_of}

-- ---- a request asks one thing

journal_once : (styles : List Style) (name journal : List ℕ) (one other : Result Asked Refusal)
    → JournalAsks styles name journal one → JournalAsks styles name journal other → one ≡ other
journal_once styles name journal one other (inl (list, (reads, is))) (inl (more, (also, same))) =
    is ∙ (ap (λ (xs : List Located). Ok (Command (cmd.Enter name xs))) (one_list styles journal list more reads also) ∙
    sym same)
journal_once styles name journal one other (inl (list, (reads, is))) (inr (fault, (first, same))) =
    absurd (no_fault_read styles journal list fault reads first)
journal_once styles name journal one other (inr (fault, (first, is))) (inl (list, (reads, same))) =
    absurd (no_fault_read styles journal list fault reads first)
journal_once styles name journal one other (inr (fault, (first, is))) (inr (more, (also, same))) =
    is ∙ (ap (λ (x : Fault). Err (Text x)) (one_fault styles journal fault more first also) ∙ sym same)

request_once : (styles : List Style) (request : Request) (one other : Result Asked Refusal)
    → RequestAsks styles request one → RequestAsks styles request other → one ≡ other
request_once styles (ForBranch name) one other a b = a ∙ sym b
request_once styles (ForCommodity sample) one other a b = a ∙ sym b
request_once styles (ForImport name journal) one other a b = journal_once styles name journal one other a b
request_once styles (ForDispatch id from to day text account) one other a b = a ∙ sym b
request_once styles (ForReceive id name day account part) one other a b = a ∙ sym b
request_once styles (ForLock name day) one other a b = a ∙ sym b
request_once styles (ForClose name day accounts into) one other a b = a ∙ sym b
request_once styles request one other a b = a ∙ sym b

spelled_once : (f : Federation) (request : Spelled) (one other : Result Asked Refusal)
    → SpelledAsks f request one → SpelledAsks f request other → one ≡ other
spelled_once f request one other (said, (asks, is)) (again, (also, same)) =
    is ∙ (ap (λ (r : Result Asked Refusal). or_dry_run request.terms.is_dry_run (unless_changed f request r))
    (request_once f.styles request.request said again asks also) ∙ sym same)

-- ---- what is left

-- while a connection is open, whatever is left of it are the rows that it shows
abbrev pub LeavesShown : {S : Type 0} → Ghosts S → Type 0
LeavesShown {S = S} g = (h : Held S) (t : Tables) → TablesAreWhileOpen g h t → IsTrue (state g h).is_open
    → LeavesRows g h t

pub leaves_first : {S : Type 0} (g : Ghosts S) (h : Held S) (t u : Tables) → LeavesRows g h t → LeavesEither g h t u
leaves_first g h t u left clean trees may = inl (left clean trees may)

-- nothing was committed
pub left_same : {S : Type 0} (g : Ghosts S) (old new : Treasury S) (request : Spelled)
    → LeavesSame g old.store.conn new.store.conn → LeavesRequest g old new request
left_same g old new request same clean is_open f of asked asks =
    leaves_first g new.store.conn (rows f) _ (same is_open (rows f) of.store.tables)

-- a command, after the loading of the state
pub left_command : {S : Type 0} (g : Ghosts S) (old mid new : Treasury S) (request : Spelled) (c : AnyCommand)
    → (IsFaithful g new.store.conn → IsFaithful g mid.store.conn)
    → (IsFaithful g mid.store.conn → IsTrue (state g old.store.conn).is_open
    → IsTrue (state g mid.store.conn).is_open)
    → (IsFaithful g mid.store.conn → (f : Federation) → IsTreasuryOf g old f → IsTreasuryOf g mid f)
    → old.store.failed ≡ false → IsHeldFor mid c
    → ((f : Federation) → IsTreasuryOf g mid f → SpelledAsks f request (Ok (Command c)))
    → LeavesStep g mid new c → LeavesRequest g old new request
left_command g old mid new request c cleaner opens of_mid unfailed held means step clean is_open f of asked asks =
    let there = of_mid (cleaner clean) f of in
    let same : Ok (Command c) ≡ asked =
    spelled_once f request (Ok (Command c)) asked (means f there)
    (subst (λ (b : Bool). AsksOf b f request asked) unfailed asks) in
    subst (λ (a : Result Asked Refusal). LeavesAsked g new.store.conn f a) same
    (step (opens (cleaner clean) is_open) f there (fits_of g mid f c there held))

-- ---- whether the database is open

plain_is : {T : Type 0} (a b : Cause) → ◌≡◌ {A = Result T Refusal} (Err (Plain a)) (Err (Plain b)) → a ≡ b
plain_is a b same = cc

cause_is : {T : Type 0} (a b : Cause) → ◌≡◌ {A = Result T Cause} (Err a) (Err b) → a ≡ b
cause_is a b same = cc

err_is : {T : Type 0} (a b : Refusal) → ◌≡◌ {A = Result T Refusal} (Err a) (Err b) → a ≡ b
err_is a b same = cc

-- where it is done
open_done : {S T : Type 0} (g : Ghosts S) (new : Held S) (result : Result T Refusal) → IsOpenBut g new result
    → OnOk result (IsTrue (state g new).is_open)
open_done g new (Ok x) (inl still) = still
open_done g new (Ok x) (inr failed) = absurd cc
open_done g new (Err refusal) but = tt

pub keeps_database : {S T : Type 0} (g : Ghosts S) (old new : Held S) (result : Result T Refusal)
    → (IsFaithful g new → IsTrue (state g old).is_open → IsOpenBut g new result) → ShutsByFault g old new
    → KeepsDatabase g old new result
keeps_database g old new result but shuts = record {
  still_open = λ clean is_open. open_done g new result (but clean is_open);
  open_but = but;
  shuts = shuts;
}

-- where a command is refused
pub open_refused : {S X T : Type 0} (g : Ghosts S) (new : Held S) (refusal : Refusal)
    → IsTrue (state g new).is_open ⊎ (◌≡◌ {A = Result X Refusal} (Err refusal) (Err (Plain Failed)))
    → IsOpenBut {T = T} g new (Err refusal)
open_refused g new refusal (inl still) = inl still
open_refused {X = X} g new refusal (inr failed) =
    inr (ap (λ (e : Refusal). Err e) (err_is {T = X} refusal (Plain Failed) failed))

-- where the state of a treasury could not be had
pub open_unheld : {S X T : Type 0} (g : Ghosts S) (new : Held S) (cause : Cause)
    → IsTrue (state g new).is_open ⊎ (◌≡◌ {A = Result X Cause} (Err cause) (Err Failed))
    → IsOpenBut {T = T} g new (Err (Plain cause))
open_unheld g new cause (inl still) = inl still
open_unheld {X = X} g new cause (inr failed) =
    inr (ap (λ (x : Cause). Err (Plain x)) (cause_is {T = X} cause Failed failed))

-- ---- whether a call of the database fails

pub fails_not : {T : Type 0} (result : Result T Refusal) (failed : Bool) → failed ≡ false
    → (result ≡ Err (Plain Failed) → ⊥) → FailsWith result failed
fails_not result failed unfailed other =
    ((λ is. absurd (let clash : true ≡ false = sym is ∙ unfailed in cc)), (λ is. absurd (other is)))

-- the state could not be had
pub fails_unheld : {T X : Type 0} (cause : Cause) (failed : Bool) → AnswersState {T = X} (Err cause) failed
    → FailsWith {T = T} (Err (Plain cause)) failed
fails_unheld {T = T} cause failed (inl (inl (memory, unfailed))) =
    fails_not (Err (Plain cause)) failed unfailed
    (λ is. let clash : OutOfMemory ≡ Failed = sym memory ∙ plain_is {T = T} cause Failed is in absurd cc)
fails_unheld cause failed (inl (inr (failure, is_so))) =
    ((λ is. ap (λ (x : Cause). Err (Plain x)) failure), (λ is. is_so))
fails_unheld {T = T} {X = X} cause failed (inr (damaged, unfailed)) =
    fails_not (Err (Plain cause)) failed unfailed
    (λ is. let clash : Damaged ≡ Failed =
    sym (cause_is {T = X} cause Damaged damaged) ∙ plain_is {T = T} cause Failed is in absurd cc)

-- a command is refused, or not
pub fails_refused : {T : Type 0} (refusal : Refusal) (failed : Bool) → FailsBy (Err refusal) failed
    → FailsWith {T = T} (Err refusal) failed
fails_refused {T = T} refusal failed by = (
  (λ is. ap (λ (x : Refusal). Err x) (err_is {T = Answer} refusal (Plain Failed) (by.0 is))),
  (λ is. by.1 (ap (λ (x : Refusal). Err x) (err_is {T = T} refusal (Plain Failed) is))),
)

pub fails_done : {T : Type 0} (answer : Answer) (x : T) (failed : Bool) → FailsBy (Ok answer) failed
    → FailsWith (Ok x) failed
fails_done answer x failed by = ((λ is. absurd (let clash = by.0 is in cc)), (λ is. absurd cc))

-- ---- why a request is refused

pub unread_state : {T X : Type 0} (cause : Cause) (failed : Bool) → AnswersState {T = X} (Err cause) failed
    → IsUnread {T = T} (Err (Plain cause))
unread_state cause failed (inl (inl (memory, unfailed))) = inr (inl (ap (λ (x : Cause). Err (Plain x)) memory))
unread_state cause failed (inl (inr (failure, is_so))) = inr (inr (ap (λ (x : Cause). Err (Plain x)) failure))
unread_state {X = X} cause failed (inr (damaged, unfailed)) =
    inl (ap (λ (x : Cause). Err (Plain x)) (cause_is {T = X} cause Damaged damaged))

-- after a call that failed
pub refused_closed : {T X : Type 0} (cause : Cause) → ◌≡◌ {A = Result X Cause} (Err cause) (Err Closed)
    → ◌≡◌ {A = Result T Refusal} (Err (Plain cause)) (Err (Plain Closed))
refused_closed {X = X} cause closed = ap (λ (x : Cause). Err (Plain x)) (cause_is {T = X} cause Closed closed)

amount_ruled : (cause : Cause) → (cause ≡ Amount) ⊎ (cause ≡ UnknownCommodity) ⊎ (cause ≡ Decimals)
    → is_by_rules (Plain cause) ≡ true
amount_ruled cause (inl e) = ap (λ (x : Cause). is_by_rules (Plain x)) e
amount_ruled cause (inr (inl e)) = ap (λ (x : Cause). is_by_rules (Plain x)) e
amount_ruled cause (inr (inr e)) = ap (λ (x : Cause). is_by_rules (Plain x)) e

-- a refusal of the texts is one by the rules
texts_ruled : (styles : List Style) (request : Request) (refusal : Refusal) → RequestAsks styles request (Err refusal)
    → is_by_rules refusal ≡ true
texts_ruled styles (ForBranch name) refusal asks = absurd cc
texts_ruled styles (ForCommodity sample) refusal asks = by_style (style_of sample) asks
  where
    by_style : (o : Option Style) → Err refusal ≡ asked_by_sample o → is_by_rules refusal ≡ true
    by_style None e = let k : refusal ≡ Plain Amount = cc in ap (λ (x : Refusal). is_by_rules x) k
    by_style (Some style) e = absurd cc
texts_ruled styles (ForImport name journal) refusal (inl reads) = absurd (let e = reads.1.1 in cc)
texts_ruled styles (ForImport name journal) refusal (inr (fault, (first, e))) =
    let k : refusal ≡ Text fault = cc in ap (λ (x : Refusal). is_by_rules x) k
texts_ruled styles (ForDispatch id from to day text account) refusal asks =
    by_amount (amount styles text) (one_of_causes styles text (amount styles text) refl) asks
  where
    by_amount : (r : Result (Commodity × ℤ) Cause)
        → IfErr r (λ cause. (cause ≡ Amount) ⊎ (cause ≡ UnknownCommodity) ⊎ (cause ≡ Decimals))
        → Err refusal ≡ asked_by_amount id from to day account r → is_by_rules refusal ≡ true
    by_amount (Ok (unit, qty)) causes e = absurd cc
    by_amount (Err cause) causes e =
        let k : refusal ≡ Plain cause = cc in ap (λ (x : Refusal). is_by_rules x) k ∙ amount_ruled cause causes
texts_ruled styles (ForReceive id name day account None) refusal asks = absurd cc
texts_ruled styles (ForReceive id name day account (Some part)) refusal asks =
    by_amount (amount styles part.amount) (one_of_causes styles part.amount (amount styles part.amount) refl) asks
  where
    by_amount : (r : Result (Commodity × ℤ) Cause)
        → IfErr r (λ cause. (cause ≡ Amount) ⊎ (cause ≡ UnknownCommodity) ⊎ (cause ≡ Decimals))
        → Err refusal ≡ asked_by_part id name day account part.key r → is_by_rules refusal ≡ true
    by_amount (Ok (unit, qty)) causes e = absurd cc
    by_amount (Err cause) causes e =
        let k : refusal ≡ Plain cause = cc in ap (λ (x : Refusal). is_by_rules x) k ∙ amount_ruled cause causes
texts_ruled styles (ForLock name day) refusal asks = absurd cc
texts_ruled styles (ForClose name day accounts into) refusal asks = absurd cc
texts_ruled styles request refusal asks = absurd cc

pub ruled_texts : (f : Federation) (request : Spelled) (refusal : Refusal)
    → OrMemory (SpelledAsks f request) (Err refusal) → is_by_rules refusal ≡ true
ruled_texts f request refusal (inl memory) =
    let k : refusal ≡ Plain OutOfMemory = cc in ap (λ (x : Refusal). is_by_rules x) k
ruled_texts f request refusal (inr asks) = elim (spelled_refusal f request refusal asks) [
  | inl texts ↦ texts_ruled f.styles request.request refusal texts
  | inr changed ↦ ap (λ (x : Refusal). is_by_rules x) changed
]

-- and so is that of a report
pub ruled_report : (cause : Cause) → (cause ≡ UnknownBranch) ⊎ (cause ≡ OutOfMemory) → is_by_rules (Plain cause) ≡ true
ruled_report cause (inl nowhere) = ap (λ (x : Cause). is_by_rules (Plain x)) nowhere
ruled_report cause (inr memory) = ap (λ (x : Cause). is_by_rules (Plain x)) memory

-- no refusal by the rules is 41
pub fails_ruled : {T : Type 0} (refusal : Refusal) (failed : Bool) → is_by_rules refusal ≡ true → failed ≡ false
    → FailsWith {T = T} (Err refusal) failed
fails_ruled {T = T} refusal failed ruled unfailed =
    fails_not (Err refusal) failed unfailed
    (λ is. let clash : true ≡ false =
    sym ruled ∙ ap (λ (x : Refusal). is_by_rules x) (err_is {T = T} refusal (Plain Failed) is) in absurd cc)
