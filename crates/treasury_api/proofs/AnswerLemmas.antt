-- A request is answered by what it asks, or by 40 to 42, whatever it asks; and a line by its request, or by 44.
use Rattle.std.proofs.Common.{◌≡◌, ◌++◌, ◌⊎◌, ℕ, ℤ, List, Bool, IfErr, true, false, not, if◌then◌else◌, Option, Some}
use Rattle.std.proofs.Common.{None, Result, Ok, Err, IsTrue, refl, ap, ◌∙◌, sym, subst, inl, inr, option_map}
use Rattle.std.specs.Prelude.{◌↔◌}
use Rattle.money_core.specs.declared.style.Style.{Style}
use Rattle.money_core.specs.declared.cause.Cause.{Cause}
use Rattle.money_core.specs.declared.cause.Cause.TheVariants.{OutOfMemory, UnknownBranch, Amount, UnknownCommodity}
use Rattle.money_core.specs.declared.cause.Cause.TheVariants.{Decimals, Closed, Damaged, Changed}
use Rattle.money_core.specs.declared.cause.Fault.{Fault}
use Rattle.money_core.specs.Sampling.{style_of}
use Rattle.money_core.specs.Reading.{amount}
use Rattle.book_core.specs.declared.refusal.Refusal.{Refusal}
use Rattle.book_core.specs.declared.refusal.Refusal.TheVariants.{Plain, Text}
use Rattle.journal_format.specs.declared.txn.Located.{Located}
use Rattle.journal_format.specs.Pieces.{Reads}
use Rattle.journal_format.specs.Fault.{IsFirstFault}
use Rattle.treasury_state.specs.Federation.{Federation}
use Rattle.treasury_core.specs.declared.command.Command.{Command as AnyCommand}
use Rattle.treasury_core.specs.declared.command.Command.TheVariants as cmd
use Rattle.treasury_core.specs.declared.command.Answer.TheVariants.{Done}
use Rattle.treasury_core.specs.Fits.{Fits}
use Rattle.treasury_store.specs.Store.{AnswersState}
use Rattle.treasury_store.specs.Treasury.{Treasury, IsTreasuryOf, is_failure}
use Rattle.sqlite.specs.Store.{Ghosts}
use Rattle.treasury_requests.specs.declared.request.Spelled.{Spelled}
use Rattle.treasury_requests.specs.declared.request.Request.{Request}
use Rattle.treasury_requests.specs.declared.request.Request.TheVariants.{Branch as ForBranch, Commodity as ForCommodity}
use Rattle.treasury_requests.specs.declared.request.Request.TheVariants.{Import as ForImport, Dispatch as ForDispatch}
use Rattle.treasury_requests.specs.declared.request.Request.TheVariants.{Receive as ForReceive, Lock as ForLock}
use Rattle.treasury_requests.specs.declared.request.Request.TheVariants.{Close as ForClose}
use Rattle.http_request.specs.declared.call.Form.{Form}
use Rattle.treasury_api.specs.declared.asking.Asked.{Asked}
use Rattle.treasury_api.specs.declared.asking.Asked.TheVariants.{Command, DryRun, Report}
use Rattle.treasury_api.specs.Asked.{asked_by_sample, asked_by_amount, asked_by_part, asked_by_receipt, cut_list}
use Rattle.treasury_api.specs.Asked.{JournalAsks, RequestAsks, or_dry_run, unless_changed, SpelledAsks}
use Rattle.treasury_api.specs.Report.{report_in, has_its_branch}
use Rattle.treasury_api.specs.Replied.{IsRepliedIn, IsAnsweredIn}
use Rattle.treasury_api.specs.Serving.{IsReady, OrMemory}
use Rattle.money_core.proofs.ReadingLemmas.{one_of_causes}
use Rattle.money_core.specs.declared.unit.Unit.{Unit as Commodity}
use Rattle.treasury_api.proofs.ReplyLemmas.{refusal_replied}
use Rattle.treasury_api.proofs.SpelledLemmas.{spelled_refusal}

-- every text has a list or a first fault
abbrev pub ReadsAll : Type 0
ReadsAll = (styles : List Style) (text : List ℕ)
    → ((list : List Located) × Reads styles text list) ⊎ ((fault : Fault) × IsFirstFault styles text fault)

-- every line asks something
journal_asks : ReadsAll → (styles : List Style) (name journal : List ℕ)
    → (asked : Result Asked Refusal) × JournalAsks styles name journal asked
journal_asks law styles name journal = by_reading (law styles journal)
  where
    by_reading : ((list : List Located) × Reads styles journal list)
        ⊎ ((fault : Fault) × IsFirstFault styles journal fault)
        → (asked : Result Asked Refusal) × JournalAsks styles name journal asked
    by_reading (inl (list, reads)) = (Ok (Command (cmd.Enter name list)), inl (list, (reads, refl)))
    by_reading (inr (fault, first)) = (Err (Text fault), inr (fault, (first, refl)))

pub request_asks : ReadsAll → (styles : List Style) (request : Request)
    → (asked : Result Asked Refusal) × RequestAsks styles request asked
request_asks law styles (ForBranch name) = (Ok (Command (cmd.Branch name)), refl)
request_asks law styles (ForCommodity sample) = (asked_by_sample (style_of sample), refl)
request_asks law styles (ForImport name journal) = journal_asks law styles name journal
request_asks law styles (ForDispatch id from to day text account) =
    (asked_by_amount id from to day account (amount styles text), refl)
request_asks law styles (ForReceive id name day account part) = (asked_by_receipt styles id name day account part, refl)
request_asks law styles (ForLock name day) = (Ok (Command (cmd.Lock name day)), refl)
request_asks law styles (ForClose name day accounts into) = (
  Ok (Command (cmd.Close
      (record { branch = name; day = day; choice = record { accounts = option_map cut_list accounts; into = into } }))),
  refl,
)
request_asks law styles request = (Ok (Report request), refl)

pub spelled_asks : ReadsAll → (f : Federation) (request : Spelled)
    → (asked : Result Asked Refusal) × SpelledAsks f request asked
spelled_asks law f request =
    let said = request_asks law f.styles request.request in
    (or_dry_run request.terms.is_dry_run (unless_changed f request said.0), (said.0, (said.1, refl)))

-- ---- a treasury that holds its state, or does not

-- the state could not be had: the reply is 40, 41 or 42, whatever is asked
pub answered_unheld : {S T : Type 0} {form : Form} → ReadsAll
    → (g : Ghosts S) (failed : Bool) (new : Treasury S) (f : Federation) (request : Spelled) (cause : Cause)
    (held : Result (Unit {0}) Cause) (result : Result T Refusal) (before written : List ℕ)
    → held ≡ Err cause → result ≡ Err (Plain cause) → IsTreasuryOf g new f → (held ≡ Err Damaged → ⊥)
    → (failed ≡ false → AnswersState held new.store.failed)
    → (IsTrue failed → (held ≡ Err Closed) × (new.store.failed ≡ failed)) → written ≡ before
    → IsAnsweredIn form g failed new f request result before written
answered_unheld law g true new f request cause held result before written is refuses of undamaged answers closed same =
    let k = closed cc in
    let e : cause ≡ Closed = cause_of held cause Closed is k.0 in (
      Err (Plain Closed),
      (
        refl,
        refusal_replied g true new f (Err (Plain Closed)) (Plain cause) result before written refuses
            (inl (ap (λ (x : Cause). Err (Plain x)) e)) of k.1 same,
      ),
    )
  where
    cause_of : (r : Result (Unit {0}) Cause) (x y : Cause) → r ≡ Err x → r ≡ Err y → x ≡ y
    cause_of r x y h k = cc
answered_unheld {form = form} law g false new f request cause held result before written is refuses of undamaged answers
    closed
    same =
    let asked = spelled_asks law f request in (
      asked.0,
      (
        asked.1,
        by_answer asked.0
            (subst (λ (r : Result (Unit {0}) Cause). AnswersState r new.store.failed) is (answers refl)),
      ),
    )
  where
    by_answer : (asked : Result Asked Refusal) → AnswersState {T = Unit {0}} (Err cause) new.store.failed
        → IsRepliedIn form g false new f asked result before written
    by_answer asked (inl (inl (memory, unfailed))) =
        refusal_replied g false new f asked (Plain cause) result before written refuses
        (inr (inl (ap (λ (x : Cause). Err (Plain x)) memory))) of
        (unfailed ∙ ap (λ (x : Cause). is_failure (Err (Plain x))) (sym memory)) same
    by_answer asked (inl (inr (failed, closes))) =
        refusal_replied g false new f asked (Plain cause) result before written refuses
        (inr (inr (refl, ap (λ (x : Cause). Err (Plain x)) failed))) of
        (closes ∙ ap (λ (x : Cause). is_failure (Err (Plain x))) (sym failed)) same
    by_answer asked (inr (damaged, unfailed)) = absurd (undamaged (is ∙ damaged))

-- a treasury that holds its state has not failed
pub held_unfailed : {P : Type 0} (failed : Bool) (x : Unit {0}) (held : Result (Unit {0}) Cause) → held ≡ Ok x
    → (IsTrue failed → (held ≡ Err Closed) × P) → failed ≡ false
held_unfailed false x held is closed = refl
held_unfailed true x held is closed = absurd (let k = (closed cc).0 in cc)

-- ---- the reply, by what is asked

pub answered_by_reply : {S T : Type 0} {form : Form} (g : Ghosts S) (failed : Bool) (new : Treasury S) (f : Federation)
    (request : Spelled)
    (asked : Result Asked Refusal) (result : Result T Refusal) (before written : List ℕ)
    → failed ≡ false → SpelledAsks f request asked → IsRepliedIn form g false new f asked result before written
    → IsAnsweredIn form g failed new f request result before written
answered_by_reply {form = form} g failed new f request asked result before written unfailed asks replied =
    subst (λ (b : Bool). IsAnsweredIn form g b new f request result before written) (sym unfailed)
    (asked, (asks, replied))

-- what is asked, where the texts are read
pub SpelledAsks_of_same : (f g : Federation) (request : Spelled) (asked other : Asked) → f ≡ g → asked ≡ other
    → OrMemory (SpelledAsks f request) (Ok asked) → SpelledAsks g request (Ok other)
SpelledAsks_of_same f g request asked other same is (inl memory) = absurd cc
SpelledAsks_of_same f g request asked other same is (inr asks) =
    subst (λ (x : Federation). SpelledAsks x request (Ok other)) same
    (subst (λ (x : Asked). SpelledAsks f request (Ok x)) is asks)

-- a command that was read can be performed
pub dry_run_fits : (styles : List Style) (asked : Asked) (c : AnyCommand) → asked ≡ DryRun c
    → IsReady styles (Ok asked) → Fits styles c
dry_run_fits styles asked c is ready = subst (λ (x : Asked). IsReady styles (Ok x)) is ready

pub command_fits : (styles : List Style) (asked : Asked) (c : AnyCommand) → asked ≡ Command c
    → IsReady styles (Ok asked) → Fits styles c
command_fits styles asked c is ready = subst (λ (x : Asked). IsReady styles (Ok x)) is ready

amount_stays : (cause : Cause) → (cause ≡ Amount) ⊎ (cause ≡ UnknownCommodity) ⊎ (cause ≡ Decimals)
    → is_failure (Err (Plain cause)) ≡ false
amount_stays cause (inl e) = ap (λ (x : Cause). is_failure (Err (Plain x))) e
amount_stays cause (inr (inl e)) = ap (λ (x : Cause). is_failure (Err (Plain x))) e
amount_stays cause (inr (inr e)) = ap (λ (x : Cause). is_failure (Err (Plain x))) e

-- no text is refused with 41
texts_stay : (styles : List Style) (request : Request) (refusal : Refusal) → RequestAsks styles request (Err refusal)
    → is_failure (Err refusal) ≡ false
texts_stay styles (ForBranch name) refusal asks = absurd cc
texts_stay styles (ForCommodity sample) refusal asks = by_style (style_of sample) asks
  where
    by_style : (o : Option Style) → Err refusal ≡ asked_by_sample o → is_failure (Err refusal) ≡ false
    by_style None e = let k : refusal ≡ Plain Amount = cc in ap (λ (x : Refusal). is_failure (Err x)) k
    by_style (Some style) e = absurd cc
texts_stay styles (ForImport name journal) refusal (inl reads) = absurd (let e = reads.1.1 in cc)
texts_stay styles (ForImport name journal) refusal (inr (fault, (first, e))) =
    let k : refusal ≡ Text fault = cc in ap (λ (x : Refusal). is_failure (Err x)) k
texts_stay styles (ForDispatch id from to day text account) refusal asks =
    by_amount (amount styles text) (one_of_causes styles text (amount styles text) refl) asks
  where
    by_amount : (r : Result (Commodity × ℤ) Cause)
        → IfErr r (λ cause. (cause ≡ Amount) ⊎ (cause ≡ UnknownCommodity) ⊎ (cause ≡ Decimals))
        → Err refusal ≡ asked_by_amount id from to day account r → is_failure (Err refusal) ≡ false
    by_amount (Ok (unit, qty)) causes e = absurd cc
    by_amount (Err cause) causes e =
        let k : refusal ≡ Plain cause = cc in ap (λ (x : Refusal). is_failure (Err x)) k ∙ amount_stays cause causes
texts_stay styles (ForReceive id name day account None) refusal asks = absurd cc
texts_stay styles (ForReceive id name day account (Some part)) refusal asks =
    by_amount (amount styles part.amount) (one_of_causes styles part.amount (amount styles part.amount) refl) asks
  where
    by_amount : (r : Result (Commodity × ℤ) Cause)
        → IfErr r (λ cause. (cause ≡ Amount) ⊎ (cause ≡ UnknownCommodity) ⊎ (cause ≡ Decimals))
        → Err refusal ≡ asked_by_part id name day account part.key r → is_failure (Err refusal) ≡ false
    by_amount (Ok (unit, qty)) causes e = absurd cc
    by_amount (Err cause) causes e =
        let k : refusal ≡ Plain cause = cc in ap (λ (x : Refusal). is_failure (Err x)) k ∙ amount_stays cause causes
texts_stay styles (ForLock name day) refusal asks = absurd cc
texts_stay styles (ForClose name day accounts into) refusal asks = absurd cc
texts_stay styles request refusal asks = absurd cc

-- nor where the branch has changed
asked_stays : (f : Federation) (request : Spelled) (refusal : Refusal)
    → RequestAsks f.styles request.request (Err refusal) ⊎ (refusal ≡ Plain Changed) → is_failure (Err refusal) ≡ false
asked_stays f request refusal (inl asks) = texts_stay f.styles request.request refusal asks
asked_stays f request refusal (inr changed) = ap (λ (x : Refusal). is_failure (Err x)) changed

-- a refusal of the texts, or since the branch has changed, or want of memory for them
pub refused_texts : {S T : Type 0} {form : Form} → ReadsAll
    → (g : Ghosts S) (failed : Bool) (new : Treasury S) (f : Federation) (request : Spelled) (refusal : Refusal)
    (result : Result T Refusal) (before written : List ℕ)
    → failed ≡ false → OrMemory (SpelledAsks f request) (Err refusal) → result ≡ Err refusal
    → IsTreasuryOf g new f → new.store.failed ≡ false → written ≡ before
    → IsAnsweredIn form g failed new f request result before written
refused_texts law g failed new f request refusal result before written unfailed (inl memory) is of still same =
    let k : refusal ≡ Plain OutOfMemory = cc in
    let asked = spelled_asks law f request in
    answered_by_reply g failed new f request asked.0 result before written unfailed asked.1
    (refusal_replied g false new f asked.0 refusal result before written is (inr (inl (ap (λ (x : Refusal). Err x) k)))
    of (still ∙ ap (λ (x : Refusal). is_failure (Err x)) (sym k)) same)
refused_texts law g failed new f request refusal result before written unfailed (inr asks) is of still same =
    answered_by_reply g failed new f request (Err refusal) result before written unfailed asks
    (refusal_replied g false new f (Err refusal) refusal result before written is (inl refl)
    of (still ∙ sym (asked_stays f request refusal (spelled_refusal f request refusal asks))) same)

-- ---- a report

-- its lines stand after what was written before
pub report_replied : {S T : Type 0} {form : Form} (g : Ghosts S) (new : Treasury S) (f : Federation)
    (report : Request) (x : T)
    (before written : List ℕ) → IsTreasuryOf g new f → new.store.failed ≡ false
    → has_its_branch f report ≡ true → written ≡ before ++ report_in form f report
    → IsRepliedIn form g false new f (Ok (Report report)) (Ok x) before written
report_replied g new f report x before written of still there said = record {
  reply = Ok Done;
  replies = inl (ap (λ (t : Bool). if not t then Err (Plain UnknownBranch) else Ok Done) (sym there));
  of = of;
  left = still;
  text = (Done, (refl, said));
}

-- its branch is not there, or memory is refused
pub report_refused : {S T : Type 0} {form : Form} (g : Ghosts S) (new : Treasury S) (f : Federation)
    (report : Request) (cause : Cause)
    (made : Result (Unit {0}) Cause) (result : Result T Refusal) (before written : List ℕ) → made ≡ Err cause
    → result ≡ Err (Plain cause) → IsTreasuryOf g new f → new.store.failed ≡ false
    → (made ≡ Err UnknownBranch) ↔ (has_its_branch f report ≡ false) → (cause ≡ UnknownBranch) ⊎ (cause ≡ OutOfMemory)
    → written ≡ before
    → IsRepliedIn form g false new f (Ok (Report report)) result before written
report_refused g new f report cause made result before written is refuses of still unknown (inl nowhere) same =
    let none = unknown.0 (is ∙ ap (λ (x : Cause). Err x) nowhere) in
    refusal_replied g false new f (Ok (Report report)) (Plain cause) result before written refuses
    (inl (ap (λ (x : Cause). Err (Plain x)) nowhere ∙ ap
    (λ (t : Bool). if not t then Err (Plain UnknownBranch) else Ok Done) (sym none))) of
    (still ∙ ap (λ (x : Cause). is_failure (Err (Plain x))) (sym nowhere)) same
report_refused g new f report cause made result before written is refuses of still unknown (inr memory) same =
    refusal_replied g false new f (Ok (Report report)) (Plain cause) result before written refuses
    (inr (inl (ap (λ (x : Cause). Err (Plain x)) memory))) of
    (still ∙ ap (λ (x : Cause). is_failure (Err (Plain x))) (sym memory)) same

-- a report that is made is on a branch that is there
pub is_there : (t : Bool) (x : Unit {0}) (made : Result (Unit {0}) Cause) → made ≡ Ok x
    → (made ≡ Err UnknownBranch) ↔ (t ≡ false) → t ≡ true
is_there true x made is unknown = refl
is_there false x made is unknown = absurd (let k = unknown.1 refl in cc)
