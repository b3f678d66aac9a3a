-- What is replied to a dry run.
use Rattle.std.proofs.Common.{◌≡◌, ◌++◌, ◌⊎◌, ℕ, List, [], Bool, true, false, Option, None, Some}
use Rattle.std.proofs.Common.{Result, Ok, Err, IfErr, OnOk, OnErr, refl, ap, ◌∙◌, sym, subst, inl, inr}
use Rattle.sqlite.specs.Store.{Ghosts}
use Rattle.money_core.specs.declared.style.Style.{Style}
use Rattle.money_core.specs.declared.cause.Cause.{Cause}
use Rattle.money_core.specs.declared.cause.Cause.TheVariants.{OutOfMemory, Store as Failed}
use Rattle.book_core.specs.declared.refusal.Refusal.{Refusal}
use Rattle.book_core.specs.declared.refusal.Refusal.TheVariants.{Plain}
use Rattle.treasury_state.specs.declared.delta.Addition.{Addition}
use Rattle.treasury_state.specs.Federation.{Federation}
use Rattle.treasury_state.specs.Good.{IsGoodState}
use Rattle.treasury_core.specs.declared.command.Answer.{Answer}
use Rattle.treasury_core.specs.declared.command.Command.{Command as AnyCommand}
use Rattle.treasury_core.specs.Fits.{Fits}
use Rattle.treasury_core.specs.Step.{reply as command_reply, delta, Decides}
use Rattle.treasury_core.specs.Run.{Replies as Steps}
use Rattle.treasury_store.specs.Treasury.{Treasury, IsTreasuryOf, IsListedRefusal, is_failure}
use Rattle.treasury_store.proofs.OwnRefusalLemmas.{reply_not_failed, listed_reply}
use Rattle.http_request.specs.declared.call.Form.{Form}
use Rattle.treasury_api.specs.declared.asking.Asked.TheVariants.{DryRun}
use Rattle.treasury_requests.specs.declared.request.Spelled.{Spelled}
use Rattle.treasury_api.specs.Asked.{SpelledAsks}
use Rattle.treasury_api.specs.Beside.{IsAddedAhead}
use Rattle.treasury_api.specs.Answer.{answer_text}
use Rattle.treasury_api.specs.Step.{MayReplyAsked}
use Rattle.treasury_api.specs.Left.{FailsWith}
use Rattle.treasury_api.specs.Replied.{IsRepliedIn, IsPrintableIn}
use Rattle.treasury_api.specs.Serving.{IsForeseen}
use Rattle.treasury_api.proofs.PrintableLemmas.{decided_printable}
use Rattle.treasury_api.proofs.ReplyLemmas.{in_memory, failure_is, same_line}
use Rattle.treasury_api.proofs.LeftLemmas.{fails_not}

-- ---- what is foreseen

-- the line of an answer, which is the same under all commodities
pub foreseen_done : (f : Federation) (c : AnyCommand) (answer : Answer) (styles : List Style) (before written : List ℕ)
    → Steps f c (Ok answer) → written ≡ before ++ answer_text styles (Ok answer)
    → IsForeseen {T = Unit {0}} f c (Ok tt) before written
foreseen_done f c answer styles before written steps said = (
  Ok answer,
  (
    steps,
    (
      answer,
      (
        refl,
        said ∙ ap (λ (line : List ℕ). before ++ line) (sym (same_line styles answer) ∙ same_line f.styles answer),
      ),
    ),
  ),
)

-- a refusal
pub foreseen_refused : (f : Federation) (c : AnyCommand) (refusal : Refusal) (before written : List ℕ)
    → Steps f c (Err refusal) → written ≡ before → IsForeseen {T = Unit {0}} f c (Err refusal) before written
foreseen_refused f c refusal before written steps same = (Err refusal, (steps, (refl, same)))

-- want of memory for the line
pub foreseen_memory : (f : Federation) (c : AnyCommand) (cause : Cause) (before written : List ℕ)
    → cause ≡ OutOfMemory → written ≡ before → IsForeseen {T = Unit {0}} f c (Err (Plain cause)) before written
foreseen_memory f c cause before written memory same =
    foreseen_refused f c (Plain cause) before written (inr (ap (λ (x : Cause). Err (Plain x)) memory)) same

-- ---- what is replied

-- no step is replied to by 41
steps_unfailed : (f : Federation) (c : AnyCommand) (r : Result Answer Refusal) → Steps f c r → is_failure r ≡ false
steps_unfailed f c r steps = either (is_failure r) refl steps
  where
    either : (t : Bool) → is_failure r ≡ t → Steps f c r → is_failure r ≡ false
    either false e steps = e
    either true e (inl step) = absurd (reply_not_failed f c (sym step ∙ failure_is r e))
    either true e (inr memory) = ap is_failure memory

may_reply : (f : Federation) (c : AnyCommand) (r : Result Answer Refusal) → Steps f c r
    → MayReplyAsked (record { now = f; failed = false }) (Ok (DryRun c)) r
may_reply f c r (inl step) = inl step
may_reply f c r (inr memory) = inr (inl memory)

pub dry_run_replied : {S T : Type 0} {form : Form} (g : Ghosts S) (new : Treasury S) (f : Federation) (c : AnyCommand)
    (result : Result T Refusal) (before written : List ℕ) → IsTreasuryOf g new f → new.store.failed ≡ false
    → IsForeseen f c result before written → IsRepliedIn form g false new f (Ok (DryRun c)) result before written
dry_run_replied g new f c result before written of still (r, (steps, text)) = record {
  reply = r;
  replies = may_reply f c r steps;
  of = of;
  left = still ∙ sym (steps_unfailed f c r steps);
  text = text;
}

-- ---- what a refusal is

-- it is refused by the step, or for want of memory
refusal_steps : (T : Type 0) (f : Federation) (c : AnyCommand) (e : Refusal) (before written : List ℕ)
    → IsForeseen {T = T} f c (Err e) before written → Steps f c (Err e)
refusal_steps T f c e before written (r, (steps, (is, same))) = subst (Steps f c) is steps

pub foreseen_listed : {T : Type 0} (f : Federation) (c : AnyCommand) (result : Result T Refusal)
    (before written : List ℕ) → IsForeseen f c result before written → IfErr result IsListedRefusal
foreseen_listed f c (Ok x) before written is = tt
foreseen_listed {T = T} f c (Err e) before written is =
    listed_reply f c (Err e) (inl (refusal_steps T f c e before written is))

pub foreseen_printable : {S T : Type 0} (t : Treasury S) (f : Federation) (c : AnyCommand) (result : Result T Refusal)
    (before written : List ℕ) → t.held ≡ Some f → IsGoodState f → Fits f.styles c
    → IsForeseen f c result before written → IfErr result (IsPrintableIn t)
foreseen_printable t f c (Ok x) before written held good fits is = tt
foreseen_printable {T = T} t f c (Err e) before written held good fits is =
    in_memory t f e held (decided_printable f c e good fits (refused (refusal_steps T f c e before written is)))
  where
    err_is : (a b : Refusal) → ◌≡◌ {A = Result Answer Refusal} (Err a) (Err b) → a ≡ b
    err_is a b same = cc

    refused : Steps f c (Err e) → (e ≡ Plain OutOfMemory) ⊎ (command_reply f c ≡ Err e)
    refused (inl step) = inr (sym step)
    refused (inr memory) = inl (err_is e (Plain OutOfMemory) memory)

pub foreseen_unfailed : {T : Type 0} (f : Federation) (c : AnyCommand) (result : Result T Refusal)
    (before written : List ℕ) (failed : Bool) → failed ≡ false → IsForeseen f c result before written
    → FailsWith result failed
foreseen_unfailed {T = T} f c result before written failed unfailed is =
    fails_not result failed unfailed (λ e. not_failed e)
  where
    not_failed : result ≡ Err (Plain Failed) → ⊥
    not_failed e =
        let steps = refusal_steps T f c (Plain Failed) before written
        (subst (λ (r : Result T Refusal). IsForeseen f c r before written) e is) in
        let k : true ≡ false = steps_unfailed f c (Err (Plain Failed)) steps in cc

pub foreseen_same : {T : Type 0} (f : Federation) (c : AnyCommand) (result : Result T Refusal) (before written : List ℕ)
    → IsForeseen f c result before written → OnErr result (written ≡ before)
foreseen_same f c (Ok x) before written is = tt
foreseen_same f c (Err e) before written (r, (steps, (is, same))) = same

-- ---- what is added

pub what_is_added : (f : Federation) (c : AnyCommand) (answer : Answer) (added : List Addition)
    → Decides f c (Ok (answer, added)) → added ≡ delta f c (command_reply f c)
what_is_added f c answer added (replied, is) = is ∙ ap (λ (r : Result Answer Refusal). delta f c r) (sym replied)

-- what is added in the state that memory holds
pub added_ahead : {T : Type 0} (held : Option Federation) (f : Federation) (request : Spelled) (c : AnyCommand)
    (added : Option (List Addition)) (result : Result T Refusal) → held ≡ Some f → SpelledAsks f request (Ok (DryRun c))
    → OnOk result (added ≡ Some (delta f c (command_reply f c))) → OnOk result (IsAddedAhead held request added)
added_ahead held f request c added (Ok x) is asks same = (f, is, c, asks, same)
added_ahead held f request c added (Err e) is asks same = tt

-- what is decided, of a command that is refused
pub refused_steps : (f : Federation) (c : AnyCommand) (e : Refusal) → Decides f c (Err e) → Steps f c (Err e)
refused_steps f c e (inl memory) = inr (ap (λ (x : Refusal). Err x) memory)
refused_steps f c e (inr refused) = inl (sym refused)
