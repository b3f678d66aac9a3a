-- What a treasury replies to what is asked.
use Rattle.std.proofs.Common.{◌≡◌, ◌++◌, ℕ, List, [], MatchResult, Bool, true, false, ◌||◌, Option, Some, Result, Ok}
use Rattle.std.proofs.Common.{Err, refl, ap, ◌∙◌, sym, subst, inl, inr, IsTrue}
use Rattle.std.specs.Prelude.{IfSome}
use Rattle.sqlite.specs.Store.{Ghosts}
use Rattle.money_core.specs.declared.style.Style.{Style}
use Rattle.money_core.specs.declared.cause.Cause.TheVariants.{OutOfMemory, Store as Failed}
use Rattle.book_core.specs.declared.refusal.Refusal.{Refusal}
use Rattle.book_core.specs.declared.refusal.Refusal.TheVariants.{Plain, Text, ClaimFailed}
use Rattle.treasury_state.specs.Federation.{Federation}
use Rattle.treasury_state.specs.Good.{IsGoodState}
use Rattle.treasury_core.specs.declared.command.Answer.{Answer}
use Rattle.treasury_core.specs.declared.command.Command.{Command as AnyCommand}
use Rattle.treasury_core.specs.Fits.{Fits}
use Rattle.treasury_core.specs.Step.{reply as command_reply, delta}
use Rattle.treasury_core.specs.Run.{Replies as Steps}
use Rattle.treasury_store.specs.Treasury.{Treasury, IsTreasuryOf, Performs, FailsBy, AddsNothing, is_failure}
use Rattle.treasury_store.specs.Treasury.{RepliesOrFails as MayPerform}
use Rattle.http_request.specs.declared.call.Form.{Form}
use Rattle.treasury_api.specs.declared.asking.Asked.{Asked}
use Rattle.treasury_api.specs.declared.asking.Asked.TheVariants.{Command, DryRun, Report}
use Rattle.treasury_api.specs.Answer.{answer_text, IsPrintableRefusal}
use Rattle.treasury_api.specs.Step.{MayReplyAsked, after_asked}
use Rattle.treasury_api.specs.Replied.{IsRepliedIn, IsPrintableIn, body_of}
use Rattle.treasury_api.specs.Serving.{IsHeldFor}
use Rattle.treasury_api.proofs.PrintableLemmas.{decided_printable}

-- ---- whether a call of the database has failed

pub failure_is : (r : Result Answer Refusal) → is_failure r ≡ true → r ≡ Err (Plain Failed)
failure_is (Ok answer) h = absurd cc
failure_is (Err (Plain Failed)) h = refl
failure_is (Err (Plain _)) h = absurd cc
failure_is (Err (Text fault)) h = absurd cc
failure_is (Err (ClaimFailed failure)) h = absurd cc

-- a call fails just where it is replied to by 41
pub failed_by : (r : Result Answer Refusal) (failed : Bool) → FailsBy r failed → failed ≡ is_failure r
failed_by r failed by = either (is_failure r) refl failed by
  where
    either : (t : Bool) → is_failure r ≡ t → (failed : Bool) → FailsBy r failed → failed ≡ is_failure r
    either true e true by = sym e
    either true e false by = let k : IsTrue false = by.1 (failure_is r e) in absurd cc
    either false e true by = absurd (let k : is_failure r ≡ true = ap is_failure (by.0 cc) in cc)
    either false e false by = sym e

-- ---- what is refused

after_refusal : (f : Federation) (asked : Result Asked Refusal) (refusal : Refusal)
    → after_asked f asked (Err refusal) ≡ f
after_refusal f (Ok (Command c)) refusal = refl
after_refusal f (Ok (DryRun c)) refusal = refl
after_refusal f (Ok (Report report)) refusal = refl
after_refusal f (Err e) refusal = refl

pub refusal_is : {T : Type 0} (r : Result T Refusal) (refusal other : Refusal) → r ≡ Err refusal → r ≡ Err other
    → refusal ≡ other
refusal_is r refusal other h k = cc

refusal_text : {T : Type 0} (form : Form) (f : Federation) (asked : Result Asked Refusal) (r : Result Answer Refusal)
    (refusal : Refusal) (result : Result T Refusal) (before written : List ℕ) → r ≡ Err refusal → result ≡ Err refusal
    → written ≡ before → MatchResult result
    (λ _. (answer : Answer) × ((r ≡ Ok answer) × (written ≡ before ++ body_of form f asked answer)))
    (λ e. (r ≡ Err e) × (written ≡ before))
refusal_text form f asked r refusal (Ok x) before written replied is same = absurd cc
refusal_text form f asked r refusal (Err e) before written replied is same =
    let k : refusal ≡ e = refusal_is (Err e) refusal e is refl in
    (replied ∙ ap (λ (x : Refusal). Err x) k, same)

-- a refusal leaves the state
pub refusal_replied : {S T : Type 0} {form : Form} (g : Ghosts S) (failed : Bool) (new : Treasury S) (f : Federation)
    (asked : Result Asked Refusal) (refusal : Refusal) (result : Result T Refusal) (before written : List ℕ)
    → result ≡ Err refusal → MayReplyAsked (record { now = f; failed = failed }) asked (Err refusal)
    → IsTreasuryOf g new f → new.store.failed ≡ (failed || is_failure (Err refusal)) → written ≡ before
    → IsRepliedIn form g failed new f asked result before written
refusal_replied {form = form} g failed new f asked refusal result before written is replies of left same = record {
  reply = Err refusal;
  replies = replies;
  of = subst (IsTreasuryOf g new) (sym (after_refusal f asked refusal)) of;
  left = left;
  text = refusal_text form f asked (Err refusal) refusal result before written refl is same;
}

-- want of memory
pub refused_memory : {S T : Type 0} {form : Form} (g : Ghosts S) (new : Treasury S) (f : Federation)
    (asked : Result Asked Refusal)
    (result : Result T Refusal) (before written : List ℕ)
    → result ≡ Err (Plain OutOfMemory) → IsTreasuryOf g new f → new.store.failed ≡ false → written ≡ before
    → IsRepliedIn form g false new f asked result before written
refused_memory g new f asked result before written is of unfailed same =
    refusal_replied g false new f asked (Plain OutOfMemory) result before written is (inr (inl refl)) of unfailed same

-- ---- a command

-- each line of an answer that is no refusal is the same under all commodities
pub same_line : (styles : List Style) (answer : Answer) → answer_text [] (Ok answer) ≡ answer_text styles (Ok answer)
unfolding answer_text
same_line styles answer = refl

may_reply : (f : Federation) (c : AnyCommand) (r : Result Answer Refusal) → MayPerform f c r
    → MayReplyAsked (record { now = f; failed = false }) (Ok (Command c)) r
may_reply f c r (inl (inl step)) = inl step
may_reply f c r (inl (inr memory)) = inr (inl memory)
may_reply f c r (inr failed) = inr (inr (refl, failed))

pub performed_replied : {S T : Type 0} {form : Form} (g : Ghosts S) (new : Treasury S) (f : Federation) (c : AnyCommand)
    (r : Result Answer Refusal) (result : Result T Refusal) (before written : List ℕ)
    → Performs g new f c r → FailsBy r new.store.failed
    → MatchResult result (λ _. (answer : Answer) × ((r ≡ Ok answer) × (written ≡ before ++ answer_text [] (Ok answer))))
    (λ refusal. (r ≡ Err refusal) × (written ≡ before))
    → IsRepliedIn form g false new f (Ok (Command c)) result before written
performed_replied {T = T} g new f c r result before written performs fails text = record {
  reply = r;
  replies = may_reply f c r performs.replies;
  of = performs.next;
  left = failed_by r new.store.failed fails;
  text = under_styles result text;
}
  where
    under_styles : (x : Result T Refusal)
        → MatchResult x (λ _. (answer : Answer) × ((r ≡ Ok answer) × (written ≡ before ++ answer_text [] (Ok answer))))
        (λ refusal. (r ≡ Err refusal) × (written ≡ before))
        → MatchResult x (λ _. (answer : Answer)
        × ((r ≡ Ok answer) × (written ≡ before ++ answer_text f.styles (Ok answer))))
        (λ refusal. (r ≡ Err refusal) × (written ≡ before))
    under_styles (Ok x) t = (t.0, (t.1.0, t.1.1 ∙ ap (λ (line : List ℕ). before ++ line) (same_line f.styles t.0)))
    under_styles (Err e) t = t

-- under the commodities of the state in memory
pub in_memory : {S : Type 0} (t : Treasury S) (s : Federation) (refusal : Refusal) → t.held ≡ Some s
    → IsPrintableRefusal s.styles refusal → IsPrintableIn t refusal
in_memory t s (Plain cause) held printable = tt
in_memory t s (Text fault) held printable = (s, (held, printable))
in_memory t s (ClaimFailed failure) held printable = (s, (held, printable))

-- what a command is refused with can be printed: a refusal by the step leaves the state in memory
pub refusal_printable : {S : Type 0} (old new : Treasury S) (s : Federation) (c : AnyCommand)
    (r : Result Answer Refusal) (refusal : Refusal) → r ≡ Err refusal → old.held ≡ Some s → IsGoodState s
    → Fits s.styles c
    → MayPerform s c r → (AddsNothing s c → new ≡ old) → IsPrintableIn new refusal
refusal_printable old new s c r refusal is held good fits (inl (inl step)) same =
    let refused : command_reply s c ≡ Err refusal = sym step ∙ is in
    let nothing : AddsNothing s c = ap (delta s c) refused in
    in_memory new s refusal (ap (λ (t : Treasury _). t.held) (same nothing) ∙ held)
    (decided_printable s c refusal good fits (inr refused))
refusal_printable old new s c r refusal is held good fits (inl (inr memory)) same =
    subst (IsPrintableIn new) (refusal_is r (Plain OutOfMemory) refusal memory is) tt
refusal_printable old new s c r refusal is held good fits (inr failed) same =
    subst (IsPrintableIn new) (refusal_is r (Plain Failed) refusal failed is) tt

pub at_held : (o : Option Federation) (s : Federation) (P : Federation → Type 0) → o ≡ Some s → IfSome o P → P s
at_held o s P is h = subst (λ (x : Option Federation). IfSome x P) is h

pub refusal_held : {S : Type 0} (old new : Treasury S) (c : AnyCommand) (r : Result Answer Refusal) (refusal : Refusal)
    → r ≡ Err refusal → IsHeldFor old c
    → IfSome old.held (λ s. MayPerform s c r) → IfSome old.held (λ s. AddsNothing s c → Steps s c r × (new ≡ old))
    → IsPrintableIn new refusal
refusal_held old new c r refusal is (s, (held, (fits, good))) replies same =
    refusal_printable old new s c r refusal is held good fits (at_held old.held s (λ x. MayPerform x c r) held replies)
    (λ nothing. (at_held old.held s (λ x. AddsNothing x c → Steps x c r × (new ≡ old)) held same nothing).1)

-- the command fits the state that the treasury is of
pub fits_of : {S : Type 0} (g : Ghosts S) (t : Treasury S) (f : Federation) (c : AnyCommand) → IsTreasuryOf g t f
    → IsHeldFor t c → Fits f.styles c
fits_of g t f c of (s, (held, (fits, good))) =
    let same : s ≡ f = at_held t.held s (λ x. x ≡ f) held of.held in
    subst (λ (x : Federation). Fits x.styles c) same fits

-- the state in memory is the one that the treasury is of
pub state_is : {S : Type 0} (g : Ghosts S) (t : Treasury S) (s f : Federation) → IsTreasuryOf g t f → t.held ≡ Some s
    → s ≡ f
state_is g t s f of held = at_held t.held s (λ x. x ≡ f) held of.held
