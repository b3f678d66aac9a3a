-- A call is answered on a treasury, and a connection served.
use Rattle.std.proofs.Math.Bool.{or-true}
use Rattle.std.proofs.Common.{◌≡◌, ◌≢◌, ◌<◌, ◌⊎◌, ◌++◌, ℕ, List, [], ◌∷◌, length, Bool, true, false, Option, Some}
use Rattle.std.proofs.Common.{None, Result, Ok, Err, IsTrue, MatchOption, ◌||◌, take, codes, refl, ap, ◌∙◌, sym, subst}
use Rattle.std.proofs.Common.{inl, inr, IfOk, OnErr, ◌==◌, if◌then◌else◌}
use Rattle.std.proofs.Math.Path.{path_j, subst_refl}
use Rattle.std.specs.Io.KnownBytes.{Appends}
use Rattle.sqlite.specs.Store.{Ghosts}
use Rattle.sqlite.specs.Held.{Held, state}
use Rattle.http_request.specs.declared.call.Call.{Call}
use Rattle.http_request.specs.declared.call.Form.{Form}
use Rattle.http_request.specs.declared.call.Form.TheVariants as form
use Rattle.http_request.specs.Call.{IsStopped}
use Rattle.money_core.specs.declared.cause.Cause.{Cause}
use Rattle.money_core.specs.declared.cause.Cause.TheVariants.{OutOfMemory, ReadFault, WriteFault}
use Rattle.money_core.specs.declared.cause.Cause.TheVariants.{Store as Failed}
use Rattle.money_core.specs.Cause.{cause_number}
use Rattle.book_core.specs.declared.refusal.Refusal.{Refusal}
use Rattle.book_core.specs.declared.refusal.Refusal.TheVariants.{Plain, Text, ClaimFailed}
use Rattle.treasury_state.specs.Federation.{Federation}
use Rattle.treasury_core.specs.declared.command.Answer.{Answer}
use Rattle.treasury_core.specs.Run.{Turn}
use Rattle.treasury_tables.specs.Kept.{IsFaithful}
use Rattle.treasury_store.specs.Treasury.{Treasury, IsTreasuryOf, is_failure}
use Rattle.treasury_store.proofs.LeftLemmas.{shuts_same}
use Rattle.treasury_requests.specs.declared.request.Spelled.{Spelled}
use Rattle.treasury_api.specs.declared.asking.Asked.{Asked}
use Rattle.treasury_api.specs.Answer.{answer_text}
use Rattle.treasury_api.specs.Step.{Standing, after_asked}
use Rattle.treasury_api.specs.Left.{FailsWith, IsOpenBut, LeavesAsked, LeavesRequest}
use Rattle.treasury_api.specs.Replied.{standing}
use Rattle.treasury_api.specs.History.{command_if}
use Rattle.treasury_api.specs.OneRequest.{AnswersAs, RepliesAs, is_refusal, command_of}
use Rattle.treasury_api.specs.WebReply.{status_of, status_of_number, form_of_reply, whole_reply}
use Rattle.treasury_api.specs.Web.{asked_by, IsNoAnswer, IsBodyIn, AnswersCall, AnswersOn}
use Rattle.treasury_api.specs.Web.{IsRefusal44, AnswersRead, FailsCallBy}
use Rattle.treasury_api.specs.Web.{ServesOne, AnsweredCall, AreServed, turns_of_calls, OneFails, LeavesCalls, HasServed}
use Rattle.treasury_api.specs.WebServing.{IsToldBy, LeavesReplied}
use Rattle.treasury_api.proofs.ReplyLemmas.{state_is, refusal_is, failure_is}
use Rattle.treasury_api.proofs.ServeLemmas.{plain_line}
use Rattle.treasury_api.proofs.OneRequestLemmas.{IsToldAs, IsRunTo, request_run, request_leaves}

-- ---- the status of a refusal

-- the line of a refusal, and its cause, on the treasury that is of the state
pub told_as : {S : Type 0} (g : Ghosts S) (new : Treasury S) (f : Federation) (refusal : Refusal) (cause : Cause)
    (status : ℕ) (text : List ℕ) → IsTreasuryOf g new f → IsToldBy new refusal cause text
    → status ≡ status_of_number (cause_number cause)
    → IsToldAs f refusal text (λ (reply : Result Answer Refusal). status ≡ status_of reply)
told_as g new f (Plain because) cause status text of (said, is) code =
    inl (said ∙ plain_line f.styles because, code ∙ ap (λ (c : Cause). status_of_number (cause_number c)) is)
told_as g new f (Text fault) cause status text of (s, (held, inl (memory, is))) code =
    inr (
      memory ∙ plain_line f.styles OutOfMemory,
      refl,
      code
          ∙ ap (λ (c : Cause). status_of_number (cause_number c)) is,
    )
told_as g new f (Text fault) cause status text of (s, (held, inr (said, is))) code =
    inl (
      said ∙ ap (λ (x : Federation). answer_text x.styles (Err (Text fault))) (state_is g new s f of held),
      code ∙ ap (λ (c : Cause). status_of_number (cause_number c)) is,
    )
told_as g new f (ClaimFailed failure) cause status text of (s, (held, inl (memory, is))) code =
    inr (
      memory ∙ plain_line f.styles OutOfMemory,
      refl,
      code
          ∙ ap (λ (c : Cause). status_of_number (cause_number c)) is,
    )
told_as g new f (ClaimFailed failure) cause status text of (s, (held, inr (said, is))) code =
    inl (
      said ∙ ap (λ (x : Federation). answer_text x.styles (Err (ClaimFailed failure))) (state_is g new s f of held),
      code ∙ ap (λ (c : Cause). status_of_number (cause_number c)) is,
    )

-- ---- whether the database is open after a refusal

-- the status of a plain refusal
plain_status : {S : Type 0} (new : Treasury S) (refusal : Refusal) (because cause : Cause) (status : ℕ) (text : List ℕ)
    → IsToldBy new refusal cause text → status ≡ status_of_number (cause_number cause) → refusal ≡ Plain because
    → status ≡ status_of_number (cause_number because)
plain_status new refusal because cause status text told code is =
    code ∙ ap (λ (c : Cause). status_of_number (cause_number c))
    (subst (λ (r : Refusal). IsToldBy new r cause text) is told).1

-- by 41 it is 503, and the store has failed
pub open_but_failed : {S T : Type 0} (g : Ghosts S) (old new : Treasury S) (result : Result T Refusal)
    (refusal : Refusal) (cause : Cause) (status : ℕ) (text : List ℕ) → result ≡ Err refusal
    → IsToldBy new refusal cause text → status ≡ status_of_number (cause_number cause)
    → IsTrue (state g old.store.conn).is_open → (old.store.failed ≡ false → FailsWith result new.store.failed)
    → (IsTrue old.store.failed → new ≡ old) → IsOpenBut g new.store.conn result
    → IsTrue (state g new.store.conn).is_open ⊎ ((status ≡ 503) × IsTrue new.store.failed)
open_but_failed g old new result refusal cause status text is told code is_open fails closed (inl still) = inl still
open_but_failed {S = S} g old new result refusal cause status text is told code is_open fails closed (inr failed) =
    either old.store.failed refl
  where
    either : (before : Bool) → old.store.failed ≡ before
        → IsTrue (state g new.store.conn).is_open ⊎ ((status ≡ 503) × IsTrue new.store.failed)
    either true was =
        inl (subst (λ (t : Treasury S). IsTrue (state g t.store.conn).is_open) (sym (closed was)) is_open)
    either false was = inr (
      plain_status new refusal Failed cause status text told code (refusal_is result refusal (Plain Failed) is failed),
      (fails was).1 failed,
    )

-- ---- a call

-- one that asks nothing
pub nothing_answered : {S : Type 0} (g : Ghosts S) (t : Treasury S) (form : Form) (call : Call) (status : ℕ)
    (body : List ℕ) → asked_by call ≡ None → IsNoAnswer form call status body → AnswersOn g t form call status body t
nothing_answered g t form call status body none said =
    record {
      clean = λ k. k;
      answers = λ k f of. (f, (of, inl (none, said, refl)));
      left = subst (λ (o : Option Spelled). MatchOption o (t ≡ t) (LeavesRequest g t t)) (sym none) refl;
      open_but = λ k is_open. inl is_open;
      shuts = shuts_same g t.store.conn;
      closed = λ failed. refl;
    }

-- the same of the reply that was made
pub told_nothing : {S : Type 0} (g : Ghosts S) (t : Treasury S) (form : Form) (call : Call) (status code : ℕ)
    (body text : List ℕ) → status ≡ code → body ≡ text
    → (asked_by call ≡ None) × ((form : Form) → IsNoAnswer form call code text) → AnswersOn g t form call status body t
told_nothing g t form call status code body text is said (none, told) =
    nothing_answered g t form call status body none
    (subst (λ (n : ℕ). IsNoAnswer form call n body) (sym is)
    (subst (IsNoAnswer form call code) (sym said) (told form)))

-- one that is no request
pub told_unasked : {S : Type 0} (g : Ghosts S) (t : Treasury S) (form : Form) (call : Call) (status : ℕ) (body : List ℕ)
    → status ≡ 400 → IsRefusal44 form body
    → (asked_by call ≡ None) × ((form : Form) (body : List ℕ) → IsRefusal44 form body → IsNoAnswer form call 400 body)
    → AnswersOn g t form call status body t
told_unasked g t form call status body is said (none, told) =
    nothing_answered g t form call status body none
    (subst (λ (n : ℕ). IsNoAnswer form call n body) (sym is) (told form body said))

-- one that asks for a request
pub request_answered : {S : Type 0} (g : Ghosts S) (old new : Treasury S) (form : Form) (call : Call)
    (request : Spelled) (status : ℕ) (body : List ℕ) → asked_by call ≡ Some request
    → RepliesAs g old request (IsBodyIn form body request) (λ (reply : Result Answer Refusal). status ≡ status_of reply)
    new
    → LeavesReplied g old request status new → AnswersOn g old form call status body new
request_answered g old new form call request status body asks replies leaves = record {
  clean = replies.clean;
  answers = λ k f of. let r = replies.answers k f of in (r.0, (r.1.0, inr (request, asks, r.1.1)));
  left = subst (λ (o : Option Spelled). MatchOption o (new ≡ old) (LeavesRequest g old new)) (sym asks) leaves.left;
  open_but = leaves.open_but;
  shuts = leaves.shuts;
  closed = leaves.closed;
}

-- in text, whatever the status is
pub text_form : (status : ℕ) → form.Text ≡ form_of_reply form.Text status
text_form status = by_test ((status == 403) || (status == 404))
  where
    by_test : (nowhere : Bool) → form.Text ≡ (if nowhere then form.Text else form.Text)
    by_test true = refl
    by_test false = refl

-- what holds is so where no reply is made
pub unless_made : {X E P : Type 0} (result : Result X E) → P → OnErr result P
unless_made (Ok x) p = tt
unless_made (Err e) p = p

-- of a reply that is made
pub replied : {X E : Type 0} (P Q R : X → Type 0) (result : Result X E) → ((x : X) → P x → Q x → R x) → IfOk result P
    → IfOk result Q → IfOk result R
replied P Q R (Ok x) both p q = both x p q
replied P Q R (Err e) both p q = tt

-- ---- calls one after another

-- a request that is answered, whether or not a call of the database has failed, and commands after it
request_run_of : (failed : Bool) (f : Federation) (request : Spelled)
    (Says : Result Asked Refusal → Result Answer Refusal → Type 0) (reply : Result Answer Refusal) (t : Standing)
    (turns : List Turn) (end : Federation)
    → (answers : AnswersAs (record { now = f; failed = failed }) request Says reply t) → IsRunTo t.now turns end
    → IsRunTo f (command_of answers ++ turns) end
request_run_of false f request Says reply t turns end answers rest =
    request_run f request Says reply t turns end answers rest
request_run_of true f request Says reply t turns end answers rest =
    let left : t.now ≡ f = ap (λ (s : Standing). s.now) answers.left ∙ ap
    (λ (asked : Result Asked Refusal). after_asked f asked reply) answers.asks in
    subst (λ (asked : Result Asked Refusal). IsRunTo f (command_if asked reply ++ turns) end) (sym answers.asks)
    (subst (λ (g : Federation). IsRunTo g turns end) left rest)

-- so their commands are a run
pub calls_run : (start : Standing) (calls : List AnsweredCall) (end : Standing) (served : AreServed start calls end)
    → IsRunTo start.now (turns_of_calls start calls end served) end.now
calls_run start [] end same = (tt, ap (λ (s : Standing). s.now) same)
calls_run start (c ∷ cs) end (mid, inl (none, answer, left), rest) =
    subst (λ (s : Standing). IsRunTo s.now (turns_of_calls mid cs end rest) end.now) left (calls_run mid cs end rest)
calls_run start (c ∷ cs) end (mid, inr (request, asks, (reply, (answers, told))), rest) =
    request_run_of start.failed start.now request (IsBodyIn c.form c.body request start.now) reply mid
    (turns_of_calls mid cs end rest) end.now answers
    (calls_run mid cs end rest)

-- after a call of the database that failed a call leaves the state
closed_leaves : (failed : Bool) (f : Federation) (form : Form) (call : Call) (status : ℕ) (body : List ℕ)
    (t : Standing) → failed ≡ true → AnswersCall (record { now = f; failed = failed }) form call status body t
    → (t.now ≡ f) × (t.failed ≡ true)
closed_leaves false f form call status body t is answered = absurd cc
closed_leaves true f form call status body t is (inl (none, answer, left)) =
    (ap (λ (s : Standing). s.now) left, ap (λ (s : Standing). s.failed) left)
closed_leaves true f form call status body t is (inr (request, asks, (reply, (answers, told)))) = (
  ap (λ (s : Standing). s.now) answers.left
      ∙ ap (λ (asked : Result Asked Refusal). after_asked f asked reply) answers.asks,
  ap (λ (s : Standing). s.failed) answers.left,
)

calls_leave : (s : Standing) (calls : List AnsweredCall) (end : Standing) → s.failed ≡ true → AreServed s calls end
    → end.now ≡ s.now
calls_leave s [] end failed same = ap (λ (x : Standing). x.now) same
calls_leave s (c ∷ cs) end failed (mid, answers, rest) =
    let stays = closed_leaves s.failed s.now c.form c.call c.status c.body mid failed answers in
    calls_leave mid cs end stays.1 rest ∙ stays.0

-- a reply of another status leaves the state
refusal_of_other_status : (status : ℕ) (reply : Result Answer Refusal) → status ≡ status_of reply → status ≢ 200
    → is_refusal reply ≡ true
refusal_of_other_status status (Ok answer) is other = absurd (other is)
refusal_of_other_status status (Err refusal) is other = refl

pub refused_leaves : (s : Standing) (form : Form) (call : Call) (status : ℕ) (body : List ℕ) (t : Standing)
    → AnswersCall s form call status body t → status ≢ 200 → t.now ≡ s.now
refused_leaves s form call status body t (inl (none, answer, left)) other = ap (λ (x : Standing). x.now) left
refused_leaves s form call status body t (inr (request, asks, (reply, (answers, told)))) other =
    request_leaves s request (IsBodyIn form body request s.now) reply t answers
    (refusal_of_other_status status reply told other)

-- ---- a call that failed

-- what holds of the state before it holds of the one where the calls lead
pub one_fails_or : (Rows : Federation → Type 0) (Leads : Federation → Result Asked Refusal → Type 0) (s : Standing)
    (calls : List AnsweredCall) (end : Standing) (served : AreServed s calls end)
    → OneFails (λ (f : Federation) (asked : Result Asked Refusal). Rows f ⊎ Leads f asked) s calls end served
    → Rows end.now ⊎ OneFails Leads s calls end served
one_fails_or Rows Leads s [] end served none = absurd none
one_fails_or Rows Leads s (c ∷ cs) end (mid, inl nothing, rest) fails = one_fails_or Rows Leads mid cs end rest fails
one_fails_or Rows Leads s (c ∷ cs) end (mid, inr (request, asks, (reply, (answers, told))), rest)
    (inl (failed, inl same)) =
    let here : mid.now ≡ s.now =
    request_leaves s request (IsBodyIn c.form c.body request s.now) reply mid answers (ap is_refusal failed) in
    let since : mid.failed ≡ true =
    ap (λ (x : Standing). x.failed) answers.left ∙ (ap (λ (r : Result Answer Refusal). s.failed || is_failure r) failed
    ∙ or-true s.failed) in
    inl (subst Rows (sym (calls_leave mid cs end since rest ∙ here)) same)
one_fails_or Rows Leads s (c ∷ cs) end (mid, inr (request, asks, (reply, (answers, told))), rest)
    (inl (failed, inr leads)) = inr (inl (failed, leads))
one_fails_or Rows Leads s (c ∷ cs) end (mid, inr (request, asks, (reply, (answers, told))), rest) (inr behind) =
    elim (one_fails_or Rows Leads mid cs end rest behind) [
      | inl same ↦ inl same
      | inr fails ↦ inr (inr fails)
    ]

-- and what follows from it
pub one_fails_map : (Holds Then : Federation → Result Asked Refusal → Type 0) (s : Standing) (calls : List AnsweredCall)
    (end : Standing) (served : AreServed s calls end)
    → ((f : Federation) (asked : Result Asked Refusal) → Holds f asked → Then f asked)
    → OneFails Holds s calls end served → OneFails Then s calls end served
one_fails_map Holds Then s [] end served follows none = absurd none
one_fails_map Holds Then s (c ∷ cs) end (mid, inl nothing, rest) follows fails =
    one_fails_map Holds Then mid cs end rest follows fails
one_fails_map Holds Then s (c ∷ cs) end (mid, inr (request, asks, (reply, (answers, told))), rest) follows
    (inl (failed, holds)) = inl (failed, follows s.now answers.asked holds)
one_fails_map Holds Then s (c ∷ cs) end (mid, inr (request, asks, (reply, (answers, told))), rest) follows
    (inr behind) = inr (one_fails_map Holds Then mid cs end rest follows behind)

-- ---- a connection

-- it ends before anything is done
pub ends_early : {S W : Type 0} (g : Ghosts S) (r0 r1 : Option (List ℕ)) (contents : W → Option (List ℕ)) (w : W)
    (t : Treasury S) (cause : Cause) → (cause ≡ ReadFault) ⊎ (cause ≡ OutOfMemory)
    → (cause ≡ ReadFault → IsStopped r0 r1)
    → FailsCallBy cause g r0 r1 contents w w t t
ends_early g r0 r1 contents w t cause (inl read) stopped =
    subst (λ (x : Cause). FailsCallBy x g r0 r1 contents w w t t) (sym read) (stopped read, refl, refl)
ends_early g r0 r1 contents w t cause (inr memory) stopped =
    subst (λ (x : Cause). FailsCallBy x g r0 r1 contents w w t t) (sym memory) (refl, refl)

-- there is no memory to read what is asked
pub ends_unread : {S W : Type 0} (g : Ghosts S) (r0 r1 : Option (List ℕ)) (contents : W → Option (List ℕ)) (w : W)
    (old new : Treasury S) (cause : Cause) → cause ≡ OutOfMemory → new ≡ old
    → FailsCallBy cause g r0 r1 contents w w old new
ends_unread g r0 r1 contents w old new cause memory same =
    subst (λ (x : Cause). FailsCallBy x g r0 r1 contents w w old new) (sym memory) (refl, same)

-- its reply is cut off
pub ends_torn : {S W : Type 0} (g : Ghosts S) (r0 r1 : Option (List ℕ)) (contents : W → Option (List ℕ)) (w0 w1 : W)
    (old new : Treasury S) (cause : Cause) (form : Form) (status : ℕ) (body : List ℕ)
    → AnswersRead g r0 r1 old form status body new
    → (cause ≡ WriteFault) × ((taken : ℕ) × (taken < length (whole_reply form status body))
    × Appends (contents w0) (contents w1) (take taken (whole_reply form status body)))
    → FailsCallBy cause g r0 r1 contents w0 w1 old new
ends_torn g r0 r1 contents w0 w1 old new cause form status body answered (write, (taken, part, written)) =
    subst (λ (x : Cause). FailsCallBy x g r0 r1 contents w0 w1 old new) (sym write)
    (record {
      form = form;
      status = status;
      body = body;
      taken = taken;
      part = part;
      answered = answered;
      written = written;
    })

-- ---- what connections make of a treasury

-- none
pub has_served_none : {S : Type 0} (g : Ghosts S) (t : Treasury S) → HasServed g t t
has_served_none g t = record {
  calls = [];
  clean = λ k. k;
  served = λ k f of. (f, (of, (refl, λ is_open unfailed. inl (is_open, unfailed))));
  closed = λ failed. refl;
}

-- one that is answered
module _ {S : Type 0} (g : Ghosts S) (old new : Treasury S) (form : Form) (call : Call) (status : ℕ) (body : List ℕ)
    (on : AnswersOn g old form call status body new) where
  call_leaves : (f e : Federation) → IsFaithful g new.store.conn → IsTreasuryOf g old f
      → (answered : AnswersCall (standing old f) form call status body (standing new e))
      → LeavesCalls g old new (standing old f) (record { form = form; call = call; status = status; body = body } ∷ [])
      (standing new e) (standing new e, answered, refl)
  call_leaves f e clean of (inl (none, answer, left)) is_open unfailed =
      let same : new ≡ old = subst (λ (o : Option Spelled). MatchOption o (new ≡ old) (LeavesRequest g old new)) none
      on.left in
      inl (subst (λ (t : Treasury S). IsTrue (state g t.store.conn).is_open × (t.store.failed ≡ false)) (sym same)
      (is_open, unfailed))
  call_leaves f e clean of (inr (request, asks, (reply, (answers, told)))) is_open unfailed =
      by_failed new.store.failed refl
    where
      left : LeavesRequest g old new request
      left = subst (λ (o : Option Spelled). MatchOption o (new ≡ old) (LeavesRequest g old new)) asks on.left

      failing : IsTrue new.store.failed → reply ≡ Err (Plain Failed)
      failing is = failure_is reply (sym (ap (λ (s : Standing). s.failed) answers.left ∙
          ap (λ (b : Bool). b || is_failure reply) unfailed) ∙ is)

      by_open : new.store.failed ≡ false
          → IsTrue (state g new.store.conn).is_open ⊎ ((status ≡ 503) × IsTrue new.store.failed)
          → (IsTrue (state g new.store.conn).is_open × (new.store.failed ≡ false))
          ⊎ (IsTrue new.store.failed × OneFails (LeavesAsked g new.store.conn) (standing old f)
          (record { form = form; call = call; status = status; body = body } ∷ []) (standing new e)
          (standing new e, inr (request, asks, (reply, (answers, told))), refl))
      by_open is (inl still) = inl (still, is)
      by_open is (inr failed) = absurd (let clash : true ≡ false = sym failed.1 ∙ is in cc)

      by_failed : (failed : Bool) → new.store.failed ≡ failed
          → (IsTrue (state g new.store.conn).is_open × (new.store.failed ≡ false))
          ⊎ (IsTrue new.store.failed × OneFails (LeavesAsked g new.store.conn) (standing old f)
          (record { form = form; call = call; status = status; body = body } ∷ []) (standing new e)
          (standing new e, inr (request, asks, (reply, (answers, told))), refl))
      by_failed true is =
          inr (is, inl (failing is, left clean is_open f of answers.asked answers.asks))
      by_failed false is = by_open is (on.open_but clean is_open)

  served_call : HasServed g old new
  served_call = record {
    calls = record { form = form; call = call; status = status; body = body } ∷ [];
    clean = on.clean;
    served = λ k f of.
        let r = on.answers k f of in
        (r.0, (r.1.0, ((standing new r.0, r.1.1, refl), call_leaves f r.0 k of r.1.1)));
    closed = on.closed;
  }

served_read : {S : Type 0} (g : Ghosts S) (r0 r1 : Option (List ℕ)) (old new : Treasury S) (form : Form) (status : ℕ)
    (body : List ℕ) → AnswersRead g r0 r1 old form status body new → HasServed g old new
served_read g r0 r1 old new form status body read =
    served_call g old new read.received.form read.received.call status body read.answers

served_failed : {S W : Type 0} (g : Ghosts S) (cause : Cause) (r0 r1 : Option (List ℕ)) (contents : W → Option (List ℕ))
    (w0 w1 : W) (old new : Treasury S) → FailsCallBy cause g r0 r1 contents w0 w1 old new → HasServed g old new
served_failed g OutOfMemory r0 r1 contents w0 w1 old new fails =
    subst (λ (t : Treasury _). HasServed g old t) (sym fails.1) (has_served_none g old)
served_failed g ReadFault r0 r1 contents w0 w1 old new fails =
    subst (λ (t : Treasury _). HasServed g old t) (sym fails.2) (has_served_none g old)
served_failed g WriteFault r0 r1 contents w0 w1 old new fails =
    served_read g r0 r1 old new fails.form fails.status fails.body fails.answered
served_failed g _ r0 r1 contents w0 w1 old new fails = absurd fails

-- one, however it ends
pub has_served_one : {T S R W : Type 0} (result : Result T Cause) (g : Ghosts S) (remaining : R → Option (List ℕ))
    (r0 r1 : R) (contents : W → Option (List ℕ)) (w0 w1 : W) (old new : Treasury S)
    → ServesOne result g remaining r0 r1 contents w0 w1 old new → HasServed g old new
has_served_one (Ok x) g remaining r0 r1 contents w0 w1 old new served =
    served_read g (remaining r0) (remaining r1) old new served.form served.status served.body served.answered
has_served_one (Err cause) g remaining r0 r1 contents w0 w1 old new fails =
    served_failed g cause (remaining r0) (remaining r1) contents w0 w1 old new fails

abbrev served_then : (start : Standing) (calls : List AnsweredCall) (mid : Standing) (more : List AnsweredCall)
    (end : Standing) → AreServed start calls mid → AreServed mid more end → AreServed start (calls ++ more) end
served_then start [] mid more end first second = subst (λ (s : Standing). AreServed s more end) first second
served_then start (c ∷ cs) mid more end (next, answers, rest) second =
    (next, answers, served_then next cs mid more end rest second)

-- one of the first fails
fails_first : (Holds : Federation → Result Asked Refusal → Type 0) (start : Standing) (calls : List AnsweredCall)
    (mid : Standing) (more : List AnsweredCall) (end : Standing) (first : AreServed start calls mid)
    (second : AreServed mid more end) → OneFails Holds start calls mid first
    → OneFails Holds start (calls ++ more) end (served_then start calls mid more end first second)
fails_first Holds start [] mid more end first second none = absurd none
fails_first Holds start (c ∷ cs) mid more end (next, inl nothing, rest) second fails =
    fails_first Holds next cs mid more end rest second fails
fails_first Holds start (c ∷ cs) mid more end (next, inr (request, asks, (reply, (answers, told))), rest) second
    (inl here) = inl here
fails_first Holds start (c ∷ cs) mid more end (next, inr (request, asks, (reply, (answers, told))), rest) second
    (inr behind) = inr (fails_first Holds next cs mid more end rest second behind)

-- or one of the others
fails_then : (Holds : Federation → Result Asked Refusal → Type 0) (start : Standing) (calls : List AnsweredCall)
    (mid : Standing) (more : List AnsweredCall) (end : Standing) (first : AreServed start calls mid)
    (second : AreServed mid more end) → OneFails Holds mid more end second
    → OneFails Holds start (calls ++ more) end (served_then start calls mid more end first second)
fails_then Holds start [] mid more end first second fails =
    path_j (λ (s : Standing) (is : mid ≡ s). OneFails Holds s more end (subst (λ (x : Standing). AreServed x more end)
    is second))
    (subst (λ (served : AreServed mid more end). OneFails Holds mid more end served)
    (sym (subst_refl (λ (x : Standing). AreServed x more end) second)) fails) first
fails_then Holds start (c ∷ cs) mid more end (next, inl nothing, rest) second fails =
    fails_then Holds next cs mid more end rest second fails
fails_then Holds start (c ∷ cs) mid more end (next, inr (request, asks, (reply, (answers, told))), rest) second fails =
    inr (fails_then Holds next cs mid more end rest second fails)

-- what some leave, and second others
leaves_then : {S : Type 0} (g : Ghosts S) (old mid new : Treasury S) (start : Standing) (calls : List AnsweredCall)
    (middle : Standing) (more : List AnsweredCall) (end : Standing) (first : AreServed start calls middle)
    (second : AreServed middle more end) → (IsTrue mid.store.failed → new ≡ mid)
    → LeavesCalls g old mid start calls middle first → LeavesCalls g mid new middle more end second
    → LeavesCalls g old new start (calls ++ more) end (served_then start calls middle more end first second)
leaves_then {S = S} g old mid new start calls middle more end first second closed one two is_open unfailed =
    elim (one is_open unfailed) [
      | inl still ↦ elim (two still.0 still.1) [
        | inl last ↦ inl last
        | inr fails ↦ inr (
          fails.0,
          fails_then (LeavesAsked g new.store.conn) start calls middle more end first second fails.1,
        )
      ]
      | inr fails ↦ (
          let same : mid ≡ new = sym (closed fails.0) in
          inr (
            subst (λ (t : Treasury S). IsTrue t.store.failed) same fails.0,
            fails_first (LeavesAsked g new.store.conn) start calls middle more end first second
                (subst (λ (t : Treasury S). OneFails (LeavesAsked g t.store.conn) start calls middle first) same
                fails.1),
          ))
    ]

-- some, and second others
pub has_served_more : {S : Type 0} (g : Ghosts S) (old mid new : Treasury S) → HasServed g old mid → HasServed g mid new
    → HasServed g old new
has_served_more {S = S} g old mid new first second = record {
  calls = first.calls ++ second.calls;
  clean = λ k. first.clean (second.clean k);
  served = λ k f of.
      let one = first.served (second.clean k) f of in
      let two = second.served k one.0 one.1.0 in (
        two.0,
        (
          two.1.0,
          (
            served_then (standing old f) first.calls (standing mid one.0) second.calls (standing new two.0) one.1.1.0
                two.1.1.0,
            leaves_then g old mid new (standing old f) first.calls (standing mid one.0) second.calls
                (standing new two.0) one.1.1.0 two.1.1.0 second.closed one.1.1.1 two.1.1.1,
          ),
        ),
      );
  closed = λ failed.
      let same = first.closed failed in
      second.closed (subst (λ (t : Treasury S). IsTrue t.store.failed) (sym same) failed) ∙ same;
}
