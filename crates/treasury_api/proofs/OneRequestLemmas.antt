-- One request is answered on a treasury.
use Rattle.std.proofs.Common.{◌≡◌, ◌++◌, ◌⊎◌, ◌||◌, ℕ, List, [], ◌∷◌, Bool, true, false, Result, Ok, Err, MatchResult}
use Rattle.std.proofs.Common.{if◌then◌else◌, refl, ap, ◌∙◌, sym, subst, inl, inr}
use Rattle.sqlite.specs.Store.{Ghosts}
use Rattle.sqlite.specs.Held.{state}
use Rattle.money_core.specs.declared.cause.Cause.TheVariants.{OutOfMemory}
use Rattle.book_core.specs.declared.refusal.Refusal.{Refusal}
use Rattle.book_core.specs.declared.refusal.Refusal.TheVariants.{Plain}
use Rattle.treasury_state.specs.Federation.{Federation}
use Rattle.treasury_core.specs.declared.command.Answer.{Answer}
use Rattle.treasury_core.specs.Run.{Turn, IsRun, state_after}
use Rattle.treasury_store.specs.Treasury.{Treasury, IsTreasuryOf, is_failure}
use Rattle.treasury_requests.specs.declared.request.Spelled.{Spelled}
use Rattle.http_request.specs.declared.call.Form.{Form}
use Rattle.http_request.specs.declared.call.Form.TheVariants as form
use Rattle.treasury_api.specs.declared.asking.Asked.{Asked}
use Rattle.treasury_api.specs.declared.asking.Asked.TheVariants.{Command, DryRun, Report}
use Rattle.treasury_requests.specs.Request.{HasDayNumbers}
use Rattle.treasury_api.specs.Asked.{AsksOf, SpelledAsks}
use Rattle.treasury_api.specs.Answer.{answer_text}
use Rattle.treasury_api.specs.Step.{Standing, MayReplyAsked, after_asked}
use Rattle.treasury_api.specs.History.{command_if}
use Rattle.treasury_api.specs.OneRequest.{AnswersAs, AnswersRequest, RepliesAs, RepliesOn, request_text}
use Rattle.treasury_api.specs.OneRequest.{is_refusal, command_of}
use Rattle.treasury_api.specs.Replied.{standing, body_of, IsLineOf, IsAnsweredIn, IsAnswered}
use Rattle.treasury_api.proofs.AskedLemmas.{request_fits}
use Rattle.treasury_api.proofs.SpelledLemmas.{spelled_command}
use Rattle.treasury_api.proofs.HistoryLemmas.{command_replied, failure_leaves}
use Rattle.treasury_api.proofs.ServeLemmas.{after_plain, standing_is_next, refused_only, data_line}
use Rattle.treasury_tables.specs.Kept.{IsFaithful}

-- what is written is the text of the reply
written_text : (f : Federation) (failed : Bool) (asked : Result Asked Refusal) (answer : Answer) (written : List ℕ)
    → MayReplyAsked (record { now = f; failed = failed }) asked (Ok answer)
    → written ≡ [] ++ body_of form.Text f asked answer → written ≡ request_text f asked (Ok answer)
written_text f failed (Ok (Command c)) answer written replies said = said
written_text f failed (Ok (DryRun c)) answer written replies said = said
written_text f failed (Ok (Report report)) answer written replies said = said
written_text f failed (Err refusal) answer written replies said = refused_only f failed refusal answer _ replies

-- a refusal's text is its line, whatever was asked
refusal_line : (f : Federation) (asked : Result Asked Refusal) (refusal : Refusal)
    → answer_text f.styles (Err refusal) ≡ request_text f asked (Err refusal)
refusal_line f (Ok (Command c)) refusal = refl
refusal_line f (Ok (DryRun c)) refusal = refl
refusal_line f (Ok (Report report)) refusal = refl
refusal_line f (Err e) refusal = refl

-- a request that is done, repeated or reported, of which is said what follows from what was written
pub replied_done : {S : Type 0} (form : Form) (g : Ghosts S) (old new : Treasury S) (written : List ℕ)
    (request : Spelled) (Says : Federation → Result Asked Refusal → Result Answer Refusal → Type 0)
    (Tells : Result Answer Refusal → Type 0) (made : Result (Unit {0}) Refusal) (x : Unit {0}) → made ≡ Ok x
    → HasDayNumbers request.request
    → (IsFaithful g new.store.conn → IsFaithful g old.store.conn)
    → (IsFaithful g new.store.conn → (f : Federation) → IsTreasuryOf g old f
    → IsAnsweredIn form g old.store.failed new f request made [] written)
    → ((f : Federation) (asked : Result Asked Refusal) (answer : Answer)
    → AsksOf old.store.failed f request asked
    → MayReplyAsked (record { now = f; failed = old.store.failed }) asked (Ok answer)
    → IsTreasuryOf g new (after_asked f asked (Ok answer))
    → written ≡ [] ++ body_of form f asked answer → Says f asked (Ok answer))
    → ((answer : Answer) → Tells (Ok answer)) → RepliesAs g old request Says Tells new
replied_done form g old new written request Says Tells made x ok days clean answers says tells = record {
  clean = clean;
  answers = λ k f of. by_reply f (answers k f of);
}
  where
    by_reply : (f : Federation) → IsAnsweredIn form g old.store.failed new f request made [] written
        → (end : Federation) × (IsTreasuryOf g new end
        × ((reply : Result Answer Refusal)
        × (AnswersAs (standing old f) request (Says f) reply (standing new end) × Tells reply)))
    by_reply f (asked, (asks, r)) =
        let told = subst (λ (m : Result (Unit {0}) Refusal).
        MatchResult m (λ _. (answer : Answer) × ((r.reply ≡ Ok answer)
        × (written ≡ [] ++ body_of form f asked answer)))
        (λ refusal. (r.reply ≡ Err refusal) × (written ≡ []))) ok r.text in
        let replies = subst (λ (y : Result Answer Refusal).
        MayReplyAsked (record { now = f; failed = old.store.failed }) asked y) told.1.0 r.replies in (
          after_asked f asked (Ok told.0),
          (
            subst (λ (y : Result Answer Refusal). IsTreasuryOf g new (after_asked f asked y)) told.1.0 r.of,
            (
              Ok told.0,
              (
                record {
                  asked = asked;
                  days = days;
                  asks = asks;
                  replies = replies;
                  text =
                      says f asked told.0 asks replies
                      (subst (λ (y : Result Answer Refusal). IsTreasuryOf g new (after_asked f asked y)) told.1.0 r.of)
                      told.1.1;
                  left = standing_is_next old new f asked (Ok told.0)
                      (r.left ∙ ap (λ (y : Result Answer Refusal). old.store.failed || is_failure y) told.1.0);
                },
                tells told.0,
              ),
            ),
          ),
        )

-- the same with the text of the reply
pub said_done : {S : Type 0} (g : Ghosts S) (old new : Treasury S) (written : List ℕ) (request : Spelled)
    (Tells : Result Answer Refusal → Type 0) (made : Result (Unit {0}) Refusal) (x : Unit {0}) → made ≡ Ok x
    → HasDayNumbers request.request
    → (IsFaithful g new.store.conn → IsFaithful g old.store.conn)
    → (IsFaithful g new.store.conn → (f : Federation) → IsTreasuryOf g old f
    → IsAnswered g old.store.failed new f request made [] written)
    → ((answer : Answer) → Tells (Ok answer)) → RepliesOn g old request written Tells new
said_done g old new written request Tells made x ok days clean answers tells =
    replied_done form.Text g old new written request
    (λ (f : Federation) (asked : Result Asked Refusal) (r : Result Answer Refusal). written ≡ request_text f asked r)
    Tells made x ok days clean answers
    (λ f asked answer asks replies of said. written_text f old.store.failed asked answer written replies said) tells

-- what is said and told of a refusal: that it is the refusal, or 40 in its place, which is no failure then
abbrev pub IsRefusedAs : (Federation → Result Asked Refusal → Result Answer Refusal → Type 0)
    → (Result Answer Refusal → Type 0) → Federation → Refusal → Type 0
IsRefusedAs Says Tells f refusal =
    (((asked : Result Asked Refusal) → Says f asked (Err refusal)) × Tells (Err refusal))
    ⊎ (((asked : Result Asked Refusal) → Says f asked (Err (Plain OutOfMemory)))
    × (is_failure (Err refusal) ≡ false) × Tells (Err (Plain OutOfMemory)))

-- a request that is refused: so, or by 40 in its place
pub replied_as : {S : Type 0} (form : Form) (g : Ghosts S) (old new : Treasury S) (written : List ℕ)
    (request : Spelled) (Says : Federation → Result Asked Refusal → Result Answer Refusal → Type 0)
    (Tells : Result Answer Refusal → Type 0) (made : Result (Unit {0}) Refusal) (refusal : Refusal) → made ≡ Err refusal
    → HasDayNumbers request.request
    → (IsFaithful g new.store.conn → IsFaithful g old.store.conn)
    → (IsFaithful g new.store.conn → (f : Federation) → IsTreasuryOf g old f
    → IsAnsweredIn form g old.store.failed new f request made [] written)
    → ((f : Federation) → IsTreasuryOf g new f → IsRefusedAs Says Tells f refusal)
    → RepliesAs g old request Says Tells new
replied_as form g old new written request Says Tells made refusal refused days clean answers said = record {
  clean = clean;
  answers = λ k f of. by_reply f (answers k f of);
}
  where
    by_line : (f : Federation) (asked : Result Asked Refusal) → AsksOf old.store.failed f request asked
        → MayReplyAsked (record { now = f; failed = old.store.failed }) asked (Err refusal) → IsTreasuryOf g new f
        → new.store.failed ≡ (old.store.failed || is_failure (Err refusal))
        → IsRefusedAs Says Tells f refusal
        → (reply : Result Answer Refusal)
        × (AnswersAs (standing old f) request (Says f) reply (standing new f) × Tells reply)
    by_line f asked asks replies of left (inl (says, tells)) = (
      Err refusal,
      (
        record {
          asked = asked;
          days = days;
          asks = asks;
          replies = replies;
          text = says asked;
          left =
              ap (λ (x : Federation). standing new x) (after_plain f asked refusal) ∙ standing_is_next old new f asked
              (Err refusal) left;
        },
        tells,
      ),
    )
    by_line f asked asks replies of left (inr (says, harmless, tells)) = (
      Err (Plain OutOfMemory),
      (
        record {
          asked = asked;
          days = days;
          asks = asks;
          replies = inr (inl refl);
          text = says asked;
          left = ap (λ (x : Federation). standing new x) (after_plain f asked (Plain OutOfMemory))
              ∙ standing_is_next old new f asked (Err (Plain OutOfMemory))
              (left ∙ ap (λ (b : Bool). old.store.failed || b) harmless);
        },
        tells,
      ),
    )

    by_reply : (f : Federation) → IsAnsweredIn form g old.store.failed new f request made [] written
        → (end : Federation) × (IsTreasuryOf g new end
        × ((reply : Result Answer Refusal)
        × (AnswersAs (standing old f) request (Says f) reply (standing new end) × Tells reply)))
    by_reply f (asked, (asks, r)) =
        let told = subst (λ (m : Result (Unit {0}) Refusal).
        MatchResult m (λ _. (answer : Answer) × ((r.reply ≡ Ok answer)
        × (written ≡ [] ++ body_of form f asked answer)))
        (λ e. (r.reply ≡ Err e) × (written ≡ []))) refused r.text in
        let of : IsTreasuryOf g new f =
        subst (IsTreasuryOf g new) (sym (after_plain f asked refusal))
        (subst (λ (y : Result Answer Refusal). IsTreasuryOf g new (after_asked f asked y)) told.0 r.of) in (
          f,
          (
            of,
            by_line f asked asks (subst (λ (y : Result Answer Refusal).
                MayReplyAsked (record { now = f; failed = old.store.failed }) asked y) told.0 r.replies) of
                (r.left ∙ ap (λ (y : Result Answer Refusal). old.store.failed || is_failure y) told.0) (said f of),
          ),
        )

-- what is told of the line of a refusal: that it is the refusal's, or that of 40 in its place
abbrev pub IsToldAs : Federation → Refusal → List ℕ → (Result Answer Refusal → Type 0) → Type 0
IsToldAs f refusal text Tells =
    ((text ≡ answer_text f.styles (Err refusal)) × Tells (Err refusal))
    ⊎ ((text ≡ answer_text f.styles (Err (Plain OutOfMemory))) × (is_failure (Err refusal) ≡ false)
    × Tells (Err (Plain OutOfMemory)))

-- the same of the text of the reply
pub said_as : {S : Type 0} (g : Ghosts S) (old new : Treasury S) (written text : List ℕ) (request : Spelled)
    (Tells : Result Answer Refusal → Type 0) (made : Result (Unit {0}) Refusal) (refusal : Refusal) → made ≡ Err refusal
    → HasDayNumbers request.request
    → (IsFaithful g new.store.conn → IsFaithful g old.store.conn)
    → (IsFaithful g new.store.conn → (f : Federation) → IsTreasuryOf g old f
    → IsAnswered g old.store.failed new f request made [] written)
    → ((f : Federation) → IsTreasuryOf g new f → IsToldAs f refusal text Tells) → RepliesOn g old request text Tells new
said_as g old new written text request Tells made refusal refused days clean answers said =
    replied_as form.Text g old new written request
    (λ (f : Federation) (asked : Result Asked Refusal) (r : Result Answer Refusal). text ≡ request_text f asked r)
    Tells made refusal refused days clean answers (λ f of. by_line f (said f of))
  where
    by_line : (f : Federation) → IsToldAs f refusal text Tells
        → IsRefusedAs (λ (f : Federation) (asked : Result Asked Refusal) (r : Result Answer Refusal).
        text ≡ request_text f asked r) Tells f refusal
    by_line f (inl (told, tells)) = inl ((λ asked. told ∙ refusal_line f asked refusal), tells)
    by_line f (inr (told, harmless, tells)) =
        inr ((λ asked. told ∙ refusal_line f asked (Plain OutOfMemory)), harmless, tells)

-- the same where it is told alike of both lines
pub said_refusal : {S : Type 0} (g : Ghosts S) (old new : Treasury S) (written text : List ℕ) (request : Spelled)
    (Tells : Result Answer Refusal → Type 0) (made : Result (Unit {0}) Refusal) (refusal : Refusal) → made ≡ Err refusal
    → HasDayNumbers request.request
    → (IsFaithful g new.store.conn → IsFaithful g old.store.conn)
    → (IsFaithful g new.store.conn → (f : Federation) → IsTreasuryOf g old f
    → IsAnswered g old.store.failed new f request made [] written)
    → IsLineOf new refusal text → Tells (Err refusal) → Tells (Err (Plain OutOfMemory))
    → RepliesOn g old request text Tells new
said_refusal g old new written text request Tells made refusal refused days clean answers said tells memory =
    said_as g old new written text request Tells made refusal refused days clean answers
    (λ f of. by_line f (data_line g new f refusal text of said))
  where
    by_line : (f : Federation) → (text ≡ answer_text f.styles (Err refusal))
        ⊎ ((text ≡ answer_text f.styles (Err (Plain OutOfMemory))) × (is_failure (Err refusal) ≡ false))
        → IsToldAs f refusal text Tells
    by_line f (inl told) = inl (told, tells)
    by_line f (inr (told, harmless)) = inr (told, harmless, memory)

-- ---- requests one after another

-- commands after a state that lead to another
abbrev pub IsRunTo : Federation → List Turn → Federation → Type 0
IsRunTo f turns end = IsRun f turns × (end ≡ state_after f turns)

-- the command of a request, if it is one, and those after it
run_behind_command : (f : Federation) (request : Spelled) (asked : Result Asked Refusal) (r : Result Answer Refusal)
    (turns : List Turn) (end : Federation)
    → HasDayNumbers request.request → SpelledAsks f request asked
    → MayReplyAsked (record { now = f; failed = false }) asked r
    → IsRunTo (after_asked f asked r) turns end → IsRunTo f (command_if asked r ++ turns) end
run_behind_command f request (Ok (Command c)) r turns end days asks replies rest = commanded (is_failure r) refl
  where
    commanded : (failure : Bool) → is_failure r ≡ failure
        → IsRunTo f ((if failure then [] else record { command = c; reply = r } ∷ []) ++ turns) end
    commanded true failed = subst (λ (g : Federation). IsRunTo g turns end) (failure_leaves f c r failed) rest
    commanded false failed = (
      (
        request_fits f.styles request.request c days (spelled_command f request c asks),
        command_replied (record { now = f; failed = false }) c r failed replies,
        rest.0,
      ),
      rest.1,
    )
run_behind_command f request (Ok (DryRun c)) r turns end days asks replies rest = rest
run_behind_command f request (Ok (Report report)) r turns end days asks replies rest = rest
run_behind_command f request (Err refusal) r turns end days asks replies rest = rest

-- the command of a request that is answered, if it is one, and those after it
pub request_run : (f : Federation) (request : Spelled) (Says : Result Asked Refusal → Result Answer Refusal → Type 0)
    (reply : Result Answer Refusal) (t : Standing) (turns : List Turn) (end : Federation)
    → (answers : AnswersAs (record { now = f; failed = false }) request Says reply t) → IsRunTo t.now turns end
    → IsRunTo f (command_of answers ++ turns) end
request_run f request Says reply t turns end answers rest =
    run_behind_command f request answers.asked reply turns end answers.days answers.asks answers.replies
    (subst (λ (g : Federation). IsRunTo g turns end) (ap (λ (s : Standing). s.now) answers.left) rest)

-- a refusal leaves the state
refusal_leaves : (f : Federation) (asked : Result Asked Refusal) (r : Result Answer Refusal) → is_refusal r ≡ true
    → after_asked f asked r ≡ f
refusal_leaves f asked (Ok answer) refused = absurd cc
refusal_leaves f (Ok (Command c)) (Err refusal) refused = refl
refusal_leaves f (Ok (DryRun c)) (Err refusal) refused = refl
refusal_leaves f (Ok (Report report)) (Err refusal) refused = refl
refusal_leaves f (Err fault) (Err refusal) refused = refl

pub request_leaves : (s : Standing) (request : Spelled) (Says : Result Asked Refusal → Result Answer Refusal → Type 0)
    (reply : Result Answer Refusal) (t : Standing) → AnswersAs s request Says reply t → is_refusal reply ≡ true
    → t.now ≡ s.now
request_leaves s request Says reply t answers refused =
    ap (λ (x : Standing). x.now) answers.left ∙ refusal_leaves s.now answers.asked reply refused
