-- what a decision answers
use Rattle.std.proofs.Common.{◌≡◌, ◌⊎◌, ◌-◌, ℕ, false, List, length, map, refl, ap, ◌∙◌, sym, subst, inl, inr, Some}
use Rattle.std.proofs.Common.{None, Ok, Err}
use Rattle.std.specs.Prelude.{Result, IfOk, MatchResult}
use Rattle.money_core.specs.declared.style.Style.{Style}
use Rattle.money_core.specs.declared.cause.Cause.TheVariants.{OutOfMemory, UnknownBranch}
use Rattle.book_core.specs.declared.refusal.Refusal.{Refusal}
use Rattle.book_core.specs.declared.refusal.Refusal.TheVariants.{Plain}
use Rattle.journal_format.specs.declared.txn.Located.{Located}
use Rattle.treasury_state.specs.declared.record.Record.{Record}
use Rattle.treasury_state.specs.declared.delta.Addition.{Addition}
use Rattle.treasury_state.specs.declared.delta.Addition.TheVariants as add
use Rattle.treasury_state.specs.Federation.{Branch, Federation, has_branch}
use Rattle.treasury_state.specs.Joined.{joined}
use Rattle.treasury_state.specs.Good.{IsGoodState}
use Rattle.treasury_state.proofs.FindLemmas.{IsThere}
use Rattle.treasury_core.specs.declared.command.Answer.{Answer}
use Rattle.treasury_core.specs.declared.command.Answer.TheVariants.{Entered}
use Rattle.treasury_core.specs.declared.command.Command.{Command}
use Rattle.treasury_core.specs.declared.command.Command.TheVariants as cmd
use Rattle.treasury_core.specs.Step.{unless, entered_answer, records_in_file, new_in, file_refusal, reply, after, added}
use Rattle.treasury_core.specs.Step.{delta}
use Rattle.treasury_core.specs.Step.{step, Decides}
use Rattle.treasury_core.specs.Fits.{Fits}
use Rattle.treasury_core.proofs.JoinedLemmas.{after_joined}
use Rattle.treasury_core.proofs.ReplyLemmas.{after_good}

-- a file into a branch that is there
reply_there : (f : Federation) (name : List ℕ) (file : List Located) (b : Branch) → IsThere f.branches name b
    → reply f (cmd.Enter name file)
    ≡ unless (entered_answer (length (new_in b.records (records_in_file f.styles file))) (length file))
    (file_refusal f.styles b.locked b.records file)
unfolding reply
reply_there f name file b there = rw (there.any, there.records, there.lock) refl

pub decides_entered : (f : Federation) (name : List ℕ) (file : List Located) (b : Branch) (new : List Record)
    (p : Answer × List Addition) → IsThere f.branches name b → new ≡ new_in b.records (records_in_file f.styles file)
    → file_refusal f.styles b.locked b.records file ≡ None → p.0 ≡ Entered (length new) (length file - length new)
    → p.1 ≡ map (λ (r : Record). add.Record name r) new → Decides f (cmd.Enter name file) (Ok p)
unfolding added
decides_entered f name file b new p there same none answer adds = (
  reply_there f name file b there ∙ ap
      (unless (entered_answer (length (new_in b.records (records_in_file f.styles file))) (length file))) none
      ∙ ap (λ (xs : List Record). let r : Result Answer Refusal =
      Ok (Entered (length xs) (length file - length xs)) in r) (sym same) ∙ ap
      (λ (a : Answer). let r : Result Answer Refusal = Ok a in r) (sym answer),
  adds ∙ ap (λ (xs : List Record). map (λ (r : Record). add.Record name r) xs)
      (same ∙ ap (λ (rs : List Record). new_in rs (records_in_file f.styles file)) (sym there.records))
      ∙ ap (λ (a : Answer). delta f (cmd.Enter name file) (Ok a)) (sym answer),
)

pub enters_by : (f : Federation) (name : List ℕ) (file : List Located) (b : Branch) (new : List Record)
    (styles : List Style) (r : Result (Answer × List Addition) Refusal) → styles ≡ f.styles → IsThere f.branches name b
    → new ≡ new_in b.records (records_in_file styles file) → file_refusal styles b.locked b.records file ≡ None
    → MatchResult r (λ p. (p.0 ≡ Entered (length new) (length file - length new))
    × (p.1 ≡ map (λ (r : Record). add.Record name r) new)) (λ e. e ≡ Plain OutOfMemory)
    → Decides f (cmd.Enter name file) r
enters_by f name file b new styles (Ok p) same there value none h =
    decides_entered f name file b new p there
    (value ∙ ap (λ (ss : List Style). new_in b.records (records_in_file ss file)) same)
    (sym (ap (λ (ss : List Style). file_refusal ss b.locked b.records file) same) ∙ none) h.0 h.1
enters_by f name file b new styles (Err e) same there value none h = inl h

pub decides_enter_refusal : (f : Federation) (name : List ℕ) (file : List Located) (b : Branch) (e : Refusal)
    → IsThere f.branches name b → (e ≡ Plain OutOfMemory) ⊎ (file_refusal f.styles b.locked b.records file ≡ Some e)
    → Decides f (cmd.Enter name file) (Err e)
decides_enter_refusal f name file b e there (inl h) = inl h
decides_enter_refusal f name file b e there (inr h) =
    inr (reply_there f name file b there ∙ ap
    (unless (entered_answer (length (new_in b.records (records_in_file f.styles file))) (length file))) h)

pub refuses_by : (f : Federation) (name : List ℕ) (file : List Located) (b : Branch) (styles : List Style) (e : Refusal)
    → styles ≡ f.styles → IsThere f.branches name b
    → (e ≡ Plain OutOfMemory) ⊎ (file_refusal styles b.locked b.records file ≡ Some e)
    → Decides f (cmd.Enter name file) (Err e)
refuses_by f name file b styles e same there (inl h) = inl h
refuses_by f name file b styles e same there (inr h) =
    decides_enter_refusal f name file b e there
    (inr (sym (ap (λ (ss : List Style). file_refusal ss b.locked b.records file) same) ∙ h))

pub reply_missing : (f : Federation) (name : List ℕ) (file : List Located) → has_branch f name ≡ false
    → reply f (cmd.Enter name file) ≡ Err (Plain UnknownBranch)
unfolding reply
reply_missing f name file h = rw h refl

-- what is added makes the next state, which is good
pub decided_joined : (f : Federation) (c : Command) (r : Result (Answer × List Addition) Refusal) → Decides f c r
    → IfOk r (λ p. joined f p.1 ≡ (step f c).next)
decided_joined f c (Ok p) h =
    ap (joined f) h.1 ∙ sym (after_joined f c (Ok p.0)) ∙ ap (λ (r : Result Answer Refusal). after f c r) (sym h.0)
decided_joined f c (Err e) h = tt

pub decided_good : (f : Federation) (c : Command) (r : Result (Answer × List Addition) Refusal) → IsGoodState f
    → Fits f.styles c → Decides f c r → IfOk r (λ p. IsGoodState (joined f p.1))
decided_good f c (Ok p) good fits h =
    subst IsGoodState (sym (decided_joined f c (Ok p) h)) (after_good f c (reply f c) good fits (inl refl))
decided_good f c (Err e) good fits h = tt
