use Rattle.std.proofs.Common.{◌≡◌, false, List, Some, Err, IsSome, rules, ap, ◌∙◌, sym, subst}
use Rattle.sqlite.specs.Held.{state}
use Rattle.money_core.specs.declared.style.Style.{Style}
use Rattle.book_core.specs.declared.refusal.Refusal.TheVariants.{Plain}
use Rattle.treasury_state.specs.Federation.{Federation}
use Rattle.treasury_state.specs.Rows.{rows}
use Rattle.treasury_core.specs.Fits.{Fits}
use Rattle.treasury_core.specs.Step.{step}
use Rattle.treasury_store.specs.declared.store.Store.{Store}
use Rattle.treasury_tables.specs.Rows.{HoldsTables}
use Rattle.treasury_tables.specs.Kept.{KeepsTables, IsFaithful}
use Rattle.treasury_store.specs.Store.{IsOf}
use Rattle.treasury_store.specs.Treasury.{Treasury, IsTreasuryOf, SurvivesCommand}
use Rattle.treasury_store.proofs.TreasuryLemmas.{fits_held, fits_of, performs_held, ok_unfailed, performs_unheld}
use Rattle.treasury_store.proofs.TreasuryLemmas.{headline_of, SurvivesChange, survives_load, survives_settle}
use Rattle.treasury_store.proofs.TreasuryLemmas.{unfit_unheld, replies_held}
use Rattle.treasury_store.proofs.LeftLemmas.{leaves_step}
use Rattle.treasury_store.proofs.OwnRefusalLemmas.{listed_reply}
use Rattle.treasury_store.proofs.treasury.Treasury.perform.Goals.{else-not-was_held-via-then-not-was_held+else-not-fits}
use Rattle.treasury_store.proofs.treasury.Treasury.perform.Goals.{else-not-was_held-via-else-not-was_held}
use Rattle.treasury_store.proofs.treasury.Treasury.perform.Goals as goal

pub settle-requires-clause-fits : goal.settle-requires-clause-fits
settle-requires-clause-fits g c = elim c.else-not-was_held.branch [
  | else-not-was_held-via-then-not-was_held+else-not-fits w ↦ subst
      (λ (styles : List Style). Fits styles c.args.command) w.styles.ensures (w.fits.ensures.0 (search rules))
  | else-not-was_held-via-else-not-was_held w ↦
      let was : IsSome c.args.self.now.held = search rules in
      let kept : c.hold.new.self ≡ c.args.self.now = (c.in-Ok.ensures.same was).0 in
      let inside : c.self-2.inside.held ≡ Some c.in-Some.now = search rules in
      fits_held c.args.self.now.held c.in-Some.now c.args.command c.requires
      (sym (ap (λ (t : Treasury _). t.held) kept) ∙ (sym (ap (λ (t : Treasury _). t.held) c.self-2.view_is) ∙ inside))
]

pub returns-clause-of : goal.returns-clause-of
returns-clause-of g c clean unfailed f was =
    let here : c.else-not-was_held.self.store ≡ c.self-2.inside.store = elim c.else-not-was_held.branch [
      | else-not-was_held-via-then-not-was_held+else-not-fits w ↦ ap (λ (t : Treasury _). t.store) w.self-is
      | else-not-was_held-via-else-not-was_held w ↦ ap (λ (t : Treasury _). t.store) w.self-is
    ] in
    let back = sym c.self-2.view_is in
    let inside : Treasury _ = record { store = c.self-2.inside.store; held = c.self-2.inside.held } in
    let clean_there =
    subst (λ (s : Store _). IsFaithful g.S.Store s.conn) here (c.settle.ensures.clean clean) in
    let of = subst (λ (t : Treasury _). IsFaithful g.S.Store t.store.conn → IsTreasuryOf g.S.Store t f) back
    (λ k. c.in-Ok.ensures.of k f was) clean_there in
    let still = subst (λ (t : Treasury _). t.store.failed ≡ false) back
    (ok_unfailed c.in-Ok.field-0 _ (c.in-Ok.ensures.answers unfailed)) in
    record {
      performs = λ fits. performs_held g.S.Store inside c.settle.new.self c.in-Some.now f c.args.command c.settle.result
          (search rules) of
          (λ store. c.settle.ensures.performs (subst (λ (s : Store _). IsOf g.S.Store s c.in-Some.now) (sym here) store)
          (ap (λ (s : Store _). s.failed) here ∙ still));
      unfit = λ unfit. absurd (unfit (fits_of g.S.Store inside c.in-Some.now f c.args.command (search rules) of
          (settle-requires-clause-fits g c.before.before)));
    }

pub returns-clause-headline : goal.returns-clause-headline
returns-clause-headline g c clean unfailed f was fits =
    headline_of g.S.Store c.settle.new.self f c.args.command c.settle.result was.store.good fits
    ((returns-clause-of g c clean unfailed f was).performs fits)

pub returns-in-Err-clause-of : goal.returns-in-Err-clause-of
returns-in-Err-clause-of g c clean unfailed f was =
    let next = c.in-Err.ensures.of clean f was in
    record {
      performs = λ fits. performs_unheld g.S.Store c.hold.new.self f c.args.command c.in-Err.cause _
          (c.in-Err.ensures.answers unfailed) (λ damaged. c.in-Err.ensures.damaged damaged clean f was) next;
      unfit = λ unfit. (unfit_unheld c.in-Err.cause _ (c.in-Err.ensures.answers unfailed), next);
    }

pub returns-in-Err-clause-headline : goal.returns-in-Err-clause-headline
returns-in-Err-clause-headline g c clean unfailed f was fits =
    headline_of g.S.Store c.hold.new.self f c.args.command (Err (Plain c.in-Err.cause)) was.store.good fits
    ((returns-in-Err-clause-of g c clean unfailed f was).performs fits)

pub returns-in-Err-clause-leaves : goal.returns-in-Err-clause-leaves
returns-in-Err-clause-leaves g c =
    let crash : SurvivesCommand g.S.Store c.args.self.now c.hold.new.self c.args.command =
    survives_load g.S.Store c.args.self.now c.hold.new.self c.args.command c.hold.ensures.crash in
    record {
      crash = crash;
      left = leaves_step g.S.Store g.met.S.Store.settled c.args.self.now c.hold.new.self c.args.command crash;
    }

pub returns-clause-leaves : goal.returns-clause-leaves
returns-clause-leaves g c =
    let here : c.else-not-was_held.self.store ≡ c.self-2.inside.store = elim c.else-not-was_held.branch [
      | else-not-was_held-via-then-not-was_held+else-not-fits w ↦ ap (λ (t : Treasury _). t.store) w.self-is
      | else-not-was_held-via-else-not-was_held w ↦ ap (λ (t : Treasury _). t.store) w.self-is
    ] in
    let back = sym c.self-2.view_is in
    let crash : SurvivesCommand g.S.Store c.args.self.now c.settle.new.self c.args.command =
    survives_settle g.S.Store c.args.self.now c.settle.new.self c.args.command
    (record { store = c.self-2.inside.store; held = c.self-2.inside.held }) c.in-Some.now
    (λ clean. subst (λ (s : Store _). IsFaithful g.S.Store s.conn) here (c.settle.ensures.clean clean))
    (subst (λ (t : Treasury _). KeepsTables g.S.Store c.args.self.now.store.conn t.store.conn) back
    c.hold.ensures.crash)
    (subst (λ (t : Treasury _). IsFaithful g.S.Store t.store.conn → (f : Federation)
    → IsTreasuryOf g.S.Store c.args.self.now f → IsTreasuryOf g.S.Store t f) back c.in-Ok.ensures.of)
    (subst (λ (t : Treasury _). IsFaithful g.S.Store t.store.conn → (f : Federation)
    → IsTreasuryOf g.S.Store c.args.self.now f → HoldsTables (state g.S.Store c.args.self.now.store.conn).now (rows f)
    → HoldsTables (state g.S.Store t.store.conn).now (rows f)) back c.in-Ok.ensures.rows)
    (search rules)
    (subst (λ (s : Store _). SurvivesChange g.S.Store s c.settle.new.self.store.conn c.in-Some.now
    (step c.in-Some.now c.args.command).next) here c.settle.ensures.crash) in
    record {
      crash = crash;
      left = leaves_step g.S.Store g.met.S.Store.settled c.args.self.now c.settle.new.self c.args.command crash;
    }

pub returns-clause-replies : goal.returns-clause-replies
returns-clause-replies g c unfailed =
    let here : c.else-not-was_held.self.store ≡ c.self-2.inside.store = elim c.else-not-was_held.branch [
      | else-not-was_held-via-then-not-was_held+else-not-fits w ↦ ap (λ (t : Treasury _). t.store) w.self-is
      | else-not-was_held-via-else-not-was_held w ↦ ap (λ (t : Treasury _). t.store) w.self-is
    ] in
    let back = sym c.self-2.view_is in
    let still = subst (λ (t : Treasury _). t.store.failed ≡ false) back
    (ok_unfailed c.in-Ok.field-0 _ (c.in-Ok.ensures.answers unfailed)) in
    let unfailed_there = ap (λ (s : Store _). s.failed) here ∙ still in
    let replies = c.settle.ensures.replies unfailed_there in
    let inside : c.self-2.inside.held ≡ Some c.in-Some.now = search rules in
    record {
      fails = c.settle.ensures.fails unfailed_there;
      listed = listed_reply c.in-Some.now c.args.command c.settle.result replies;
      held = replies_held c.args.self.now.held c.in-Some.now c.args.command c.settle.result
          (λ was. ap (λ (t : Treasury _). t.held) (sym (c.in-Ok.ensures.same was).0 ∙ back) ∙ inside) replies;
    }

pub returns-in-Err-clause-strange : goal.returns-in-Err-clause-strange
returns-in-Err-clause-strange g c clean unfailed unheld none =
    (unfit_unheld c.in-Err.cause _ (c.in-Err.ensures.answers unfailed), c.hold.ensures.unchanged clean)

pub returns-clause-strange : goal.returns-clause-strange
returns-clause-strange g c clean unfailed unheld none =
    let here : c.else-not-was_held.self.store ≡ c.self-2.inside.store = elim c.else-not-was_held.branch [
      | else-not-was_held-via-then-not-was_held+else-not-fits w ↦ ap (λ (t : Treasury _). t.store) w.self-is
      | else-not-was_held-via-else-not-was_held w ↦ ap (λ (t : Treasury _). t.store) w.self-is
    ] in
    let at_hold = subst (λ (t : Treasury _). IsFaithful g.S.Store t.store.conn) c.self-2.view_is
    (subst (λ (s : Store _). IsFaithful g.S.Store s.conn) here (c.settle.ensures.clean clean)) in
    absurd (c.in-Ok.ensures.shown at_hold unheld none)
