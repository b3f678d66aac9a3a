use Rattle.std.proofs.Common.{◌≡◌, ◌∙◌, ap, sym, subst, true, false}
use Rattle.treasury_state.specs.Federation.{Branch}
use Rattle.treasury_state.specs.Mark.{HaveOwnMarks}
use Rattle.treasury_state.specs.Transfer.{asked}
use Rattle.treasury_state.proofs.CarriedLemmas.{own_asked}
use Rattle.treasury_rows.proofs.CarriedLemmas.{Stand, AreAsked, moved, when_none}
use Rattle.treasury_rows.proofs.judging.carried.is_carried.Goals as goal

pub returns-in_default-clause-value : goal.returns-in_default-clause-value
returns-in_default-clause-value c =
    let ts = c.args.transfers.now in
    let b = c.args.branch.now in
    let rows : c.items.result.now ≡ asked ts b.name =
    c.items.ensures ∙ (c.in_ok-rows.ensures.value ∙ ap (asked ts)
    (c.as_str.ensures ∙ ap (λ (x : Branch). x.name) c.branch.view_is)) in
    let own : HaveOwnMarks c.items.result.now =
    subst HaveOwnMarks (sym rows) (own_asked ts b.name c.requires.marked c.requires.ids) in
    absurd (when_none c.in_ok-marks.field-0 _ _ c.in_default.is c.in_ok-marks.ensures.value own)

pub returns-then-not-are_held-clause-value : goal.returns-then-not-are_held-clause-value
returns-then-not-are_held-clause-value c =
    let ts = c.args.transfers.now in
    let b = c.args.branch.now in
    let records : c.items-records.result.now ≡ b.records =
    c.items-records.ensures ∙ ap (λ (x : Branch). x.records) c.branch.view_is in
    let rows : c.items-2.result.now ≡ asked ts b.name =
    c.items-2.ensures ∙ (c.in_ok-rows.ensures.value ∙ ap (asked ts)
    (c.as_str.ensures ∙ ap (λ (x : Branch). x.name) c.branch.view_is)) in (
      (λ h. absurd (let k : false ≡ true = h in cc)),
      (λ carried. absurd (let k : true ≡ false =
          sym (c.are_held.ensures.1
          (moved Stand _ _ _ _ records rows carried.there)) ∙ c.if-not-are_held.true in cc)),
    )

pub returns-clause-value : goal.returns-clause-value
returns-clause-value c =
    let ts = c.args.transfers.now in
    let b = c.args.branch.now in
    let records : c.items-records.result.now ≡ b.records =
    c.items-records.ensures ∙ ap (λ (x : Branch). x.records) c.branch.view_is in
    let asks =
    c.in_ok-rows.ensures.value ∙ ap (asked ts) (c.as_str.ensures ∙ ap (λ (x : Branch). x.name) c.branch.view_is) in
    let rows : c.items-2.result.now ≡ asked ts b.name = c.items-2.ensures ∙ asks in
    let others : c.items-3.result.now ≡ asked ts b.name = c.items-3.ensures ∙ asks in (
      (λ h. record {
        there = moved Stand _ _ _ _ (sym records) (sym rows) (c.are_held.ensures.0 c.if-not-are_held.false);
        asked_for = moved AreAsked _ _ _ _ (sym others) (sym records) (c.are_asked.ensures.0 h);
      }),
      (λ carried. c.are_asked.ensures.1 (moved AreAsked _ _ _ _ others records carried.asked_for)),
    )
