use Rattle.std.proofs.Common.{◌≡◌, ◌∙◌, ◌<◌, List, length, get_or, sym, subst}
use Rattle.book_core.specs.declared.leg.Leg.{Leg}
use Rattle.treasury_reasons.proofs.FailureLemmas.{seen_next}
use Rattle.treasury_reasons.proofs.touching.Watched.is_touched_by.Goals as goal

pub loop-at-preserved : goal.loop-at-preserved
loop-at-preserved c =
    let at = c.loop-at.at in
    let leg = c.leg-item.result in
    let entry = c.args.entry.now in
    seen_next c.args.self.now c.args.end entry.day c.args.number at entry.legs leg _
    (subst (λ (legs : List Leg). at < length legs) c.items-leg-items.ensures c.loop-at-test.true)
    (subst (λ (legs : List Leg). leg ≡ get_or legs at leg) c.items-leg-items.ensures c.leg-item.is)
    (sym c.sees.ensures ∙ c.if-sees.false) c.loop-at.invariant
