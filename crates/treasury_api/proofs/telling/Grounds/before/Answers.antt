use Rattle.std.proofs.Common.{◌∙◌}
use Rattle.treasury_notes.specs.RequestNotes.{held_before}
use Rattle.treasury_api.proofs.BesideLemmas.{held_lent}
use Rattle.treasury_api.proofs.telling.Grounds.before.Goals as goal

pub returns-clause-held : goal.returns-clause-held
returns-clause-held g c =
    c.held_before.ensures
    ∙ held_lent (λ x. x.now) c.state.result _ (λ f. held_before f c.args.request.now) c.state.ensures
