use Rattle.std.proofs.Common.{subst}
use Rattle.money_core.specs.Style.{AreStyles}
use Rattle.treasury_reports.specs.CommoditiesReport.{AreSamples}
use Rattle.treasury_api.proofs.ListedLemmas.{samples_repeat}
use Rattle.treasury_api.proofs.laws.lists_law.Goals as goal

pub returns-clause-samples : goal.returns-clause-samples
returns-clause-samples g c =
    let same = c.styles-styles.ensures in
    samples_repeat c.args.state.now (subst AreStyles same c.are_styles.ensures)
    (subst AreSamples same c.samples_law.ensures)
