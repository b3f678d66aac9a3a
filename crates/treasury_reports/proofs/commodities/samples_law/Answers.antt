use Rattle.treasury_reports.proofs.SampleLemmas.{are_samples}
use Rattle.treasury_reports.proofs.commodities.samples_law.Goals as goal

pub returns : goal.returns
returns c = are_samples c.args.styles.now c.are_styles.ensures
