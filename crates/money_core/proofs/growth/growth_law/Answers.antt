use Rattle.money_core.proofs.GrowthLemmas.{styles_grow}
use Rattle.money_core.proofs.growth.growth_law.Goals as goal

pub returns : goal.returns
returns c = styles_grow
