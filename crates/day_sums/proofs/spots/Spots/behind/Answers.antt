use Rattle.std.proofs.Common.{◌∙◌}
use Rattle.day_sums.proofs.SpotLemmas.{behind_rest}
use Rattle.day_sums.proofs.spots.Spots.behind.Goals as goal

pub returns : goal.returns
returns c = behind_rest c.args.self.now c.deref.result.now c.deref-2.result.now c.args.day c.count_through-at.result
    (c.deref.ensures.value ∙ c.self.view_is) (c.deref-2.ensures.value ∙ c.self.view_is) c.count_through-at.ensures.bound
    c.count_through-at.ensures.through c.count_through-at.ensures.behind
