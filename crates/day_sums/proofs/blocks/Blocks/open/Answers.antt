use Rattle.std.proofs.Common.{subst}
use Rattle.day_sums.specs.Blocks.{Spread, SameDays}
use Rattle.day_sums.proofs.BlockLemmas.{same_days, kept_spread, tops_opened}
use Rattle.day_sums.proofs.blocks.Blocks.open.Goals as goal

pub invariant_of-self : goal.invariant_of-self
invariant_of-self c = (tops_opened c.self.inside.tops c.open.new.self c.self.inside.parts.entries
    c.in_err-open.ensures.same c.self.invariant).0

pub returns-in_err-open-clause-same : goal.returns-in_err-open-clause-same
returns-in_err-open-clause-same c = subst
    (λ (r : Spread). SameDays r (c.open.new.self, c.self.inside.parts.entries)) c.self.view_is
    (tops_opened c.self.inside.tops c.open.new.self c.self.inside.parts.entries c.in_err-open.ensures.same
    c.self.invariant).1

pub invariant_of-self-2 : goal.invariant_of-self-2
invariant_of-self-2 c = kept_spread (c.self.inside.tops, c.self.inside.parts.entries)
    (c.open.new.self, c.open_in.new.parts.entries) c.in_ok-open.ensures.same c.open_in.ensures.same c.self.invariant

pub returns-clause-same : goal.returns-clause-same
returns-clause-same c = subst (λ (r : Spread). SameDays r (c.open.new.self, c.open_in.new.parts.entries))
    c.self.view_is
    (same_days (c.self.inside.tops, c.self.inside.parts.entries) (c.open.new.self, c.open_in.new.parts.entries)
    c.in_ok-open.ensures.same c.open_in.ensures.same)
