use Rattle.std.proofs.Common.{subst}
use Rattle.day_sums.specs.Row.{Kept, SameRow}
use Rattle.day_sums.proofs.RowLemmas.{same_row, kept_row}
use Rattle.day_sums.proofs.days.Days.open.Goals as goal

pub invariant_of-self-2 : goal.invariant_of-self-2
invariant_of-self-2 c = kept_row (c.self.inside.days, c.self.inside.numbers.entries)
    (c.open.new.self, c.open_in.new.parts.entries) c.in_ok-open.ensures.same c.open_in.ensures.same
    c.self.invariant

pub returns-clause-same : goal.returns-clause-same
returns-clause-same c = subst (λ (r : Kept). SameRow r (c.open.new.self, c.open_in.new.parts.entries))
    c.self.view_is
    (same_row (c.self.inside.days, c.self.inside.numbers.entries) (c.open.new.self, c.open_in.new.parts.entries)
    c.in_ok-open.ensures.same c.open_in.ensures.same)
