use Rattle.std.proofs.Common.{◌∙◌, ap, pos}
use Rattle.day_sums.specs.Row.{Kept, whole, has_number}
use Rattle.day_sums.proofs.FirstLemmas.{one_open}
use Rattle.day_sums.proofs.row.Row.of.Goals as goal

pub returns-clause-open : goal.returns-clause-open
returns-clause-open c =
    ap (λ (r : Kept). has_number (whole c.args.day c.args.number (pos 0) r) c.args.day c.args.number) c.empty.ensures
    ∙ one_open c.args.day c.args.number (pos 0)
