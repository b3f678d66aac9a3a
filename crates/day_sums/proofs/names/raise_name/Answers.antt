use Rattle.std.proofs.Common.{rules}
use Rattle.day_sums.proofs.NameLemmas.{row_other}
use Rattle.day_sums.proofs.names.raise_name.Goals as goal

pub returns-in-Some-clause-others : goal.returns-in-Some-clause-others
returns-in-Some-clause-others c =
    row_other c.args.account.now c.args.names.now (c.get_mut.follows.lender c.raise.new.self) c.raise.new.self
    ((c.get_mut.follows.holds c.raise.new.self).3 (search rules))
