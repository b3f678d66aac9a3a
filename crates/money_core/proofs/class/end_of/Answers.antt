use Rattle.std.proofs.Common.{not, sym}
use Rattle.money_core.specs.Class.{is_of_class}
use Rattle.money_core.proofs.PositionLemmas.{position-none}
use Rattle.money_core.proofs.class.end_of.Goals as goal

pub returns-in-None-clause-place : goal.returns-in-None-clause-place
returns-in-None-clause-place c =
    position-none (λ b. not (is_of_class c.args.class b)) c.args.text.now (sym c.in-None.ensures)
