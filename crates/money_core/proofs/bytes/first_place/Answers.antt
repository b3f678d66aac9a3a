use Rattle.std.proofs.Common.{◌==◌, sym}
use Rattle.money_core.proofs.PositionLemmas.{position-none}
use Rattle.money_core.proofs.bytes.first_place.Goals as goal

pub returns-in-None-clause-place : goal.returns-in-None-clause-place
returns-in-None-clause-place c = position-none (λ b. b == c.args.byte) c.args.text.now (sym c.in-None.ensures)
