use Rattle.std.proofs.Common.{◌≡◌, List, map, subst}
use Rattle.std.specs.Prelude.{◌↔◌, IsTrue}
use Rattle.std.specs.List.{enumerate_from}
use Rattle.book_core.specs.declared.leg.Leg.{Leg}
use Rattle.treasury_state.specs.Rows.{leg_row}
use Rattle.treasury_rows.proofs.same_rows.LegRowRecordRow.are_rows.Goals as goal

pub returns : goal.returns
returns c =
    subst (λ (xs : List Leg). IsTrue c.are_leg_rows.result
    ↔ (map (λ p. leg_row c.args.branch c.args.nr p.0 p.1) (enumerate_from 1 xs) ≡ c.args.list.now)) c.items.ensures
    c.are_leg_rows.ensures
