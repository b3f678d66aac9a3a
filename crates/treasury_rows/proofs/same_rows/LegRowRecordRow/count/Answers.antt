use Rattle.std.proofs.Common.{◌∙◌, List, length, ap, sym}
use Rattle.book_core.specs.declared.leg.Leg.{Leg}
use Rattle.treasury_state.specs.Rows.{leg_row}
use Rattle.treasury_rows.proofs.SameRowLemmas.{length-numbered}
use Rattle.treasury_rows.proofs.same_rows.LegRowRecordRow.count.Goals as goal

pub returns : goal.returns
returns c = λ b n. length-numbered (leg_row b n) 1 _ ∙ ap (λ (xs : List Leg). length xs) (sym c.items.ensures)
