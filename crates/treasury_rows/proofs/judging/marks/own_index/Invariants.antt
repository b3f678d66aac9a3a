use Rattle.std.proofs.Common.{take}
use Rattle.treasury_state.specs.Mark.{HaveOwnMarks}
use Rattle.treasury_state.specs.Index.{IsIndexOf}
use Rattle.treasury_rows.proofs.judging.marks.own_index.Given as goal

abbrev pub invariant-loop-place : goal.invariant-loop-place
invariant-loop-place l =
    record { own : HaveOwnMarks (take l.place l.rows); found : IsIndexOf l.index (take l.place l.rows) }
