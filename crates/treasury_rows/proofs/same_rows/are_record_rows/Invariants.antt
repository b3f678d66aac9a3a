use Rattle.treasury_rows.proofs.SameRowLemmas.{Whole}
use Rattle.treasury_rows.proofs.same_rows.are_record_rows.Given as goal

-- what is open is whether the rows that are left are those of the branches that are left
abbrev pub invariant-branch : goal.invariant-branch
invariant-branch g l = Whole g.T.RecordRow.rows l.i l.i l.branches l.fn.list l.left
