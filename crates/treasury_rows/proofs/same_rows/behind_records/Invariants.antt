use Rattle.std.proofs.Common.{◌+◌}
use Rattle.treasury_rows.proofs.SameRowLemmas.{Behind}
use Rattle.treasury_rows.proofs.same_rows.behind_records.Given as goal

-- what more stands after all rows stands after those of the records that are left
abbrev pub invariant-held : goal.invariant-held
invariant-held g l = Behind (g.T.RecordRow.rows l.branch) (l.i + 1) l.i l.records l.fn.list l.left
