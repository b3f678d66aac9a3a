use Rattle.std.proofs.Common.{◌+◌, arith}
use Rattle.treasury_rows.proofs.SameRowLemmas.{behind_end}
use Rattle.treasury_rows.proofs.same_rows.behind_records.Goals as goal

pub returns : goal.returns
returns g c =
    behind_end (g.T.RecordRow.rows c.args.branch) (c.held.i + 1) c.held.i c.args.records.now c.args.list.now
    c.held.left.now (omega arith) c.held.invariant
