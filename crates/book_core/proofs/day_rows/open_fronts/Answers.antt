use Rattle.book_core.proofs.RaiseLemmas.{same_more, fronts_kept, fronts_colon, fronts_other}
use Rattle.book_core.proofs.day_rows.open_fronts.Goals as goal
use Rattle.book_core.proofs.day_rows.open_fronts.Goals.{then-account-i-eq58+in_ok-open_row, else-account-i-eq58}

pub loop-i-preserved : goal.loop-i-preserved
loop-i-preserved c =
    let name = c.args.account.now in
    elim c.if-account-i-eq58.branch [
      | then-account-i-eq58+in_ok-open_row w ↦
          rw w.rows-is
          (record {
            same = same_more c.args.rows.now c.loop-i.rows w.open_row.new.self c.loop-i.invariant.same
                w.open_row.ensures.same;
            opened =
                fronts_colon w.open_row.new.self name c.args.unit c.args.day c.args.number c.loop-i.i
                w.in_ok-open_row.ensures.open
                (fronts_kept c.loop-i.rows w.open_row.new.self name c.args.unit c.args.day c.args.number c.loop-i.i
                w.open_row.ensures.same.opened c.loop-i.invariant.opened);
          })
      | else-account-i-eq58 w ↦
          rw w.rows-is (record {
            same = c.loop-i.invariant.same;
            opened = fronts_other c.loop-i.rows name c.args.unit c.args.day c.args.number c.loop-i.i
                w.if-account-i-eq58.false c.loop-i.invariant.opened;
          })
    ]

pub returns-in_err-open_row-clause-same : goal.returns-in_err-open_row-clause-same
returns-in_err-open_row-clause-same c =
    same_more c.args.rows.now c.loop-i.rows c.open_row.new.self c.loop-i.invariant.same c.open_row.ensures.same

pub returns-clause-same : goal.returns-clause-same
returns-clause-same c =
    same_more c.args.rows.now c.loop-i.rows c.open_row-2.new.self c.loop-i.invariant.same c.open_row-2.ensures.same
