use Rattle.std.proofs.lemmas.Result.{on_ok_weaker}
use Rattle.book_core.proofs.ClaimIndexLemmas.{fronts_colon, fronts_other, inside_listed}
use Rattle.book_core.proofs.claim_index.list_fronts.Goals as goal
use Rattle.book_core.proofs.claim_index.list_fronts.Goals.{then-account-i-eq58+in_ok-list_row, else-account-i-eq58}

pub loop-i-preserved : goal.loop-i-preserved
loop-i-preserved c =
    let name = c.args.account.now in
    let index = c.args.index.now in
    elim c.if-account-i-eq58.branch [
      | then-account-i-eq58+in_ok-list_row w ↦
          rw w.rows-is
          (record {
            kept = λ n h. w.list_row.ensures.kept n (c.loop-i.invariant.kept n h);
            fronts = fronts_colon c.loop-i.rows.items w.list_row.new.rows.items index name c.loop-i.i
                w.list_row.ensures.kept w.in_ok-list_row.ensures.listed c.loop-i.invariant.fronts;
          })
      | else-account-i-eq58 w ↦
          rw w.rows-is (record {
            kept = c.loop-i.invariant.kept;
            fronts = fronts_other c.loop-i.rows.items index name c.loop-i.i w.if-account-i-eq58.false
                c.loop-i.invariant.fronts;
          })
    ]

pub returns-clause-listed : goal.returns-clause-listed
returns-clause-listed c = on_ok_weaker c.list_row-2.result
    (λ own. inside_listed c.loop-i.rows.items c.list_row-2.new.rows.items c.args.index.now c.args.account.now c.loop-i.i
    c.loop-i-test.false c.list_row-2.ensures.kept c.loop-i.invariant.fronts own) c.list_row-2.ensures.listed
