use Rattle.std.proofs.Common.{take}
use Rattle.treasury_core.proofs.RowsLemmas.{rows_next, balanced_next, count_next}
use Rattle.treasury_core.proofs.FileLemmas.{txns_of}
use Rattle.treasury_core.proofs.file.records_in_file.Goals as goal

pub loop-located-preserved : goal.loop-located-preserved
loop-located-preserved c =
    let styles = c.args.styles.now in
    let file = c.args.file.now in
    let i = c.loop-located.located-index in
    let x = c.located-item.result in
    let before = txns_of (take i file) in
    record {
      all = rows_next styles file i x c.loop-located.rows.items c.push.new.self.items _ c.in-Ok-record_in_file.row
          c.loop-located-test.true c.located-item.is c.in-Ok-push.ensures.items
          (c.in-Ok-record_in_file.ensures.value before c.loop-located.invariant.counted) c.loop-located.invariant.all;
      balanced = balanced_next styles file i x _ c.loop-located-test.true c.located-item.is
          c.in-Ok-record_in_file.ensures.balanced c.loop-located.invariant.balanced;
      counted = count_next styles file i x c.record_in_file.new.counts c.loop-located-test.true c.located-item.is
          (c.in-Ok-record_in_file.ensures.counted before c.loop-located.invariant.counted);
    }
