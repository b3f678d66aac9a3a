use Rattle.treasury_store.specs.Changes.{changes_from, counts_after_all}
use Rattle.treasury_store.proofs.PushLemmas.{can_next, fit_next, changes_next, counts_next, changes_end, counts_end}
use Rattle.treasury_store.proofs.changes.all_changes.Goals as goal

pub add_changes-requires : goal.add_changes-requires
add_changes-requires c =
    (can_next c.args.styles.now c.args.names.now c.addition.counts c.addition.counts c.args.additions.now
    c.addition.addition-index c.addition-item.result c.addition-test.true c.addition-item.is
    c.addition.invariant.fit).0

pub addition-preserved : goal.addition-preserved
addition-preserved c =
    let styles = c.args.styles.now in
    let names = c.args.names.now in
    let now = c.addition.counts in
    let next = c.add_changes.new.counts in
    let xs = c.args.additions.now in
    let i = c.addition.addition-index in
    let x = c.addition-item.result in
    let low = c.addition-test.true in
    let at = c.addition-item.is in
    let is = c.in_ok-add_changes.ensures.counted in
    record {
      fit = fit_next styles names now next xs i x low at is c.addition.invariant.fit;
      changes = changes_next styles names now next xs i x low at c.addition.changes c.add_changes.new.changes
          (changes_from styles names c.args.counts.now xs) is c.in_ok-add_changes.ensures.ok
          c.addition.invariant.changes;
      counts = counts_next styles names now next xs i x low at (counts_after_all names c.args.counts.now xs) is
          c.addition.invariant.counts;
    }

pub returns-clause-changes : goal.returns-clause-changes
returns-clause-changes c =
    changes_end c.args.styles.now c.args.names.now c.addition.counts c.args.additions.now c.addition.addition-index
    c.addition.changes (changes_from c.args.styles.now c.args.names.now c.args.counts.now c.args.additions.now)
    c.addition-test.false c.addition.invariant.changes

pub returns-clause-counted : goal.returns-clause-counted
returns-clause-counted c =
    counts_end c.args.names.now c.addition.counts
    (counts_after_all c.args.names.now c.args.counts.now c.args.additions.now)
    c.args.additions.now c.addition.addition-index c.addition-test.false c.addition.invariant.counts
