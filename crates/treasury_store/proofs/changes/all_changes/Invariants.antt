use Rattle.std.proofs.Common.{◌≡◌, ◌++◌, drop}
use Rattle.treasury_store.specs.Changes.{changes_from, counts_after_all, CanWriteFrom}
use Rattle.treasury_store.proofs.changes.all_changes.Given as goal

-- so far, and with the rest they are all
abbrev pub invariant-addition : goal.invariant-addition
invariant-addition l = record {
  fit : CanWriteFrom l.styles l.names l.counts (drop l.addition-index l.additions);
  changes : l.changes ++ changes_from l.styles l.names l.counts (drop l.addition-index l.additions)
      ≡ changes_from l.styles l.names l.fn.counts l.additions;
  counts : counts_after_all l.names l.counts (drop l.addition-index l.additions)
      ≡ counts_after_all l.names l.fn.counts l.additions;
}
