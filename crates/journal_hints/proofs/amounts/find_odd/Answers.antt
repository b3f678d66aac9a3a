use Rattle.std.proofs.Common.{map}
use Rattle.journal_hints.specs.OddAmount.{odd_view}
use Rattle.journal_hints.proofs.BelowLemmas.{none_below}
use Rattle.journal_hints.proofs.OddLemmas.{none_odd_left}
use Rattle.journal_hints.proofs.amounts.find_odd.Goals as goal

pub returns : goal.returns
returns c =
    let it = c.loop-number in
    none_odd_left c.args.styles.now _ (map odd_view it.found.items) _
    (none_below it.below.heads.now it.below.inside _ c.in-None.ensures.steps.0) it.invariant
