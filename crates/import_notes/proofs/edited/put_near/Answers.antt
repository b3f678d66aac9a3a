use Rattle.std.proofs.Common.{rules, arith}
use Rattle.std.proofs.lemmas.Grind.{common_steps}
use Rattle.import_notes.specs.Edited.{near, pairs_near}
use Rattle.import_notes.proofs.EditedLemmas.{found_next}
use Rattle.import_notes.proofs.edited.put_near.Goals as goal

pub loop-likeness-preserved : goal.loop-likeness-preserved
loop-likeness-preserved c =
    found_next (pairs_near c.args.held.now c.args.at c.args.new.now) near c.loop-likeness.likeness-index _
    c.loop-likeness.found.items c.put_later.new.found.items _ c.loop-likeness-test.true
    (first_of (search rules, grind (arith, common_steps))) c.in_ok-put_later.ensures c.loop-likeness.invariant
