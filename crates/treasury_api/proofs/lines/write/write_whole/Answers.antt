use Rattle.std.proofs.Common.{arith, length-drop}
use Rattle.std.proofs.lemmas.Grind.{common_steps}
use Rattle.journal_lines.proofs.LineSteps.{whole_rest}
use Rattle.treasury_api.proofs.WriteLemmas.{written_more}
use Rattle.treasury_api.proofs.lines.write.write_whole.Goals as goal

pub writing-preserved : goal.writing-preserved
writing-preserved g c = record {
  within = (let h = rw (whole_rest c.writing.at c.args.text.now) at c.in-Ok.ensures.bound in grind
      (arith, common_steps, length-drop));
  written =
      written_more _ _ _ c.writing.at c.in-Ok.count c.args.text.now c.writing.invariant.written c.in-Ok.ensures.bytes;
}
