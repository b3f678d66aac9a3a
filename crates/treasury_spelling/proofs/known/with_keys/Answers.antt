use Rattle.std.proofs.Common.{◌∙◌}
use Rattle.treasury_spelling.specs.Known.{argument}
use Rattle.treasury_spelling.proofs.KnownLemmas.{rule_added, globals_stay, rules_rest}
use Rattle.treasury_spelling.proofs.known.with_keys.Goals as goal

pub loop-key-preserved : goal.loop-key-preserved
loop-key-preserved c = record {
  app = rules_rest (argument c.args.word c.args.is_needed) c.args.keys.now c.loop-key.key-index _ _ _ _
      c.loop-key-test.true
      (rule_added _ c.argument.result c.loop-key.command c.in_ok-command.command c.argument.ensures.rule
      c.argument.ensures.local c.in_ok-command.ensures)
      c.loop-key.invariant.app;
  local = globals_stay c.argument.result c.loop-key.command c.in_ok-command.command c.argument.ensures.local
      c.in_ok-command.ensures
      ∙ c.loop-key.invariant.local;
}
