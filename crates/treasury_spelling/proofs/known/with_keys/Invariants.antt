use Rattle.std.proofs.Common.{◌≡◌, drop, map}
use Rattle.clap.specs.Simple.{app_of}
use Rattle.clap.specs.declared.builder.command.Command.TheViews.{out-Command}
use Rattle.treasury_spelling.specs.Known.{argument}
use Rattle.treasury_spelling.specs.Knowing.{with_rules}
use Rattle.treasury_spelling.proofs.known.with_keys.Given as goal

-- the keys so far, and the rest
abbrev pub invariant-loop-key : goal.invariant-loop-key
invariant-loop-key l = record {
  app : with_rules (app_of l.command) (map (argument l.word l.is_needed) (drop l.key-index l.keys))
      ≡ with_rules (app_of l.initial.command) (map (argument l.word l.is_needed) l.keys);
  local : (out-Command l.command).has_globals ≡ (out-Command l.initial.command).has_globals;
}
