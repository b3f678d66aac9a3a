use Rattle.std.proofs.Common.{◌≡◌, ◌-◌, ◌++◌, length, map}
use Rattle.journal_balance.specs.Legs.{commodities, declared_commodities}
use Rattle.journal_hints.specs.Samples.{written_sample}
use Rattle.journal_hints.proofs.hints.say_samples.Given as goal

-- how the commodities so far are written, and the rest
abbrev pub invariant-loop-number : goal.invariant-loop-number
invariant-loop-number l = record {
  kind : l.message.kind ≡ l.fn.kind;
  all : l.message.values ++ map (written_sample l.styles) (commodities l.number (length l.styles - l.number))
      ≡ map (written_sample l.styles) (declared_commodities l.styles);
}
