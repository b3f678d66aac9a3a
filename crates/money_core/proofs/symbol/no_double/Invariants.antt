use Rattle.std.proofs.Common.{◌≡◌, ◌&&◌, ◌==◌, not, drop, slice_index}
use Rattle.money_core.specs.Symbol.{no_double}
use Rattle.money_core.proofs.symbol.no_double.Given as goal

-- what is left decides, with the space before it
abbrev pub invariant-loop-byte : goal.invariant-loop-byte
invariant-loop-byte l = (not (l.after_space && (slice_index (drop l.byte-index l.text) 0 == 32))
    && no_double (drop l.byte-index l.text)) ≡ no_double l.text
