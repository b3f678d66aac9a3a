-- Mirrors code: the parts of an amount and the style of a sample, without where they lie in memory.
use Rattle.money_core.specs.declared.symbol.Cut as cut
use Rattle.money_core.specs.declared.amount.Parts as parts
use Rattle.money_core.specs.declared.sample.Spelled.{Spelled}
use Rattle.money_core.specs.declared.style.Style.{Style}
use Rattle.money_core.specs.Amount.{Parts}
use Rattle.money_core.specs.Cutting.{Cut}

-- a symbol and what follows it, as lists
abbrev pub cut_view : cut.Cut → Cut
cut_view c = record { symbol = c.symbol.now; rest = c.rest.now }

-- the parts, as lists
abbrev pub parts_view : parts.Parts → Parts
parts_view p = record { sign = p.sign; left = p.left; spaced = p.spaced; symbol = p.symbol.now; number = p.number.now }

-- the style without where its symbol lies in memory
abbrev pub spelled_view : Spelled → Style
spelled_view s = record {
  symbol = s.symbol.now;
  left = s.left;
  spaced = s.spaced;
  mark = s.mark;
  decimals = s.decimals;
  grouped = s.grouped;
}
