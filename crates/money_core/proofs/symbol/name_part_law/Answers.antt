use Rattle.money_core.proofs.SymbolText.{name_parts}
use Rattle.money_core.proofs.symbol.name_part_law.Goals as goal

pub returns : goal.returns
returns c = name_parts
