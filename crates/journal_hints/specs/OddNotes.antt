-- The notes of odd amounts beside an import (own rule; docs/RULES.md, "Notes").
use Rattle.std.specs.Prelude.{ℕ, List}
use Rattle.money_core.specs.declared.style.Style.{Style}
use Rattle.journal_hints.specs.Listed.{most_notes, listed}
use Rattle.treasury_messages.specs.Said.{Said}
use Rattle.journal_hints.specs.OddAmount.{odd_said, odd_amounts}

-- the notes of the odd amounts of the transactions whose headers stand on these lines
unfoldable pub odd_notes : List Style → List ℕ → List ℕ → List ℕ → List Said
odd_notes styles source text heads = listed most_notes (odd_said styles source) (odd_amounts styles heads text)
