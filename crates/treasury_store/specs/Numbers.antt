-- What new rows are numbered by.
use Rattle.std.specs.Prelude.{ℕ, List, map, length}
use Rattle.money_core.specs.declared.style.Style.{Style}
use Rattle.treasury_state.specs.Federation.{Branch, Federation, names_of}

-- the commodities, under which bodies are printed; the names of the branches, in order, and how many records each has
pub record Numbering : Type 0 where
  pub styles : List Style
  pub names : List (List ℕ)
  pub records : List ℕ

-- how many records each branch has
abbrev pub records_each : List Branch → List ℕ
records_each bs = map (λ (b : Branch). length b.records) bs

-- those of a state
abbrev pub numbers_of : Federation → Numbering
numbers_of f = record { styles = f.styles; names = names_of f.branches; records = records_each f.branches }
