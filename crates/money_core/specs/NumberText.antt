-- Mirrors code: what a printed number reads back as.
use Rattle.std.specs.Prelude.{◌≡◌, ℕ, List, true}
use Rattle.money_core.specs.declared.mark.Mark.{Mark}
use Rattle.money_core.specs.Number.{is_number, fraction_part, fits_decimals, quantity}

-- The text is a number with that decimal mark, of at most so many decimals that are not zeros, and writes this
-- quantity.
pub record WritesQuantity (mark : Mark) (decimals quantity_written : ℕ) (bytes : List ℕ) : Type 0 where
  pub form : is_number mark bytes ≡ true
  pub decimals_fit : fits_decimals decimals (fraction_part mark bytes) ≡ true
  pub value : quantity mark decimals bytes ≡ quantity_written
