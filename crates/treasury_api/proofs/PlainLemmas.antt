-- The lines of plain refusals.
use Rattle.std.proofs.Common.{ℕ}
use Rattle.std.specs.Fmt.{digits}

-- a line `unfolding` that names this computes the digits of numerals
unfoldable pub on_numerals : ℕ
unfolding digits
on_numerals = 0
