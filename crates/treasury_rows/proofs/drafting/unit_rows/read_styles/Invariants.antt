use Rattle.std.proofs.Common.{◌≡◌, length}
use Rattle.money_core.specs.Style.{AreStyles}
use Rattle.treasury_state.specs.Rows.{unit_row}
use Rattle.treasury_rows.proofs.DraftLemmas.{IsFront}
use Rattle.treasury_rows.proofs.drafting.unit_rows.read_styles.Given as goal

-- the styles so far are the front of any with these rows, and the rest has the rows that are left
abbrev pub invariant-unit : goal.invariant-unit
invariant-unit l = record {
  count : length l.styles ≡ l.row-index;
  front : IsFront unit_row AreStyles 0 l.rows l.row-index l.row-index l.styles;
}
