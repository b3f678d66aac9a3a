use Rattle.std.proofs.Common.{◌≡◌, ◌∙◌, true, false, ap, sym, subst, arith, length, List, map}
use Rattle.treasury_state.specs.declared.rows.PartRow.{PartRow}
use Rattle.treasury_state.specs.declared.transfer.Part.{Part}
use Rattle.treasury_state.specs.Rows.{part_row, part_rows}
use Rattle.treasury_rows.proofs.SameRowLemmas.{says_no, PartsLeft, parts_start}
use Rattle.treasury_rows.proofs.same_rows.are_part_rows.Goals as goal

pub transfer-init : goal.transfer-init
transfer-init c = parts_start c.args.transfers.now c.args.list.now
