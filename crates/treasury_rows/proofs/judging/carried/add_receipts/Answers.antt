use Rattle.std.proofs.Common.{◌≤◌, sym, subst, List}
use Rattle.std.specs.Prelude.{unsigned_abs}
use Rattle.std.specs.List.{AllByRecursion}
use Rattle.money_core.specs.Amount.{limit}
use Rattle.treasury_state.specs.declared.transfer.Part.{Part}
use Rattle.treasury_rows.proofs.PartSizeLemmas.{all_parts_small}
use Rattle.treasury_rows.proofs.judging.carried.add_receipts.Goals as goal

pub add_parts-requires : goal.add_parts-requires
add_parts-requires c =
    subst (λ (ps : List Part). AllByRecursion (λ (p : Part). unsigned_abs p.qty ≤ limit) ps) (sym c.items.ensures)
    (all_parts_small c.args.transfer.now c.requires.parts c.requires.small)
