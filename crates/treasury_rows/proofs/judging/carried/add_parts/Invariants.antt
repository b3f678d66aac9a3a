use Rattle.std.proofs.Common.{◌≡◌, ◌++◌, ◌≤◌, drop, map}
use Rattle.std.specs.Prelude.{unsigned_abs}
use Rattle.std.specs.List.{AllByRecursion}
use Rattle.money_core.specs.Amount.{limit}
use Rattle.treasury_state.specs.declared.transfer.Part.{Part}
use Rattle.treasury_state.specs.Transfer.{receipt_record}
use Rattle.treasury_rows.proofs.judging.carried.add_parts.Given as goal

abbrev pub invariant-part : goal.invariant-part
invariant-part l = record {
  all : l.rows ++ map (receipt_record l.transfer) (drop l.part-index l.parts)
      ≡ l.initial.rows ++ map (receipt_record l.transfer) l.parts;
  small : AllByRecursion (λ (p : Part). unsigned_abs p.qty ≤ limit) (drop l.part-index l.parts);
}
