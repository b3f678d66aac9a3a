use Rattle.std.proofs.Common.{◌≡◌, true, drop}
use Rattle.std.specs.Prelude.{◌↔◌}
use Rattle.std.specs.List.{AllByRecursion}
use Rattle.treasury_state.specs.declared.transfer.Part.{Part}
use Rattle.treasury_state.specs.Transfer.{is_key}
use Rattle.treasury_rows.proofs.judging.transfers.are_keys.Given as goal

abbrev pub invariant-loop-part : goal.invariant-loop-part
invariant-loop-part l = AllByRecursion (λ (p : Part). is_key p.key ≡ true) (drop l.part-index l.parts)
    ↔ AllByRecursion (λ (p : Part). is_key p.key ≡ true) l.parts
