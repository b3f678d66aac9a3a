use Rattle.std.proofs.Common.{◌≡◌, ◌++◌, map}
use Rattle.treasury_state.specs.declared.record.Record.{Record}
use Rattle.treasury_state.specs.declared.delta.Addition.TheVariants as add
use Rattle.treasury_core.proofs.decision.additions_of.Given as goal

abbrev pub invariant-rows : goal.invariant-rows
invariant-rows l = l.list.items ++ map (λ (r : Record). add.Record l.name r) l.row-iterator.rest.items
    ≡ map (λ (r : Record). add.Record l.name r) l.fn.rows
