use Rattle.std.proofs.Common.{◌≡◌, ◌+◌, ◌++◌, ℕ, map, drop}
use Rattle.std.specs.List.{enumerate_from}
use Rattle.book_core.specs.declared.leg.Leg.{Leg}
use Rattle.treasury_state.specs.Rows.{leg_row, leg_rows}
use Rattle.treasury_tables.specs.declared.change.Change.TheVariants.{Leg as LegChange}
use Rattle.treasury_store.proofs.changes.push_legs.Given as goal

-- so far, and with the rest they are all
abbrev pub invariant-leg : goal.invariant-leg
invariant-leg l = record {
  count : l.place ≡ l.leg-index;
  all : l.changes ++ map LegChange
      (map (λ (p : ℕ × Leg). leg_row l.branch l.nr p.0 p.1)
      (enumerate_from (l.place + 1) (drop l.leg-index l.kept.entry.legs)))
      ≡ l.fn.changes ++ map LegChange (leg_rows l.branch l.nr l.kept);
}
