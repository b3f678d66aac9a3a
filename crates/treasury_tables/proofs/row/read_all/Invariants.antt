use Rattle.std.proofs.Common.{◌≡◌, List, map, take}
use Rattle.treasury_tables.proofs.row.read_all.Given as goal

abbrev pub invariant-row : goal.invariant-row
invariant-row g l =
    ((ys : List g.row.T.Denot) → l.rows ≡ map g.T.FromRow.columns ys → l.list.items ≡ take l.row-index ys)
    × (map g.T.FromRow.columns l.list.items ≡ take l.row-index (map g.T.FromRow.front l.rows))
