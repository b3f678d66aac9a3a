use Rattle.std.proofs.Common.{◌≡◌, ℕ, List, []}
use Rattle.sqlite.specs.Held.{Held}
use Rattle.treasury_tables.specs.Reading.{HasReadSoFar}
use Rattle.treasury_tables.proofs.row.read_each.Given as goal

-- the items so far are the rows that the query gave so far
abbrev pub invariant-row : goal.invariant-row
invariant-row g l =
    (l.rows.conn.ghost_name ≡ l.initial.rows.conn.ghost_name)
    × ((sql : List ℕ) (first : Held g.row.S.Denot)
    → HasReadSoFar g.S.Store g.T.FromRow.columns g.T.FromRow.front sql first l.fn.rows.conn.now []
    → HasReadSoFar g.S.Store g.T.FromRow.columns g.T.FromRow.front sql first l.rows.conn.now l.list.items)
