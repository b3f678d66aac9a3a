-- What tables show that are no treasury's.
use Rattle.std.specs.Prelude.{◌≡◌}
use Rattle.sqlite.specs.Effect.{Database}
use Rattle.treasury_state.specs.Federation.{Federation}
use Rattle.treasury_state.specs.Good.{IsGoodState}
use Rattle.treasury_state.specs.Rows.{rows}
use Rattle.treasury_tables.specs.Tables.{store_schema}
use Rattle.treasury_tables.specs.Rows.{ShowsTables}

-- The database is our tables, and their rows are those of no good state.
abbrev pub ShowsNoState : Database → Type 0
ShowsNoState db = (db.schema ≡ store_schema) × ((f : Federation) → IsGoodState f → ShowsTables db (rows f) → ⊥)
