use Rattle.std.proofs.Common.{◌≡◌, false, take}
use Rattle.std.specs.List.{list_any}
use Rattle.sqlite_schema.specs.Names.{same_name}
use Rattle.treasury_tables.proofs.open.has_table.Given as goal

abbrev pub invariant-table : goal.invariant-table
invariant-table g l = list_any (λ t. same_name t.name l.name) (take l.table-index l.tables) ≡ false
