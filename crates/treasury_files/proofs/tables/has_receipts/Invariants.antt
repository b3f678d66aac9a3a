use Rattle.std.proofs.Common.{◌≡◌, false, take, codes}
use Rattle.std.specs.List.{list_any}
use Rattle.sqlite_schema.specs.Names.{same_name}
use Rattle.treasury_files.proofs.tables.has_receipts.Given as goal

abbrev pub invariant-table : goal.invariant-table
invariant-table l = list_any (λ t. same_name t.name (codes "receipt")) (take l.table-index l.tables) ≡ false
