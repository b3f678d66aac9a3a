use Rattle.std.proofs.Common.{◌≡◌, false, take}
use Rattle.std.specs.List.{list_any}
use Rattle.treasury_tables.specs.Creating.{is_ours}
use Rattle.treasury_tables.proofs.create.has_one.Given as goal

abbrev pub invariant-table : goal.invariant-table
invariant-table g l = list_any (λ t. is_ours t.name) (take l.table-index l.tables) ≡ false
