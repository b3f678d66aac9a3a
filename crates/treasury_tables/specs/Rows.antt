-- What the tables show and hold (docs/FORMATS.md, "Tables"): their rows as a query reads them, column by column.
use Rattle.std.specs.Prelude.{◌≡◌, ◌⊎◌, ℕ, ℤ, pos, Some, List, [], ◌∷◌, map, fold, if◌then◌else◌, IsPermutation}
use Rattle.std.specs.Ordering.{int_eq}
use Rattle.std.specs.Str.{bytes_eq}
use Rattle.sqlite.specs.declared.types.Value.TheVariants.{Int, Text}
use Rattle.sqlite.specs.declared.types.Value.{Value}
use Rattle.sqlite.specs.Order.{Row, column}
use Rattle.sqlite.specs.Values.{or_null}
use Rattle.sqlite.specs.Effect.{Database}
use Rattle.sqlite.specs.Tree.{Trees}
use Rattle.sqlite_trees.specs.View.{IsShaped}
use Rattle.sqlite_trees.specs.declared.store.Shape.TheVariants as shape
use Rattle.treasury_tables.specs.Tables.{store_schema, first_schema, format_table, unit_table, branch_table}
use Rattle.treasury_tables.specs.Tables.{entry_table, leg_table, claim_table, transfer_table}
use Rattle.treasury_tables.specs.Tables.{receipt_table}
use Rattle.treasury_tables.specs.declared.change.Change.{Change}
use Rattle.treasury_tables.specs.declared.change.Change.TheVariants as change
use Rattle.treasury_state.specs.declared.rows.UnitRow.{UnitRow}
use Rattle.treasury_state.specs.declared.rows.BranchRow.{BranchRow}
use Rattle.treasury_state.specs.declared.rows.EntryRow.{EntryRow}
use Rattle.treasury_state.specs.declared.rows.LegRow.{LegRow}
use Rattle.treasury_state.specs.declared.rows.ClaimRow.{ClaimRow}
use Rattle.treasury_state.specs.declared.rows.TransferRow.{TransferRow}
use Rattle.treasury_state.specs.declared.rows.PartRow.{PartRow}
use Rattle.treasury_state.specs.declared.rows.Parts.{Parts}

-- ---- the values of each row, column by column
-- the row of `format`: version 2
abbrev pub values_of_format : Row
values_of_format = Int (pos 2) ∷ []

-- the row of a commodity
abbrev pub values_of_unit : UnitRow → Row
values_of_unit u =
    Int u.nr ∷ Text u.symbol ∷ Int u.decimals ∷ Text u.mark ∷ Int u.grouped ∷ Int u.leftside ∷ Int u.spaced ∷ []

-- the row of a branch
abbrev pub values_of_branch : BranchRow → Row
values_of_branch b = Int b.nr ∷ Text b.name ∷ or_null Int b.locked ∷ []

-- the row of an entry
abbrev pub values_of_entry : EntryRow → Row
values_of_entry e = Int e.branch ∷ Int e.nr ∷ Int e.day ∷ Text e.mark ∷ Text e.body ∷ []

-- the row of a leg
abbrev pub values_of_leg : LegRow → Row
values_of_leg l = Int l.branch ∷ Int l.entry ∷ Int l.nr ∷ Text l.account ∷ Int l.unit ∷ Int l.qty ∷ []

-- the row of an assertion
abbrev pub values_of_claim : ClaimRow → Row
values_of_claim c = Int c.branch ∷ Int c.entry ∷ Int c.leg ∷ Int c.kind ∷ Int c.unit ∷ Int c.qty ∷ []

-- the row of a transfer
abbrev pub values_of_transfer : TransferRow → Row
values_of_transfer x =
    Text x.id ∷ Int x.source ∷ Int x.target ∷ Int x.unit ∷ Int x.qty ∷ Int x.dispatched ∷ Text x.payer
    ∷ or_null Int x.received ∷ or_null Text x.payee ∷ []

-- the row of a receipt of a part
abbrev pub values_of_part : PartRow → Row
values_of_part p = Text p.transfer ∷ Text p.part ∷ Int p.qty ∷ Int p.received ∷ Text p.payee ∷ []

-- the rows of each table but `format`, in any order
abbrev pub Tables : Type 0
Tables = Parts

-- no rows in any table
abbrev pub no_rows : Tables
no_rows = record { units = []; branches = []; entries = []; legs = []; claims = []; transfers = []; receipts = [] }

-- ---- what tables show and hold
-- The columns of a stored row. Column 0 is the rowid, which is the number of a commodity and of a branch; a column that
-- the row lacks is NULL.
abbrev pub shown_unit : Row → Row
shown_unit r = column r 0 ∷ column r 2 ∷ column r 3 ∷ column r 4 ∷ column r 5 ∷ column r 6 ∷ column r 7 ∷ []

-- the same columns of a branch
abbrev pub shown_branch : Row → Row
shown_branch r = column r 0 ∷ column r 2 ∷ column r 3 ∷ []

-- of an entry
abbrev pub shown_entry : Row → Row
shown_entry r = column r 1 ∷ column r 2 ∷ column r 3 ∷ column r 4 ∷ column r 5 ∷ []

-- of a leg
abbrev pub shown_leg : Row → Row
shown_leg r = column r 1 ∷ column r 2 ∷ column r 3 ∷ column r 4 ∷ column r 5 ∷ column r 6 ∷ []

-- of an assertion
abbrev pub shown_claim : Row → Row
shown_claim r = column r 1 ∷ column r 2 ∷ column r 3 ∷ column r 4 ∷ column r 5 ∷ column r 6 ∷ []

-- of a transfer
abbrev pub shown_transfer : Row → Row
shown_transfer r = column r 1 ∷ column r 2 ∷ column r 3 ∷ column r 4 ∷ column r 5 ∷ column r 6 ∷ column r 7 ∷ column r 8
    ∷ column r 9 ∷ []

-- of a receipt of a part
abbrev pub shown_part : Row → Row
shown_part r = column r 1 ∷ column r 2 ∷ column r 3 ∷ column r 4 ∷ column r 5 ∷ []

-- The database is our tables, and these are the rows of each, in any order.
pub record ShowsTables (db : Database) (t : Tables) : Type 0 where
  pub schema : db.schema ≡ store_schema
  pub units : IsPermutation (map values_of_unit t.units) (map shown_unit (db.trees unit_table.tree))
  pub branches : IsPermutation (map values_of_branch t.branches) (map shown_branch (db.trees branch_table.tree))
  pub entries : IsPermutation (map values_of_entry t.entries) (map shown_entry (db.trees entry_table.tree))
  pub legs : IsPermutation (map values_of_leg t.legs) (map shown_leg (db.trees leg_table.tree))
  pub claims : IsPermutation (map values_of_claim t.claims) (map shown_claim (db.trees claim_table.tree))
  pub transfers : IsPermutation (map values_of_transfer t.transfers) (map shown_transfer (db.trees transfer_table.tree))
  pub receipts : IsPermutation (map values_of_part t.receipts) (map shown_part (db.trees receipt_table.tree))

-- what `format` holds
abbrev pub versions : Database → List Value
versions db = map (λ r. column r 1) (db.trees format_table.tree)

-- The database is these tables, and no other; they show these rows, and `format` has the one row 2. Rowids that are no
-- column are not looked at, but those of `format` and of transfers are integers that rise, as SQLite has no others: an
-- UPDATE goes by them.
pub record HoldsTables (db : Database) (t : Tables) : Type 0 where
  pub shows : ShowsTables db t
  pub numbered : IsShaped shape.Table (db.trees format_table.tree)
  pub keyed : IsShaped shape.Table (db.trees transfer_table.tree)
  pub format : versions db ≡ Int (pos 2) ∷ []

-- The same of version 1, which has seven tables and the row 1, and no receipts in parts.
pub record HoldsFirst (db : Database) (t : Tables) : Type 0 where
  pub schema : db.schema ≡ first_schema
  pub numbered : IsShaped shape.Table (db.trees format_table.tree)
  pub units : IsPermutation (map values_of_unit t.units) (map shown_unit (db.trees unit_table.tree))
  pub branches : IsPermutation (map values_of_branch t.branches) (map shown_branch (db.trees branch_table.tree))
  pub entries : IsPermutation (map values_of_entry t.entries) (map shown_entry (db.trees entry_table.tree))
  pub legs : IsPermutation (map values_of_leg t.legs) (map shown_leg (db.trees leg_table.tree))
  pub claims : IsPermutation (map values_of_claim t.claims) (map shown_claim (db.trees claim_table.tree))
  pub transfers : IsPermutation (map values_of_transfer t.transfers) (map shown_transfer (db.trees transfer_table.tree))
  pub receipts : t.receipts ≡ []
  pub keyed : IsShaped shape.Table (db.trees transfer_table.tree)
  pub format : versions db ≡ Int (pos 1) ∷ []

-- in either version
abbrev pub HoldsEither : Database → Tables → Type 0
HoldsEither db t = HoldsTables db t ⊎ HoldsFirst db t

-- the trees of a database that holds these rows, in version 2 or in version 1
abbrev pub AreTreesOf : Trees → Tables → Type 0
AreTreesOf trees t = (db : Database) × (trees ≡ db.trees) × HoldsTables db t

-- the trees of a database of version 1 that holds these rows
abbrev pub AreFirstTreesOf : Trees → Tables → Type 0
AreFirstTreesOf trees t = (db : Database) × (trees ≡ db.trees) × HoldsFirst db t

-- ---- changes
-- one commodity more
abbrev pub tables_with_unit : UnitRow → Tables → Tables
tables_with_unit u t = record t { units = u ∷ t.units }

-- one branch more
abbrev pub tables_with_branch : BranchRow → Tables → Tables
tables_with_branch b t = record t { branches = b ∷ t.branches }

-- one entry more
abbrev pub tables_with_entry : EntryRow → Tables → Tables
tables_with_entry e t = record t { entries = e ∷ t.entries }

-- one leg more
abbrev pub tables_with_leg : LegRow → Tables → Tables
tables_with_leg l t = record t { legs = l ∷ t.legs }

-- one assertion more
abbrev pub tables_with_claim : ClaimRow → Tables → Tables
tables_with_claim c t = record t { claims = c ∷ t.claims }

-- one transfer more
abbrev pub tables_with_transfer : TransferRow → Tables → Tables
tables_with_transfer x t = record t { transfers = x ∷ t.transfers }

-- one receipt of a part more
abbrev pub tables_with_part : PartRow → Tables → Tables
tables_with_part p t = record t { receipts = p ∷ t.receipts }

-- the branch of that number is locked through the day, and each other stays
abbrev pub row_locked : ℤ → ℤ → BranchRow → BranchRow
row_locked nr day b = if int_eq b.nr nr then record b { locked = Some day } else b

-- the branch of that number is locked through the day
abbrev pub tables_with_lock : ℤ → ℤ → Tables → Tables
tables_with_lock nr day t = record t { branches = map (row_locked nr day) t.branches }

-- the transfer of that ID was received on the day, into the account, and each other stays
abbrev pub row_received : List ℕ → ℤ → List ℕ → TransferRow → TransferRow
row_received id day payee x = if bytes_eq x.id id then record x { received = Some day; payee = Some payee } else x

-- the rest of the transfer of that ID is received on the day, into the account
abbrev pub tables_with_receipt : List ℕ → ℤ → List ℕ → Tables → Tables
tables_with_receipt id day payee t = record t { transfers = map (row_received id day payee) t.transfers }

-- the rows after a change
abbrev pub tables_changed : Change → Tables → Tables
tables_changed (change.Unit u) t = tables_with_unit u t
tables_changed (change.Branch b) t = tables_with_branch b t
tables_changed (change.Entry e) t = tables_with_entry e t
tables_changed (change.Leg l) t = tables_with_leg l t
tables_changed (change.Claim c) t = tables_with_claim c t
tables_changed (change.Transfer x) t = tables_with_transfer x t
tables_changed (change.Part p) t = tables_with_part p t
tables_changed (change.Lock nr day) t = tables_with_lock nr day t
tables_changed (change.Receipt id day payee) t = tables_with_receipt id day payee t

-- one change after another
abbrev pub written : List Change → Tables → Tables
written cs t = fold (λ u c. tables_changed c u) t cs
