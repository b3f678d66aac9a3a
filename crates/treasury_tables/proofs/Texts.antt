-- What the texts of the statements compile to.
use Rattle.std.proofs.Common.{◌≡◌, ℕ, List, [], ◌∷◌, codes, Ok, None, pos, negsuc, false, refl}
use Rattle.sqlite.specs.declared.types.Value.TheVariants.{Null, Int}
use Rattle.sqlite.specs.Compile.{table_defined_by}
use Rattle.sqlite.specs.Command.TheVariants.{Insert, Update, Select}
use Rattle.sqlite.specs.Source.TheVariants.{Values}
use Rattle.sqlite.specs.Term.{Term, lit, col, op2}
use Rattle.sqlite_value.specs.declared.keys.Key.{Key}
use Rattle.sqlite_sql.specs.declared.ops.CompareOp.TheVariants.{Eq}
use Rattle.sqlite_sql.specs.declared.ops.BinaryOp.TheVariants.{Compare}
use Rattle.sqlite.specs.Collation.TheVariants.{Binary}
use Rattle.sqlite.specs.Query.{Query, inner, end}
use Rattle.sqlite.specs.Listing.{understood, reads_listing}
use Rattle.sqlite_tied.specs.Compute.{everything}
use Rattle.sqlite.proofs.Callers.{IsPlain, command_of}
use Rattle.treasury_tables.specs.Tables.{format_table, unit_table, branch_table, entry_table, leg_table, claim_table}
use Rattle.treasury_tables.specs.Tables.{transfer_table, receipt_table, store_schema}
use Rattle.treasury_tables.specs.Tables.{first_schema}

abbrev pub table_query : ℕ → List Term → List Term → List (Term × Key) → Query
table_query tree filter project order =
    record {
      from = inner tree end;
      filter = filter;
      group = None;
      project = project;
      distinct = false;
      collations = [];
      order = order;
      limit = lit (Int (negsuc 0));
      offset = lit (Int (pos 0));
    }

abbrev pub up : Key
up = record { collation = Binary; descending = false }

abbrev pub create_format_text : List ℕ
create_format_text = codes "CREATE TABLE format (version INTEGER NOT NULL) STRICT"

pub format_is : table_defined_by create_format_text ≡ Ok (record format_table { tree = 0 })
unfolding understood everything
format_is = refl

abbrev pub add_format_text : List ℕ
add_format_text = codes "INSERT INTO format (version) VALUES (?1)"

abbrev pub format_terms : List Term
format_terms = lit Null ∷ col 0 0 ∷ []

pub add_format_is : (command_of (understood store_schema add_format_text) ≡ Insert 0 (Values format_terms 2))
    × IsPlain (understood store_schema add_format_text)
unfolding understood everything
add_format_is = (refl, (refl, refl))

abbrev pub format_rows_text : List ℕ
format_rows_text = codes "SELECT version FROM format ORDER BY version"

abbrev pub format_columns : List Term
format_columns = col 1 1 ∷ []

abbrev pub format_order : List (Term × Key)
format_order = (col 1 1, up) ∷ []

abbrev pub format_query : Query
format_query = table_query 0 [] format_columns format_order

pub first_format_rows_is : (command_of (understood first_schema format_rows_text)
    ≡ Select (record { lets = []; body = format_query }) (codes "version" ∷ []))
    × (reads_listing first_schema format_rows_text ≡ false) × IsPlain (understood first_schema format_rows_text)
unfolding understood everything
first_format_rows_is = (refl, refl, (refl, refl))

pub format_rows_is : (command_of (understood store_schema format_rows_text)
    ≡ Select (record { lets = []; body = format_query }) (codes "version" ∷ []))
    × (reads_listing store_schema format_rows_text ≡ false) × IsPlain (understood store_schema format_rows_text)
unfolding understood everything
format_rows_is = (refl, refl, (refl, refl))

abbrev pub create_unit_text : List ℕ
create_unit_text = codes "CREATE TABLE unit (nr INTEGER PRIMARY KEY, symbol TEXT NOT NULL UNIQUE, decimals INTEGER NOT NULL, mark TEXT NOT NULL, grouped INTEGER NOT NULL, leftside INTEGER NOT NULL, spaced INTEGER NOT NULL) STRICT"

pub unit_is : table_defined_by create_unit_text ≡ Ok (record unit_table { tree = 0 })
unfolding understood everything
unit_is = refl

abbrev pub add_unit_text : List ℕ
add_unit_text =
    codes "INSERT INTO unit (nr, symbol, decimals, mark, grouped, leftside, spaced) VALUES (?1, ?2, ?3, ?4, ?5, ?6, ?7)"

abbrev pub unit_terms : List Term
unit_terms = col 0 0 ∷ lit Null ∷ col 0 1 ∷ col 0 2 ∷ col 0 3 ∷ col 0 4 ∷ col 0 5 ∷ col 0 6 ∷ []

pub add_unit_is : (command_of (understood store_schema add_unit_text) ≡ Insert 1 (Values unit_terms 8))
    × IsPlain (understood store_schema add_unit_text)
unfolding understood everything
add_unit_is = (refl, (refl, refl))

abbrev pub unit_rows_text : List ℕ
unit_rows_text = codes "SELECT nr, symbol, decimals, mark, grouped, leftside, spaced FROM unit ORDER BY nr"

abbrev pub unit_columns : List Term
unit_columns = col 1 0 ∷ col 1 2 ∷ col 1 3 ∷ col 1 4 ∷ col 1 5 ∷ col 1 6 ∷ col 1 7 ∷ []

abbrev pub unit_order : List (Term × Key)
unit_order = (col 1 0, up) ∷ []

abbrev pub unit_query : Query
unit_query = table_query 1 [] unit_columns unit_order

pub unit_rows_is : (command_of (understood store_schema unit_rows_text)
    ≡ Select (record { lets = []; body = unit_query })
    (codes "nr" ∷ codes "symbol" ∷ codes "decimals" ∷ codes "mark" ∷ codes "grouped" ∷ codes "leftside" ∷ codes "spaced"
    ∷ [])) × (reads_listing store_schema unit_rows_text ≡ false) × IsPlain (understood store_schema unit_rows_text)
unfolding understood everything
unit_rows_is = (refl, refl, (refl, refl))

-- and under the schema of version 1
pub first_unit_rows_is : (command_of (understood first_schema unit_rows_text)
    ≡ Select (record { lets = []; body = unit_query })
    (codes "nr" ∷ codes "symbol" ∷ codes "decimals" ∷ codes "mark" ∷ codes "grouped" ∷ codes "leftside" ∷ codes "spaced"
    ∷ [])) × (reads_listing first_schema unit_rows_text ≡ false) × IsPlain (understood first_schema unit_rows_text)
unfolding understood everything
first_unit_rows_is = (refl, refl, (refl, refl))

abbrev pub create_branch_text : List ℕ
create_branch_text =
    codes "CREATE TABLE branch (nr INTEGER PRIMARY KEY, name TEXT NOT NULL UNIQUE, locked INTEGER) STRICT"

pub branch_is : table_defined_by create_branch_text ≡ Ok (record branch_table { tree = 0 })
unfolding understood everything
branch_is = refl

abbrev pub add_branch_text : List ℕ
add_branch_text = codes "INSERT INTO branch (nr, name, locked) VALUES (?1, ?2, ?3)"

abbrev pub branch_terms : List Term
branch_terms = col 0 0 ∷ lit Null ∷ col 0 1 ∷ col 0 2 ∷ []

pub add_branch_is : (command_of (understood store_schema add_branch_text) ≡ Insert 2 (Values branch_terms 4))
    × IsPlain (understood store_schema add_branch_text)
unfolding understood everything
add_branch_is = (refl, (refl, refl))

abbrev pub branch_rows_text : List ℕ
branch_rows_text = codes "SELECT nr, name, locked FROM branch ORDER BY nr"

abbrev pub branch_columns : List Term
branch_columns = col 1 0 ∷ col 1 2 ∷ col 1 3 ∷ []

abbrev pub branch_order : List (Term × Key)
branch_order = (col 1 0, up) ∷ []

abbrev pub branch_query : Query
branch_query = table_query 3 [] branch_columns branch_order

pub branch_rows_is : (command_of (understood store_schema branch_rows_text)
    ≡ Select (record { lets = []; body = branch_query }) (codes "nr" ∷ codes "name" ∷ codes "locked" ∷ []))
    × (reads_listing store_schema branch_rows_text ≡ false) × IsPlain (understood store_schema branch_rows_text)
unfolding understood everything
branch_rows_is = (refl, refl, (refl, refl))

-- and under the schema of version 1
pub first_branch_rows_is : (command_of (understood first_schema branch_rows_text)
    ≡ Select (record { lets = []; body = branch_query }) (codes "nr" ∷ codes "name" ∷ codes "locked" ∷ []))
    × (reads_listing first_schema branch_rows_text ≡ false) × IsPlain (understood first_schema branch_rows_text)
unfolding understood everything
first_branch_rows_is = (refl, refl, (refl, refl))

abbrev pub create_entry_text : List ℕ
create_entry_text = codes "CREATE TABLE entry (branch INTEGER NOT NULL, nr INTEGER NOT NULL, day INTEGER NOT NULL, mark TEXT NOT NULL, body TEXT NOT NULL, PRIMARY KEY (branch, nr), UNIQUE (branch, mark)) STRICT"

pub entry_is : table_defined_by create_entry_text ≡ Ok (record entry_table { tree = 0 })
unfolding understood everything
entry_is = refl

abbrev pub add_entry_text : List ℕ
add_entry_text = codes "INSERT INTO entry (branch, nr, day, mark, body) VALUES (?1, ?2, ?3, ?4, ?5)"

abbrev pub entry_terms : List Term
entry_terms = lit Null ∷ col 0 0 ∷ col 0 1 ∷ col 0 2 ∷ col 0 3 ∷ col 0 4 ∷ []

pub add_entry_is : (command_of (understood store_schema add_entry_text) ≡ Insert 3 (Values entry_terms 6))
    × IsPlain (understood store_schema add_entry_text)
unfolding understood everything
add_entry_is = (refl, (refl, refl))

abbrev pub entry_rows_text : List ℕ
entry_rows_text = codes "SELECT branch, nr, day, mark, body FROM entry ORDER BY branch, nr"

abbrev pub entry_columns : List Term
entry_columns = col 1 1 ∷ col 1 2 ∷ col 1 3 ∷ col 1 4 ∷ col 1 5 ∷ []

abbrev pub entry_order : List (Term × Key)
entry_order = (col 1 1, up) ∷ (col 1 2, up) ∷ []

abbrev pub entry_query : Query
entry_query = table_query 5 [] entry_columns entry_order

pub entry_rows_is : (command_of (understood store_schema entry_rows_text)
    ≡ Select (record { lets = []; body = entry_query })
    (codes "branch" ∷ codes "nr" ∷ codes "day" ∷ codes "mark" ∷ codes "body" ∷ []))
    × (reads_listing store_schema entry_rows_text ≡ false) × IsPlain (understood store_schema entry_rows_text)
unfolding understood everything
entry_rows_is = (refl, refl, (refl, refl))

-- and under the schema of version 1
pub first_entry_rows_is : (command_of (understood first_schema entry_rows_text)
    ≡ Select (record { lets = []; body = entry_query })
    (codes "branch" ∷ codes "nr" ∷ codes "day" ∷ codes "mark" ∷ codes "body" ∷ []))
    × (reads_listing first_schema entry_rows_text ≡ false) × IsPlain (understood first_schema entry_rows_text)
unfolding understood everything
first_entry_rows_is = (refl, refl, (refl, refl))

abbrev pub create_leg_text : List ℕ
create_leg_text = codes "CREATE TABLE leg (branch INTEGER NOT NULL, entry INTEGER NOT NULL, nr INTEGER NOT NULL, account TEXT NOT NULL, unit INTEGER NOT NULL, qty INTEGER NOT NULL, PRIMARY KEY (branch, entry, nr)) STRICT"

pub leg_is : table_defined_by create_leg_text ≡ Ok (record leg_table { tree = 0 })
unfolding understood everything
leg_is = refl

abbrev pub add_leg_text : List ℕ
add_leg_text = codes "INSERT INTO leg (branch, entry, nr, account, unit, qty) VALUES (?1, ?2, ?3, ?4, ?5, ?6)"

abbrev pub leg_terms : List Term
leg_terms = lit Null ∷ col 0 0 ∷ col 0 1 ∷ col 0 2 ∷ col 0 3 ∷ col 0 4 ∷ col 0 5 ∷ []

pub add_leg_is : (command_of (understood store_schema add_leg_text) ≡ Insert 4 (Values leg_terms 7))
    × IsPlain (understood store_schema add_leg_text)
unfolding understood everything
add_leg_is = (refl, (refl, refl))

abbrev pub leg_rows_text : List ℕ
leg_rows_text = codes "SELECT branch, entry, nr, account, unit, qty FROM leg ORDER BY branch, entry, nr"

abbrev pub leg_columns : List Term
leg_columns = col 1 1 ∷ col 1 2 ∷ col 1 3 ∷ col 1 4 ∷ col 1 5 ∷ col 1 6 ∷ []

abbrev pub leg_order : List (Term × Key)
leg_order = (col 1 1, up) ∷ (col 1 2, up) ∷ (col 1 3, up) ∷ []

abbrev pub leg_query : Query
leg_query = table_query 8 [] leg_columns leg_order

pub leg_rows_is : (command_of (understood store_schema leg_rows_text)
    ≡ Select (record { lets = []; body = leg_query })
    (codes "branch" ∷ codes "entry" ∷ codes "nr" ∷ codes "account" ∷ codes "unit" ∷ codes "qty" ∷ []))
    × (reads_listing store_schema leg_rows_text ≡ false) × IsPlain (understood store_schema leg_rows_text)
unfolding understood everything
leg_rows_is = (refl, refl, (refl, refl))

-- and under the schema of version 1
pub first_leg_rows_is : (command_of (understood first_schema leg_rows_text)
    ≡ Select (record { lets = []; body = leg_query })
    (codes "branch" ∷ codes "entry" ∷ codes "nr" ∷ codes "account" ∷ codes "unit" ∷ codes "qty" ∷ []))
    × (reads_listing first_schema leg_rows_text ≡ false) × IsPlain (understood first_schema leg_rows_text)
unfolding understood everything
first_leg_rows_is = (refl, refl, (refl, refl))

abbrev pub create_claim_text : List ℕ
create_claim_text = codes "CREATE TABLE claim (branch INTEGER NOT NULL, entry INTEGER NOT NULL, leg INTEGER NOT NULL, kind INTEGER NOT NULL, unit INTEGER NOT NULL, qty INTEGER NOT NULL, PRIMARY KEY (branch, entry, leg)) STRICT"

pub claim_is : table_defined_by create_claim_text ≡ Ok (record claim_table { tree = 0 })
unfolding understood everything
claim_is = refl

abbrev pub add_claim_text : List ℕ
add_claim_text = codes "INSERT INTO claim (branch, entry, leg, kind, unit, qty) VALUES (?1, ?2, ?3, ?4, ?5, ?6)"

abbrev pub claim_terms : List Term
claim_terms = lit Null ∷ col 0 0 ∷ col 0 1 ∷ col 0 2 ∷ col 0 3 ∷ col 0 4 ∷ col 0 5 ∷ []

pub add_claim_is : (command_of (understood store_schema add_claim_text) ≡ Insert 5 (Values claim_terms 7))
    × IsPlain (understood store_schema add_claim_text)
unfolding understood everything
add_claim_is = (refl, (refl, refl))

abbrev pub claim_rows_text : List ℕ
claim_rows_text = codes "SELECT branch, entry, leg, kind, unit, qty FROM claim ORDER BY branch, entry, leg"

abbrev pub claim_columns : List Term
claim_columns = col 1 1 ∷ col 1 2 ∷ col 1 3 ∷ col 1 4 ∷ col 1 5 ∷ col 1 6 ∷ []

abbrev pub claim_order : List (Term × Key)
claim_order = (col 1 1, up) ∷ (col 1 2, up) ∷ (col 1 3, up) ∷ []

abbrev pub claim_query : Query
claim_query = table_query 10 [] claim_columns claim_order

pub claim_rows_is : (command_of (understood store_schema claim_rows_text)
    ≡ Select (record { lets = []; body = claim_query })
    (codes "branch" ∷ codes "entry" ∷ codes "leg" ∷ codes "kind" ∷ codes "unit" ∷ codes "qty" ∷ []))
    × (reads_listing store_schema claim_rows_text ≡ false) × IsPlain (understood store_schema claim_rows_text)
unfolding understood everything
claim_rows_is = (refl, refl, (refl, refl))

-- and under the schema of version 1
pub first_claim_rows_is : (command_of (understood first_schema claim_rows_text)
    ≡ Select (record { lets = []; body = claim_query })
    (codes "branch" ∷ codes "entry" ∷ codes "leg" ∷ codes "kind" ∷ codes "unit" ∷ codes "qty" ∷ []))
    × (reads_listing first_schema claim_rows_text ≡ false) × IsPlain (understood first_schema claim_rows_text)
unfolding understood everything
first_claim_rows_is = (refl, refl, (refl, refl))

abbrev pub create_transfer_text : List ℕ
create_transfer_text = codes "CREATE TABLE transfer (id TEXT NOT NULL PRIMARY KEY, source INTEGER NOT NULL, target INTEGER NOT NULL, unit INTEGER NOT NULL, qty INTEGER NOT NULL, dispatched INTEGER NOT NULL, payer TEXT NOT NULL, received INTEGER, payee TEXT) STRICT"

pub transfer_is : table_defined_by create_transfer_text ≡ Ok (record transfer_table { tree = 0 })
unfolding understood everything
transfer_is = refl

abbrev pub add_transfer_text : List ℕ
add_transfer_text = codes "INSERT INTO transfer (id, source, target, unit, qty, dispatched, payer, received, payee) VALUES (?1, ?2, ?3, ?4, ?5, ?6, ?7, ?8, ?9)"

abbrev pub transfer_terms : List Term
transfer_terms = lit Null ∷ col 0 0 ∷ col 0 1 ∷ col 0 2 ∷ col 0 3 ∷ col 0 4 ∷ col 0 5 ∷ col 0 6 ∷ col 0 7 ∷ col 0 8 ∷ []

pub add_transfer_is : (command_of (understood store_schema add_transfer_text) ≡ Insert 6 (Values transfer_terms 10))
    × IsPlain (understood store_schema add_transfer_text)
unfolding understood everything
add_transfer_is = (refl, (refl, refl))

abbrev pub transfer_rows_text : List ℕ
transfer_rows_text =
    codes "SELECT id, source, target, unit, qty, dispatched, payer, received, payee FROM transfer ORDER BY id"

abbrev pub transfer_columns : List Term
transfer_columns = col 1 1 ∷ col 1 2 ∷ col 1 3 ∷ col 1 4 ∷ col 1 5 ∷ col 1 6 ∷ col 1 7 ∷ col 1 8 ∷ col 1 9 ∷ []

abbrev pub transfer_order : List (Term × Key)
transfer_order = (col 1 1, up) ∷ []

abbrev pub transfer_query : Query
transfer_query = table_query 12 [] transfer_columns transfer_order

pub transfer_rows_is : (command_of (understood store_schema transfer_rows_text)
    ≡ Select (record { lets = []; body = transfer_query })
    (codes "id" ∷ codes "source" ∷ codes "target" ∷ codes "unit" ∷ codes "qty" ∷ codes "dispatched" ∷ codes "payer"
    ∷ codes "received" ∷ codes "payee" ∷ [])) × (reads_listing store_schema transfer_rows_text ≡ false)
    × IsPlain (understood store_schema transfer_rows_text)
unfolding understood everything
transfer_rows_is = (refl, refl, (refl, refl))

-- and under the schema of version 1
pub first_transfer_rows_is : (command_of (understood first_schema transfer_rows_text)
    ≡ Select (record { lets = []; body = transfer_query })
    (codes "id" ∷ codes "source" ∷ codes "target" ∷ codes "unit" ∷ codes "qty" ∷ codes "dispatched" ∷ codes "payer"
    ∷ codes "received" ∷ codes "payee" ∷ [])) × (reads_listing first_schema transfer_rows_text ≡ false)
    × IsPlain (understood first_schema transfer_rows_text)
unfolding understood everything
first_transfer_rows_is = (refl, refl, (refl, refl))

abbrev pub create_receipt_text : List ℕ
create_receipt_text = codes "CREATE TABLE receipt (transfer TEXT NOT NULL, part TEXT NOT NULL, qty INTEGER NOT NULL, received INTEGER NOT NULL, payee TEXT NOT NULL, PRIMARY KEY (transfer, part)) STRICT"

pub receipt_is : table_defined_by create_receipt_text ≡ Ok (record receipt_table { tree = 0 })
unfolding understood everything
receipt_is = refl

abbrev pub add_part_text : List ℕ
add_part_text = codes "INSERT INTO receipt (transfer, part, qty, received, payee) VALUES (?1, ?2, ?3, ?4, ?5)"

abbrev pub part_terms : List Term
part_terms = lit Null ∷ col 0 0 ∷ col 0 1 ∷ col 0 2 ∷ col 0 3 ∷ col 0 4 ∷ []

pub add_part_is : (command_of (understood store_schema add_part_text) ≡ Insert 7 (Values part_terms 6))
    × IsPlain (understood store_schema add_part_text)
unfolding understood everything
add_part_is = (refl, (refl, refl))

abbrev pub part_rows_text : List ℕ
part_rows_text = codes "SELECT transfer, part, qty, received, payee FROM receipt ORDER BY transfer, part"

abbrev pub part_columns : List Term
part_columns = col 1 1 ∷ col 1 2 ∷ col 1 3 ∷ col 1 4 ∷ col 1 5 ∷ []

abbrev pub part_order : List (Term × Key)
part_order = (col 1 1, up) ∷ (col 1 2, up) ∷ []

abbrev pub part_query : Query
part_query = table_query 14 [] part_columns part_order

pub part_rows_is : (command_of (understood store_schema part_rows_text)
    ≡ Select (record { lets = []; body = part_query })
    (codes "transfer" ∷ codes "part" ∷ codes "qty" ∷ codes "received" ∷ codes "payee" ∷ []))
    × (reads_listing store_schema part_rows_text ≡ false) × IsPlain (understood store_schema part_rows_text)
unfolding understood everything
part_rows_is = (refl, refl, (refl, refl))

abbrev pub second_text : List ℕ
second_text = codes "UPDATE format SET version = 2"

abbrev pub second_terms : List Term
second_terms = col 1 0 ∷ col 1 0 ∷ lit (Int (pos 2)) ∷ []

abbrev pub second_query : Query
second_query = table_query 0 [] second_terms []

pub second_is : (command_of (understood store_schema second_text)
    ≡ Update 0 (record { lets = []; body = second_query })) × IsPlain (understood store_schema second_text)
unfolding understood everything
second_is = (refl, (refl, refl))

abbrev pub lock_text : List ℕ
lock_text = codes "UPDATE branch SET locked = ?2 WHERE nr = ?1"

abbrev pub lock_filter : List Term
lock_filter = op2 (Compare Eq Binary) (col 1 0) (col 0 0) ∷ []

abbrev pub lock_terms : List Term
lock_terms = col 1 0 ∷ col 1 0 ∷ lit Null ∷ col 1 2 ∷ col 0 1 ∷ []

abbrev pub lock_query : Query
lock_query = table_query 3 lock_filter lock_terms []

pub lock_is : (command_of (understood store_schema lock_text) ≡ Update 2 (record { lets = []; body = lock_query }))
    × IsPlain (understood store_schema lock_text)
unfolding understood everything
lock_is = (refl, (refl, refl))

abbrev pub receive_text : List ℕ
receive_text = codes "UPDATE transfer SET received = ?2, payee = ?3 WHERE id = ?1"

abbrev pub receive_filter : List Term
receive_filter = op2 (Compare Eq Binary) (col 1 1) (col 0 0) ∷ []

abbrev pub receive_terms : List Term
receive_terms =
    col 1 0 ∷ col 1 0 ∷ col 1 1 ∷ col 1 2 ∷ col 1 3 ∷ col 1 4 ∷ col 1 5 ∷ col 1 6 ∷ col 1 7 ∷ col 0 1 ∷ col 0 2 ∷ []

abbrev pub receive_query : Query
receive_query = table_query 12 receive_filter receive_terms []

pub receive_is : (command_of (understood store_schema receive_text)
    ≡ Update 6 (record { lets = []; body = receive_query })) × IsPlain (understood store_schema receive_text)
unfolding understood everything
receive_is = (refl, (refl, refl))
