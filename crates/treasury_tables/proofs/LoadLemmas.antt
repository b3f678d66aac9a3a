-- What the ordered queries answer.
use Rattle.std.proofs.Common.{◌≡◌, ℕ, ◌+◌, ◌<◌, length, get_or, take, List, [], ◌∷◌, ◌++◌, Ok, Err, Result, OnOk, map}
use Rattle.std.proofs.Common.{filter, true, false, Less, Ordering, refl, sym, ap, ap₂, subst, subst₂, ◌∙◌}
use Rattle.std.proofs.Common.{IsPermutation, IsSorted}
use Rattle.std.proofs.lemmas.List.Sorted.{IsPermutation-trans, IsPermutation-map, IsPermutation-sym}
use Rattle.std.proofs.lemmas.List.{get_or-map, take_more, map-append, length-map}
use Rattle.sqlite_keyed.proofs.ListLemmas.{map-map, ascending-map, ascending_weaker}
use Rattle.sqlite_keyed.proofs.SortLemmas.{sorted_unique}
use Rattle.sqlite_sql.proofs.QueryLemmas.{output_cmp_total}
use Rattle.sqlite_value.specs.declared.keys.Key.{Key}
use Rattle.sqlite_value.proofs.OrderLemmas.{value_cmp-Int, value_cmp-Text, then-Equal}
use Rattle.sqlite.specs.declared.types.Value.TheVariants.{Null}
use Rattle.sqlite.specs.Term.{Term}
use Rattle.sqlite.specs.Order.{Row, column}
use Rattle.sqlite.specs.Query.{Output, output, output_cmp}
use Rattle.sqlite.specs.Program.{overlay}
use Rattle.sqlite.specs.Command.TheVariants.{Select}
use Rattle.sqlite.specs.Schema.{Schema}
use Rattle.sqlite.specs.Tree.{Trees, IsAscending}
use Rattle.sqlite.specs.State.{State, Shown}
use Rattle.sqlite.specs.Listing.{understood, reads_listing}
use Rattle.sqlite.proofs.Callers.{IsPlain, command_of, reads_as}
use Rattle.treasury_tables.specs.Tables.{store_schema, first_schema}
use Rattle.treasury_tables.specs.Rows.{Tables, values_of_unit, values_of_branch, values_of_entry, values_of_leg}
use Rattle.treasury_tables.specs.Rows.{values_of_claim, values_of_transfer}
use Rattle.treasury_tables.specs.Rows.{values_of_part}
use Rattle.treasury_tables.specs.Rows.{ShowsTables, HoldsFirst, shown_unit, shown_branch}
use Rattle.treasury_tables.specs.Rows.{shown_entry, shown_leg, shown_claim}
use Rattle.treasury_tables.specs.Rows.{shown_transfer, shown_part}
use Rattle.treasury_tables.specs.Order.{unit_cmp, branch_cmp, entry_cmp, leg_cmp, claim_cmp, transfer_cmp, part_cmp}
use Rattle.treasury_tables.proofs.Texts.{first_unit_rows_is, first_branch_rows_is, first_entry_rows_is}
use Rattle.treasury_tables.proofs.Texts.{first_leg_rows_is, first_claim_rows_is, first_transfer_rows_is}
use Rattle.treasury_tables.proofs.Texts.{table_query, unit_rows_text, unit_rows_is, unit_columns, unit_order}
use Rattle.treasury_tables.proofs.Texts.{unit_query}
use Rattle.treasury_tables.proofs.Texts.{branch_rows_text, branch_rows_is, branch_columns, branch_order, branch_query}
use Rattle.treasury_tables.proofs.Texts.{entry_rows_text, entry_rows_is, entry_columns, entry_order, entry_query}
use Rattle.treasury_tables.proofs.Texts.{leg_rows_text, leg_rows_is, leg_columns, leg_order, leg_query, claim_rows_text}
use Rattle.treasury_tables.proofs.Texts.{claim_rows_is, claim_columns, claim_order, claim_query, transfer_rows_text}
use Rattle.treasury_tables.proofs.Texts.{transfer_rows_is, transfer_columns, transfer_order, transfer_query}
use Rattle.treasury_tables.proofs.Texts.{part_rows_text, part_rows_is, part_columns, part_order, part_query}
use Rattle.treasury_tables.proofs.QueryLemmas.{at, answer_is}
use Rattle.treasury_tables.proofs.QueriedLemmas.{all_chosen}
use Rattle.treasury_tables.proofs.ShownLemmas.{map_identity}
use Rattle.treasury_state.specs.declared.rows.UnitRow.{UnitRow}
use Rattle.treasury_state.specs.declared.rows.BranchRow.{BranchRow}
use Rattle.treasury_state.specs.declared.rows.EntryRow.{EntryRow}
use Rattle.treasury_state.specs.declared.rows.LegRow.{LegRow}
use Rattle.treasury_state.specs.declared.rows.ClaimRow.{ClaimRow}
use Rattle.treasury_state.specs.declared.rows.TransferRow.{TransferRow}
use Rattle.treasury_state.specs.declared.rows.PartRow.{PartRow}

-- a query of a whole table, whose order is by the first columns that it shows
module _ (schema : Schema) (tree : ℕ) (bare : (db : Trees) → overlay db [] tree ≡ db tree)
    (sql : List ℕ) (columns : List Term)
    (order : List (Term × Key)) (names : List (List ℕ))
    (is : command_of (understood schema sql)
    ≡ Select (record { lets = []; body = table_query tree [] columns order }) names)
    (unlisted : reads_listing schema sql ≡ false) (plain : IsPlain (understood schema sql))
    (shown : Row → Row) (keyed : Row → Output)
    (shows : (r : Row) → output (table_query tree [] columns order) (at [] r) ≡ keyed (shown r))
    (keyed_is : (s : Row) → (keyed s).1 ≡ s) where
  rows_answered : (old new : State) (rows : List Row) → old.now.schema ≡ schema → Shown sql [] old new rows
      → (ordered : List Output) × IsPermutation (map keyed (map shown (old.now.trees tree))) ordered
      × IsSorted (output_cmp (table_query tree [] columns order)) ordered × (rows ≡ map (λ o. o.1) ordered)
  rows_answered old new rows has h =
      let db = old.now.trees in
      let q = table_query tree [] columns order in
      let got = reads_as sql [] old new schema has (Select (record { lets = []; body = q }) names) is plain
      unlisted rows h in
      let answer = answer_is [] tree [] columns order (λ _. true) (λ _. refl) (overlay db []) rows (got.answer Null) in
      let all : map (λ r. output q (at [] r)) (filter (λ _. true) (overlay db [] tree))
      ≡ map keyed (map shown (db tree)) =
      ap (λ l. map (λ r. output q (at [] r)) (filter (λ _. true) l)) (bare db) ∙ ap (map (λ r. output q (at [] r)))
      (all_chosen (db tree)) ∙ (λ i. map (λ r. shows r i) (db tree)) ∙ sym (map-map keyed shown (db tree)) in
      (answer.0, subst (λ l. IsPermutation l answer.0) all answer.1, answer.2, answer.3)

  -- it answers the columns of the rows that are stored
  pub as_shown : (old new : State) (rows : List Row) → old.now.schema ≡ schema → Shown sql [] old new rows
      → IsPermutation (map shown (old.now.trees tree)) rows
  as_shown old new rows has h =
      let answer = rows_answered old new rows has h in
      let columns_of = map shown (old.now.trees tree) in
      let all : map (λ (o : Output). o.1) (map keyed columns_of) ≡ columns_of =
      map-map (λ (o : Output). o.1) keyed columns_of ∙ (λ i. map (λ s. keyed_is s i) columns_of) ∙ sym
      (map_identity columns_of) in
      subst₂ IsPermutation all (sym answer.3) (IsPermutation-map (λ (o : Output). o.1) _ _ answer.1)

  -- and rows whose keys rise in that order
  module _ {X : Type 0} (row_of : X → Row) (cmp : X → X → Ordering)
      (cmp_is : (x y : X)
      → output_cmp (table_query tree [] columns order) (keyed (row_of x)) (keyed (row_of y)) ≡ cmp x y) where
    pub in_order : (old new : State) (xs : List X) (rows : List Row) → old.now.schema ≡ schema
        → IsPermutation (map row_of xs) (map shown (old.now.trees tree)) → IsAscending (λ x y. cmp x y ≡ Less) xs
        → Shown sql [] old new rows → rows ≡ map row_of xs
    in_order old new xs rows has same up h =
        let q = table_query tree [] columns order in
        let answer = rows_answered old new rows has h in
        let both : IsPermutation (map (λ x. keyed (row_of x)) xs) answer.0 =
        IsPermutation-trans _ _ _ (subst (λ l. IsPermutation l (map keyed (map shown (old.now.trees tree))))
        (map-map keyed row_of xs) (IsPermutation-map keyed _ _ same)) answer.1 in
        let strict : IsAscending (λ a b. output_cmp q a b ≡ Less) (map (λ x. keyed (row_of x)) xs) =
        ascending-map (λ a b. output_cmp q a b ≡ Less) (λ x. keyed (row_of x)) xs
        (ascending_weaker _ _ (λ a b e. cmp_is a b ∙ e) xs up) in
        let ordered = sorted_unique (output_cmp q) (output_cmp_total q) _ answer.0 strict both answer.2 in
        answer.3 ∙ ap (map (λ (o : Output). o.1)) ordered ∙ map-map (λ (o : Output). o.1) (λ x. keyed (row_of x)) xs ∙
        (λ i. map (λ x. keyed_is (row_of x) i) xs)

-- rows that were read column by column are those that are stored
read_shown : {X : Type 0} (row_of : X → Row) (shown front : Row → Row) → ((r : Row) → front (shown r) ≡ shown r)
    → (stored given rows : List Row) (xs : List X)
    → given ≡ rows → map row_of xs ≡ map front given → IsPermutation (map shown stored) rows
    → IsPermutation (map row_of xs) (map shown stored)
read_shown row_of shown front fits stored given rows xs is read same =
    let all : map front (map shown stored) ≡ map shown stored =
    map-map front shown stored ∙ (λ i. map (λ r. fits r i) stored) in
    IsPermutation-sym _ _ (subst₂ IsPermutation all (sym (read ∙ ap (map front) is)) (IsPermutation-map front _ _ same))

-- ---- unit
abbrev unit_keyed : Row → Output
unit_keyed s = (column s 0 ∷ [], s)

abbrev unit_front : Row → Row
unit_front r = column r 0 ∷ column r 1 ∷ column r 2 ∷ column r 3 ∷ column r 4 ∷ column r 5 ∷ column r 6 ∷ []

unit_shows : (r : Row) → output unit_query (at [] r) ≡ unit_keyed (shown_unit r)
unit_shows r = refl

unit_sorted : (x y : UnitRow) → output_cmp unit_query (unit_keyed (values_of_unit x))
    (unit_keyed (values_of_unit y)) ≡ unit_cmp x y
unit_sorted x y = simp (value_cmp-Int, then-Equal)

pub units_are : (old new : State) (t : Tables) (rows : List Row) → ShowsTables old.now t
    → IsAscending (λ x y. unit_cmp x y ≡ Less) t.units → Shown unit_rows_text [] old new rows
    → rows ≡ map values_of_unit t.units
units_are old new t rows shows up h =
    in_order store_schema 1 (λ _. refl) unit_rows_text unit_columns unit_order _ unit_rows_is.0 unit_rows_is.1
    unit_rows_is.2
    shown_unit unit_keyed unit_shows (λ _. refl) values_of_unit unit_cmp unit_sorted old new t.units rows shows.schema
    shows.units up h

pub first_units_are : (old new : State) (t : Tables) (rows : List Row) → HoldsFirst old.now t
    → IsAscending (λ x y. unit_cmp x y ≡ Less) t.units → Shown unit_rows_text [] old new rows
    → rows ≡ map values_of_unit t.units
first_units_are old new t rows holds up h =
    in_order first_schema 1 (λ _. refl) unit_rows_text unit_columns unit_order _ first_unit_rows_is.0
    first_unit_rows_is.1 first_unit_rows_is.2 shown_unit unit_keyed unit_shows (λ _. refl) values_of_unit unit_cmp
    unit_sorted old new
    t.units rows holds.schema holds.units up h

pub units_shown : (old new : State) (given rows : List Row) (xs : List UnitRow) → given ≡ rows
    → map values_of_unit xs ≡ map unit_front given → old.now.schema ≡ store_schema
    → Shown unit_rows_text [] old new rows
    → IsPermutation (map values_of_unit xs) (map shown_unit (old.now.trees 1))
units_shown old new given rows xs is read has h =
    read_shown values_of_unit shown_unit unit_front (λ _. refl) (old.now.trees 1) given rows xs is read
    (as_shown store_schema 1 (λ _. refl) unit_rows_text unit_columns unit_order _ unit_rows_is.0 unit_rows_is.1
    unit_rows_is.2
    shown_unit unit_keyed unit_shows (λ _. refl) old new rows has h)

-- ---- branch
abbrev branch_keyed : Row → Output
branch_keyed s = (column s 0 ∷ [], s)

abbrev branch_front : Row → Row
branch_front r = column r 0 ∷ column r 1 ∷ column r 2 ∷ []

branch_shows : (r : Row) → output branch_query (at [] r) ≡ branch_keyed (shown_branch r)
branch_shows r = refl

branch_sorted : (x y : BranchRow)
    → output_cmp branch_query (branch_keyed (values_of_branch x)) (branch_keyed (values_of_branch y)) ≡ branch_cmp x y
branch_sorted x y = simp (value_cmp-Int, then-Equal)

pub branches_are : (old new : State) (t : Tables) (rows : List Row) → ShowsTables old.now t
    → IsAscending (λ x y. branch_cmp x y ≡ Less) t.branches → Shown branch_rows_text [] old new rows
    → rows ≡ map values_of_branch t.branches
branches_are old new t rows shows up h =
    in_order store_schema 3 (λ _. refl) branch_rows_text branch_columns branch_order _ branch_rows_is.0 branch_rows_is.1
    branch_rows_is.2 shown_branch branch_keyed branch_shows (λ _. refl) values_of_branch branch_cmp branch_sorted old
    new t.branches rows shows.schema shows.branches up h

pub first_branches_are : (old new : State) (t : Tables) (rows : List Row) → HoldsFirst old.now t
    → IsAscending (λ x y. branch_cmp x y ≡ Less) t.branches → Shown branch_rows_text [] old new rows
    → rows ≡ map values_of_branch t.branches
first_branches_are old new t rows holds up h =
    in_order first_schema 3 (λ _. refl) branch_rows_text branch_columns branch_order _ first_branch_rows_is.0
    first_branch_rows_is.1 first_branch_rows_is.2 shown_branch branch_keyed branch_shows (λ _. refl) values_of_branch
    branch_cmp branch_sorted old new
    t.branches rows holds.schema holds.branches up h

pub branches_shown : (old new : State) (given rows : List Row) (xs : List BranchRow) → given ≡ rows
    → map values_of_branch xs ≡ map branch_front given → old.now.schema ≡ store_schema
    → Shown branch_rows_text [] old new rows
    → IsPermutation (map values_of_branch xs) (map shown_branch (old.now.trees 3))
branches_shown old new given rows xs is read has h =
    read_shown values_of_branch shown_branch branch_front (λ _. refl) (old.now.trees 3) given rows xs is read
    (as_shown store_schema 3 (λ _. refl) branch_rows_text branch_columns branch_order _ branch_rows_is.0
    branch_rows_is.1
    branch_rows_is.2 shown_branch branch_keyed branch_shows (λ _. refl) old new rows has h)

-- ---- entry
abbrev entry_keyed : Row → Output
entry_keyed s = (column s 0 ∷ column s 1 ∷ [], s)

abbrev entry_front : Row → Row
entry_front r = column r 0 ∷ column r 1 ∷ column r 2 ∷ column r 3 ∷ column r 4 ∷ []

entry_shows : (r : Row) → output entry_query (at [] r) ≡ entry_keyed (shown_entry r)
entry_shows r = refl

entry_sorted : (x y : EntryRow)
    → output_cmp entry_query (entry_keyed (values_of_entry x)) (entry_keyed (values_of_entry y)) ≡ entry_cmp x y
entry_sorted x y = simp (value_cmp-Int, then-Equal)

pub entries_are : (old new : State) (t : Tables) (rows : List Row) → ShowsTables old.now t
    → IsAscending (λ x y. entry_cmp x y ≡ Less) t.entries → Shown entry_rows_text [] old new rows
    → rows ≡ map values_of_entry t.entries
entries_are old new t rows shows up h =
    in_order store_schema 5 (λ _. refl) entry_rows_text entry_columns entry_order _ entry_rows_is.0 entry_rows_is.1
    entry_rows_is.2
    shown_entry entry_keyed entry_shows (λ _. refl) values_of_entry entry_cmp entry_sorted old new t.entries rows
    shows.schema shows.entries up h

pub first_entries_are : (old new : State) (t : Tables) (rows : List Row) → HoldsFirst old.now t
    → IsAscending (λ x y. entry_cmp x y ≡ Less) t.entries → Shown entry_rows_text [] old new rows
    → rows ≡ map values_of_entry t.entries
first_entries_are old new t rows holds up h =
    in_order first_schema 5 (λ _. refl) entry_rows_text entry_columns entry_order _ first_entry_rows_is.0
    first_entry_rows_is.1 first_entry_rows_is.2 shown_entry entry_keyed entry_shows (λ _. refl) values_of_entry
    entry_cmp entry_sorted old new
    t.entries rows holds.schema holds.entries up h

pub entries_shown : (old new : State) (given rows : List Row) (xs : List EntryRow) → given ≡ rows
    → map values_of_entry xs ≡ map entry_front given → old.now.schema ≡ store_schema
    → Shown entry_rows_text [] old new rows
    → IsPermutation (map values_of_entry xs) (map shown_entry (old.now.trees 5))
entries_shown old new given rows xs is read has h =
    read_shown values_of_entry shown_entry entry_front (λ _. refl) (old.now.trees 5) given rows xs is read
    (as_shown store_schema 5 (λ _. refl) entry_rows_text entry_columns entry_order _ entry_rows_is.0 entry_rows_is.1
    entry_rows_is.2 shown_entry entry_keyed entry_shows (λ _. refl) old new rows has h)

-- ---- leg
abbrev leg_keyed : Row → Output
leg_keyed s = (column s 0 ∷ column s 1 ∷ column s 2 ∷ [], s)

abbrev leg_front : Row → Row
leg_front r = column r 0 ∷ column r 1 ∷ column r 2 ∷ column r 3 ∷ column r 4 ∷ column r 5 ∷ []

leg_shows : (r : Row) → output leg_query (at [] r) ≡ leg_keyed (shown_leg r)
leg_shows r = refl

leg_sorted : (x y : LegRow) → output_cmp leg_query (leg_keyed (values_of_leg x)) (leg_keyed (values_of_leg y)) ≡ leg_cmp
    x y
leg_sorted x y = simp (value_cmp-Int, then-Equal)

pub legs_are : (old new : State) (t : Tables) (rows : List Row) → ShowsTables old.now t
    → IsAscending (λ x y. leg_cmp x y ≡ Less) t.legs → Shown leg_rows_text [] old new rows
    → rows ≡ map values_of_leg t.legs
legs_are old new t rows shows up h =
    in_order store_schema 8 (λ _. refl) leg_rows_text leg_columns leg_order _ leg_rows_is.0 leg_rows_is.1
    leg_rows_is.2 shown_leg
    leg_keyed leg_shows (λ _. refl) values_of_leg leg_cmp leg_sorted old new t.legs rows shows.schema shows.legs up h

pub first_legs_are : (old new : State) (t : Tables) (rows : List Row) → HoldsFirst old.now t
    → IsAscending (λ x y. leg_cmp x y ≡ Less) t.legs → Shown leg_rows_text [] old new rows
    → rows ≡ map values_of_leg t.legs
first_legs_are old new t rows holds up h =
    in_order first_schema 8 (λ _. refl) leg_rows_text leg_columns leg_order _ first_leg_rows_is.0
    first_leg_rows_is.1 first_leg_rows_is.2 shown_leg leg_keyed leg_shows (λ _. refl) values_of_leg leg_cmp leg_sorted
    old new t.legs rows holds.schema holds.legs up h

pub legs_shown : (old new : State) (given rows : List Row) (xs : List LegRow) → given ≡ rows
    → map values_of_leg xs ≡ map leg_front given → old.now.schema ≡ store_schema → Shown leg_rows_text [] old new rows
    → IsPermutation (map values_of_leg xs) (map shown_leg (old.now.trees 8))
legs_shown old new given rows xs is read has h =
    read_shown values_of_leg shown_leg leg_front (λ _. refl) (old.now.trees 8) given rows xs is read
    (as_shown store_schema 8 (λ _. refl) leg_rows_text leg_columns leg_order _ leg_rows_is.0 leg_rows_is.1 leg_rows_is.2
    shown_leg leg_keyed leg_shows (λ _. refl) old new rows has h)

-- ---- claim
abbrev claim_keyed : Row → Output
claim_keyed s = (column s 0 ∷ column s 1 ∷ column s 2 ∷ [], s)

abbrev claim_front : Row → Row
claim_front r = column r 0 ∷ column r 1 ∷ column r 2 ∷ column r 3 ∷ column r 4 ∷ column r 5 ∷ []

claim_shows : (r : Row) → output claim_query (at [] r) ≡ claim_keyed (shown_claim r)
claim_shows r = refl

claim_sorted : (x y : ClaimRow)
    → output_cmp claim_query (claim_keyed (values_of_claim x)) (claim_keyed (values_of_claim y)) ≡ claim_cmp x y
claim_sorted x y = simp (value_cmp-Int, then-Equal)

pub claims_are : (old new : State) (t : Tables) (rows : List Row) → ShowsTables old.now t
    → IsAscending (λ x y. claim_cmp x y ≡ Less) t.claims → Shown claim_rows_text [] old new rows
    → rows ≡ map values_of_claim t.claims
claims_are old new t rows shows up h =
    in_order store_schema 10 (λ _. refl) claim_rows_text claim_columns claim_order _ claim_rows_is.0 claim_rows_is.1
    claim_rows_is.2
    shown_claim claim_keyed claim_shows (λ _. refl) values_of_claim claim_cmp claim_sorted old new t.claims rows
    shows.schema shows.claims up h

pub first_claims_are : (old new : State) (t : Tables) (rows : List Row) → HoldsFirst old.now t
    → IsAscending (λ x y. claim_cmp x y ≡ Less) t.claims → Shown claim_rows_text [] old new rows
    → rows ≡ map values_of_claim t.claims
first_claims_are old new t rows holds up h =
    in_order first_schema 10 (λ _. refl) claim_rows_text claim_columns claim_order _ first_claim_rows_is.0
    first_claim_rows_is.1 first_claim_rows_is.2 shown_claim claim_keyed claim_shows (λ _. refl) values_of_claim
    claim_cmp claim_sorted old new
    t.claims rows holds.schema holds.claims up h

pub claims_shown : (old new : State) (given rows : List Row) (xs : List ClaimRow) → given ≡ rows
    → map values_of_claim xs ≡ map claim_front given → old.now.schema ≡ store_schema
    → Shown claim_rows_text [] old new rows
    → IsPermutation (map values_of_claim xs) (map shown_claim (old.now.trees 10))
claims_shown old new given rows xs is read has h =
    read_shown values_of_claim shown_claim claim_front (λ _. refl) (old.now.trees 10) given rows xs is read
    (as_shown store_schema 10 (λ _. refl) claim_rows_text claim_columns claim_order _ claim_rows_is.0 claim_rows_is.1
    claim_rows_is.2 shown_claim claim_keyed claim_shows (λ _. refl) old new rows has h)

-- ---- transfer
abbrev transfer_keyed : Row → Output
transfer_keyed s = (column s 0 ∷ [], s)

abbrev transfer_front : Row → Row
transfer_front r = column r 0 ∷ column r 1 ∷ column r 2 ∷ column r 3 ∷ column r 4 ∷ column r 5 ∷ column r 6 ∷ column r 7
    ∷ column r 8 ∷ []

transfer_shows : (r : Row) → output transfer_query (at [] r) ≡ transfer_keyed (shown_transfer r)
transfer_shows r = refl

transfer_sorted : (x y : TransferRow)
    → output_cmp transfer_query (transfer_keyed (values_of_transfer x))
    (transfer_keyed (values_of_transfer y)) ≡ transfer_cmp x y
transfer_sorted x y = simp (value_cmp-Text, then-Equal)

pub transfers_are : (old new : State) (t : Tables) (rows : List Row) → ShowsTables old.now t
    → IsAscending (λ x y. transfer_cmp x y ≡ Less) t.transfers → Shown transfer_rows_text [] old new rows
    → rows ≡ map values_of_transfer t.transfers
transfers_are old new t rows shows up h =
    in_order store_schema 12 (λ _. refl) transfer_rows_text transfer_columns transfer_order _ transfer_rows_is.0
    transfer_rows_is.1
    transfer_rows_is.2 shown_transfer transfer_keyed transfer_shows (λ _. refl) values_of_transfer transfer_cmp
    transfer_sorted old new t.transfers rows shows.schema shows.transfers up h

pub first_transfers_are : (old new : State) (t : Tables) (rows : List Row) → HoldsFirst old.now t
    → IsAscending (λ x y. transfer_cmp x y ≡ Less) t.transfers → Shown transfer_rows_text [] old new rows
    → rows ≡ map values_of_transfer t.transfers
first_transfers_are old new t rows holds up h =
    in_order first_schema 12 (λ _. refl) transfer_rows_text transfer_columns transfer_order _ first_transfer_rows_is.0
    first_transfer_rows_is.1 first_transfer_rows_is.2 shown_transfer transfer_keyed transfer_shows (λ _. refl)
    values_of_transfer transfer_cmp transfer_sorted old new
    t.transfers rows holds.schema holds.transfers up h

pub transfers_shown : (old new : State) (given rows : List Row) (xs : List TransferRow) → given ≡ rows
    → map values_of_transfer xs ≡ map transfer_front given → old.now.schema ≡ store_schema
    → Shown transfer_rows_text [] old new rows
    → IsPermutation (map values_of_transfer xs) (map shown_transfer (old.now.trees 12))
transfers_shown old new given rows xs is read has h =
    read_shown values_of_transfer shown_transfer transfer_front (λ _. refl) (old.now.trees 12) given rows xs is read
    (as_shown store_schema 12 (λ _. refl) transfer_rows_text transfer_columns transfer_order _ transfer_rows_is.0
    transfer_rows_is.1 transfer_rows_is.2 shown_transfer transfer_keyed transfer_shows (λ _. refl) old new rows has
    h)

-- ---- receipt
abbrev part_keyed : Row → Output
part_keyed s = (column s 0 ∷ column s 1 ∷ [], s)

abbrev part_front : Row → Row
part_front r = column r 0 ∷ column r 1 ∷ column r 2 ∷ column r 3 ∷ column r 4 ∷ []

part_shows : (r : Row) → output part_query (at [] r) ≡ part_keyed (shown_part r)
part_shows r = refl

part_sorted : (x y : PartRow) → output_cmp part_query (part_keyed (values_of_part x))
    (part_keyed (values_of_part y)) ≡ part_cmp x y
part_sorted x y = simp (value_cmp-Text, then-Equal)

pub parts_are : (old new : State) (t : Tables) (rows : List Row) → ShowsTables old.now t
    → IsAscending (λ x y. part_cmp x y ≡ Less) t.receipts → Shown part_rows_text [] old new rows
    → rows ≡ map values_of_part t.receipts
parts_are old new t rows shows up h =
    in_order store_schema 14 (λ _. refl) part_rows_text part_columns part_order _ part_rows_is.0 part_rows_is.1
    part_rows_is.2
    shown_part part_keyed part_shows (λ _. refl) values_of_part part_cmp part_sorted old new t.receipts rows
    shows.schema shows.receipts up h

pub parts_shown : (old new : State) (given rows : List Row) (xs : List PartRow) → given ≡ rows
    → map values_of_part xs ≡ map part_front given → old.now.schema ≡ store_schema
    → Shown part_rows_text [] old new rows
    → IsPermutation (map values_of_part xs) (map shown_part (old.now.trees 14))
parts_shown old new given rows xs is read has h =
    read_shown values_of_part shown_part part_front (λ _. refl) (old.now.trees 14) given rows xs is read
    (as_shown store_schema 14 (λ _. refl) part_rows_text part_columns part_order _ part_rows_is.0 part_rows_is.1
    part_rows_is.2
    shown_part part_keyed part_shows (λ _. refl) old new rows has h)

-- ---- one more row is read
pub more_read : {X : Type 0} (columns : X → Row) (ys done : List X) (i : ℕ) (x : X) (row : Row) → i < length ys
    → row ≡ get_or (map columns ys) i row → done ≡ take i ys → ((y : X) → row ≡ columns y → x ≡ y)
    → done ++ x ∷ [] ≡ take (i + 1) ys
more_read columns ys done i x row low is so_far reads =
    let e : x ≡ get_or ys i x = reads (get_or ys i x) (is ∙ get_or-map columns ys i x row low) in
    ap₂ ◌++◌ so_far (ap (λ y. y ∷ []) e) ∙ sym (take_more ys i x low)

pub more_shown : {X : Type 0} (columns : X → Row) (front : Row → Row) (rows : List Row) (done : List X) (i : ℕ) (x : X)
    (row : Row) → i < length rows → row ≡ get_or rows i row → map columns done ≡ take i (map front rows)
    → columns x ≡ front row
    → map columns (done ++ x ∷ []) ≡ take (i + 1) (map front rows)
more_shown columns front rows done i x row low is so_far reads =
    let e : columns x ≡ get_or (map front rows) i (columns x) =
    reads ∙ ap front is ∙ sym (get_or-map front rows i row (columns x) low) in
    map-append columns done (x ∷ []) ∙ ap₂ ◌++◌ so_far (ap (λ r. r ∷ []) e) ∙ sym
    (take_more (map front rows) i (columns x) (subst (λ n. i < n) (sym (length-map rows front)) low))

pub any_ok : {X E : Type 0} (r : Result X E) (P : Type 0) → P → OnOk r P
any_ok (Ok x) P h = h
any_ok (Err e) P h = tt
