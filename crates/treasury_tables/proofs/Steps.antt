-- What an INSERT, an UPDATE and a CREATE of fixed text do to the trees, over any schema.
use Rattle.std.proofs.Common.{◌≡◌, ◌⊎◌, inl, inr, ℕ, ◌/◌, List, [], length, append-nil, Option, false, None, Ok, Err}
use Rattle.std.proofs.Common.{Result, refl, sym, ap, subst, ◌∙◌}
use Rattle.sqlite.specs.Order.{Row}
use Rattle.sqlite.specs.Term.{Term}
use Rattle.sqlite.specs.Table.{Table}
use Rattle.sqlite.specs.Schema.{Schema}
use Rattle.sqlite.specs.Source.TheVariants.{Values}
use Rattle.sqlite.specs.Command.TheVariants.{Insert, Update, CreateTable}
use Rattle.sqlite.specs.Compile.{table_defined_by}
use Rattle.sqlite.specs.Edit.{Edit, edit_of, Applies}
use Rattle.sqlite.specs.Rowids.TheVariants.{Chosen, Given}
use Rattle.sqlite.specs.Change.{created, next_tree, KeepsRows}
use Rattle.sqlite.specs.Does.{Tally, OnRows, lacks_sequence}
use Rattle.sqlite.specs.Rows.{Written}
use Rattle.sqlite.specs.Tree.{Trees}
use Rattle.sqlite.specs.Listing.{understood}
use Rattle.sqlite.specs.Effect.{Database, Answers, value_rows}
use Rattle.sqlite.specs.State.{State, Writes, Executes}
use Rattle.sqlite.proofs.Callers.{IsPlain, command_of, statement_of, runs_as, one_step}
use Rattle.sqlite_rules.specs.Action.{works}
use Rattle.sqlite_rules.specs.Calls.{ids_of}
use Rattle.sqlite_schema.specs.declared.program.Program.{Program}
use Rattle.sqlite_schema.specs.declared.schema.Column.{Column}
use Rattle.sqlite_value.specs.declared.keys.Order.{Order}
use Rattle.sqlite.specs.declared.run.Mode.{Mode}
use Rattle.sqlite_schema.specs.declared.schema.Keys.TheVariants.{Enforced}
use Rattle.sqlite_resolve.specs.declared.compiled.Compiled.{Compiled}
use Rattle.sqlite.specs.State.{ExecutesIn}
use Rattle.treasury_tables.specs.Creating.{Makes}
use Rattle.treasury_tables.proofs.AnySchema.{IsCreation}

-- a part that gave a value did not stop on the way
went : {B E R : Type 0} {b : B} {Stops : E → Type 0} → ((stop : E) × Stops stop × (Ok b ≡ Err stop)) ⊎ R → R
went (inl stopped) = absurd (let e = stopped.2 in cc)
went (inr on) = on

same_value : {B E : Type 0} {a b : B} → ◌≡◌ {A = Result B E} (Ok a) (Ok b) → a ≡ b
same_value e = cc

-- a table with no AUTOINCREMENT and no default that reads the time, as its definition gives it
abbrev pub plain_table : List ℕ → ℕ → List Column → Option ℕ → List ℕ → List (List ℕ) → List Order → Table
plain_table name tree columns key primary uniques orders = record {
  name = name;
  tree = tree;
  columns = columns;
  key = key;
  primary = primary;
  uniques = uniques;
  orders = orders;
  checks = [];
  references = [];
  computed = [];
  stamps = record { places = []; terms = []; formats = [] };
  is_counted = false;
}

module _ (limit : Option ℕ) (schema : Schema) (name : List ℕ) (tree : ℕ) (columns : List Column) (key : Option ℕ)
    (primary : List ℕ) (uniques : List (List ℕ)) (orders : List Order) (params : Row) (db : Trees)
    (tally : Tally) (after : Database) where
  abbrev table : Table
  table = plain_table name tree columns key primary uniques orders

  pub inserts : (mode : Mode) (at : ℕ) (terms : List Term) (width : ℕ)
      → ((news : List Row) → works schema Enforced 0 tree [] news ≡ [])
      → OnRows (record { limit = limit; keys = Enforced; schema = schema; table = table; params = params }) mode None
      (Insert at (Values terms width)) db (Ok (tally, after))
      → (after.schema ≡ schema) × Applies schema Enforced db
      (edit_of db table [] Chosen 0 (value_rows params width (length terms / width) terms)) after.trees
  inserts mode at terms width alone h =
      let done = went h in
      let now = ap (λ (p : Tally × Database). p.1) (same_value (went (went done.2).2).2) in
      let given = went done.1 in
      let written = went (went given.2).2 in
      let counted = went written.2 in
      let trees : done.0.trees ≡ written.0 =
      ap (λ (it : Written). it.trees) (same_value counted.2) ∙ same_value counted.1 in
      let edit : Edit = edit_of db table [] Chosen 0 given.0 in
      let applied = one_step schema Enforced db written.0 edit (alone edit.news) written.1 in
      let rows : given.0 ≡ value_rows params width (length terms / width) terms =
      given.1.1 ∙ ap (λ ps. value_rows ps width (length terms / width) terms) (append-nil params) in (
        ap (λ (d : Database). d.schema) now,
        subst (λ t. Applies schema Enforced db
            (edit_of db table [] Chosen 0 (value_rows params width (length terms / width) terms)) t)
            (sym (ap (λ (d : Database). d.trees) now ∙ trees))
            (subst (λ r. Applies schema Enforced db (edit_of db table [] Chosen 0 r) written.0) rows applied),
      )

  pub updates : (mode : Mode) (at : ℕ) (q : Program)
      → ((olds news : List Row) → works schema Enforced 0 tree olds news ≡ [])
      → OnRows (record { limit = limit; keys = Enforced; schema = schema; table = table; params = params }) mode None
      (Update at q) db (Ok (tally, after))
      → (rows : List Row) × (after.schema ≡ schema) × Answers (record { schema = schema; trees = db }) q params rows
      × Applies schema Enforced db (edit_of db table (ids_of rows) Given 1 rows) after.trees
  updates mode at q alone h =
      let done = went h in
      let now = ap (λ (p : Tally × Database). p.1) (same_value (went (went done.2).2).2) in
      let given = went done.1 in
      let written = went given.2 in
      let trees : done.0.trees ≡ written.0 = ap (λ (it : Written). it.trees) (same_value written.2) in
      let edit : Edit = edit_of db table (ids_of given.0) Given 1 given.0 in
      let applied = one_step schema Enforced db written.0 edit (alone _ _) written.1 in (
        given.0,
        ap (λ (d : Database). d.schema) now,
        given.1,
        subst (Applies schema Enforced db edit) (sym (ap (λ (d : Database). d.trees) now ∙ trees)) applied,
      )

known : (old new : State) (text : List ℕ) (params : Row) (count : ℕ) → Executes text params old new (Ok count)
    → (c : Compiled) × (understood old.now.schema text ≡ Ok c)
unfolding ExecutesIn
known old new text params count h = (h.0, h.1.is)

-- under any schema
module _ (old new : State) (text : List ℕ) (table : Table)
    (any : (c : Compiled) → understood old.now.schema text ≡ Ok c → IsCreation text c)
    (defined : table_defined_by text ≡ Ok table)
    (uncounted : lacks_sequence (created old.now.schema table) ≡ false) where
  pub creates : (count : ℕ) → Executes text [] old new (Ok count) → Makes table old.now new.now
  creates count h =
      let schema = old.now.schema in
      let found = known old new text [] count h in
      let is = any found.0 found.1 in
      let plain : IsPlain (understood schema text) = subst IsPlain (sym found.1) (is.returns, is.untimed) in
      let w = subst (λ t. Writes old new None CreateTable t [] count) (ap (statement_of text) found.1 ∙ is.whole)
      (runs_as text [] old new schema refl CreateTable (ap command_of found.1 ∙ is.command) plain count h) in
      let all = went w.changed in
      let first = went all.1 in
      let made = first.1 in
      let both : Ok made.table ≡ Ok table = sym made.defined ∙ defined in
      let same : made.table ≡ table = cc in
      let after : first.0.schema ≡ created schema table = made.is ∙ ap (created schema) same in
      let bare : lacks_sequence first.0.schema ≡ false = ap lacks_sequence after ∙ uncounted in
      let now : new.now ≡ first.0 = ap (λ (p : Tally × Database). p.1) (same_value all.2) ∙ same_value
      (rw bare at first.2) in
      record {
        schema = ap (λ (d : Database). d.schema) now ∙ after;
        empty = ap (λ (d : Database). d.trees (next_tree schema)) now ∙ made.empty;
        others = subst (λ (d : Database). KeepsRows schema.tables old.now.trees d.trees) (sym now) made.others;
      }
