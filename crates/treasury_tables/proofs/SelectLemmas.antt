-- A query of `format` is understood under each schema as a query, or it is refused: it writes nothing.
use Rattle.std.proofs.Common.{◌≡◌, ℕ, List, Ok, Err, Result, None, Some, Option, true, false, Bool, refl, sym, ap}
use Rattle.std.proofs.Common.{subst, ◌∙◌, if◌then◌else◌, ◌+◌, true≢false}
use Rattle.std.specs.Prelude.{IsSome}
use Rattle.sqlite.specs.Schema.{Schema}
use Rattle.sqlite.specs.Tree.{Trees}
use Rattle.sqlite.specs.Order.{Row}
use Rattle.sqlite.specs.State.{State, IsUnchanged, Shown, ShowsRows, CommitsShowing}
use Rattle.sqlite.specs.Clock.{timed}
use Rattle.sqlite.specs.Listing.{understood, reads_listing, if_select, is_select, listing_schema}
use Rattle.sqlite_schema.specs.declared.command.Command.{Command}
use Rattle.sqlite_schema.specs.declared.command.Returning.{Returning}
use Rattle.sqlite_ast.specs.declared.Statement.{Statement}
use Rattle.sqlite_ast.specs.declared.Statement.TheVariants as written
use Rattle.sqlite_syntax.specs.declared.statement.Parsed.{Parsed}
use Rattle.sqlite_resolve.specs.declared.compiled.Compiled.{Compiled}
use Rattle.sqlite_resolve.specs.declared.error.CompileError.{CompileError}
use Rattle.sqlite_resolve.specs.Lowering.{Checked, and_then}
use Rattle.sqlite_resolve.specs.Scope.{Name}
use Rattle.sqlite_resolve.specs.Compile.{compiled, first, planned, meaning, command, returning, with_command, small}
use Rattle.sqlite_resolve.specs.Compile.{timed as formats_by}
use Rattle.sqlite_tied.specs.Compute.{everything}
use Rattle.treasury_tables.proofs.Texts.{format_rows_text}

-- ---- a text that is a query has no RETURNING
abbrev is_query : Statement → Bool
is_query (written.Select s) = true
is_query _ = false

abbrev ReadsQuery : Checked Parsed → Type 0
ReadsQuery (Ok p) = is_query p.statement ≡ true
ReadsQuery (Err e) = ⊥

returns_none : (s : Schema) (base : ℕ) (statement : Statement) → is_query statement ≡ true
    → returning s base statement ≡ Ok None
unfolding returning
returns_none s base written.Empty h = absurd (cc)
returns_none s base (written.Select q) h = refl
returns_none s base (written.Insert conflict name columns rows clauses shown) h = absurd (cc)
returns_none s base (written.Update name sets test shown) h = absurd (cc)
returns_none s base (written.Delete name test shown) h = absurd (cc)
returns_none s base (written.Pragma name value) h = absurd (cc)
returns_none s base (written.CreateTable def) h = absurd (cc)
returns_none s base (written.CreateIndex def) h = absurd (cc)
returns_none s base (written.CreateView if_missing name columns q) h = absurd (cc)
returns_none s base (written.DropTable if_exists name) h = absurd (cc)
returns_none s base (written.DropIndex if_exists name) h = absurd (cc)
returns_none s base (written.DropView if_exists name) h = absurd (cc)
returns_none s base written.Begin h = absurd (cc)
returns_none s base written.Commit h = absurd (cc)
returns_none s base written.Rollback h = absurd (cc)
returns_none s base (written.Savepoint name) h = absurd (cc)
returns_none s base (written.Release name) h = absurd (cc)
returns_none s base (written.RollbackTo name) h = absurd (cc)

abbrev Plan : Type 0
Plan = List Name × (Command × Option Returning)

planned_none : (s : Schema) (p : Parsed) → is_query p.statement ≡ true → (plan : Plan) → planned s p ≡ Ok plan
    → plan.1.1 ≡ None
unfolding planned meaning
planned_none s p query plan =
    let formats = formats_by s p.formats p.statement in
    let base = small p.names + small formats in
    go formats (returning s base p.statement) (returns_none s base p.statement query)
    (command s p.formats base p.statement)
  where
    go : (formats : List Name) (r : Checked (Option Returning)) → r ≡ Ok None → (k : Checked Command)
        → and_then (and_then r (λ shown. and_then k (λ c. Ok (c, shown)))) (λ found. Ok (formats, found)) ≡ Ok plan
        → plan.1.1 ≡ None
    go formats (Err e) is k h = absurd (cc)
    go formats (Ok (Some what)) is k h = absurd (cc)
    go formats (Ok None) is (Err e) h = absurd (cc)
    go formats (Ok None) is (Ok c) h =
        let same : ◌≡◌ {A = Plan} (formats, (c, None)) plan = cc in
        sym (ap (λ (q : Plan). q.1.1) same)

compiled_none : (s : Schema) (text : List ℕ) → ReadsQuery (first text) → (c : Compiled) → compiled s text ≡ Ok c
    → c.returning ≡ None
unfolding compiled
compiled_none s text query c = go (first text) query
  where
    behind : (p : Parsed) (r : Checked Plan) → ((plan : Plan) → r ≡ Ok plan → plan.1.1 ≡ None)
        → and_then r (λ plan. Ok (with_command p plan)) ≡ Ok c → c.returning ≡ None
    behind p (Err e) none h = absurd (cc)
    behind p (Ok plan) none h =
        let same : with_command p plan ≡ c = cc in
        sym (ap (λ (k : Compiled). k.returning) same) ∙ none plan refl

    go : (r : Checked Parsed) → ReadsQuery r
        → and_then r (λ p. and_then (planned s p) (λ plan. Ok (with_command p plan))) ≡ Ok c → c.returning ≡ None
    go (Err e) query h = absurd query
    go (Ok p) query h = behind p (planned s p) (planned_none s p query) h

understood_none : (s : Schema) (text : List ℕ) → ReadsQuery (first text) → (c : Compiled) → understood s text ≡ Ok c
    → c.returning ≡ None
unfolding understood
understood_none s text query c = go (reads_listing s text)
  where
    listed : (r : Result Compiled CompileError) → ((k : Compiled) → r ≡ Ok k → k.returning ≡ None) → if_select r ≡ Ok c
        → c.returning ≡ None
    listed (Err e) none h = absurd (cc)
    listed (Ok k) none h = chosen (is_select k.command) h
      where
        chosen : (b : Bool) → ◌≡◌ {A = Result Compiled CompileError}
            (if b then Ok k else if_select (Err CompileError.NoSuchTable)) (Ok c) → c.returning ≡ None
        chosen true e = let same : k ≡ c = cc in sym (ap (λ (x : Compiled). x.returning) same) ∙ none k refl
        chosen false e = absurd (cc)

    go : (b : Bool) → (if b then if_select (compiled listing_schema text) else compiled s text) ≡ Ok c
        → c.returning ≡ None
    go true h = listed (compiled listing_schema text) (compiled_none listing_schema text query) h
    go false h = compiled_none s text query c h

-- ---- the query of `format`
format_query_is : ReadsQuery (first format_rows_text)
unfolding understood everything
format_query_is = refl

-- one that answers changes nothing
pub format_unchanged : (params : Row) (old new : State) (rows : List Row) → Shown format_rows_text params old new rows
    → IsUnchanged old new
unfolding Shown
format_unchanged params old new rows h =
    let it = subst (ShowsRows old new format_rows_text h.0 (timed params h.0.formats h.1.now) rows)
    (understood_none old.now.schema format_rows_text format_query_is h.0 h.1.is) h.2 in it.3

-- and none commits anything
pub format_commits_nothing : (params : Row) (old : State) (trees : Trees)
    → CommitsShowing format_rows_text params old trees → ⊥
unfolding CommitsShowing
format_commits_nothing params old trees h =
    true≢false (sym (subst IsSome (understood_none old.now.schema format_rows_text format_query_is h.0 h.1.is) h.2))
