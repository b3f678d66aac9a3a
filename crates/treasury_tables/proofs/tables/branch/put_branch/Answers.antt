use Rattle.std.proofs.Common.{◌≡◌, [], ◌∷◌, Ok, subst, ap, ◌∙◌, rules, SFits, w64, to_z-of_z}
use Rattle.sqlite.specs.declared.types.Value.TheVariants.{Int, Text}
use Rattle.sqlite.specs.declared.types.Value.{Value}
use Rattle.sqlite_value.specs.Value.{owned}
use Rattle.sqlite.specs.Values.{bound, or_null}
use Rattle.sqlite.specs.State.{Executes}
use Rattle.sqlite.specs.Held.{state}
use Rattle.treasury_tables.specs.Rows.{values_of_branch, tables_with_branch}
use Rattle.treasury_tables.proofs.Texts.{add_branch_text}
use Rattle.treasury_tables.proofs.InsideLemmas.{one_statement_writes}
use Rattle.treasury_tables.proofs.RowsLemmas.{adds_branch, bound_day}
use Rattle.treasury_tables.proofs.tables.branch.put_branch.Goals as goal

pub returns-clause-writes : goal.returns-clause-writes
returns-clause-writes g c =
    let row = c.args.row.now in
    let old = state g.S.Store c.args.tx.now.conn.now in
    let new = state g.S.Store c.execute.new.self.conn.now in
    let fits_nr : SFits w64 row.nr = search rules in
    let is_nr : owned c.to_sql-nr.result ≡ Int row.nr = c.to_sql-nr.ensures ∙ ap Int (to_z-of_z fits_nr) in
    let is_name : owned c.to_sql-name.result ≡ Text row.name = c.to_sql-name.ensures ∙ ap Text c.as_str.ensures in
    let is_locked : owned c.to_sql-locked.result ≡ or_null Int row.locked = c.to_sql-locked.ensures in
    let is : bound (c.to_sql-nr.result ∷ c.to_sql-name.result ∷ c.to_sql-locked.result ∷ []) ≡ values_of_branch row =
    rw (is_nr, is_name, is_locked) (ap (λ (x : Value). Int row.nr ∷ Text row.name ∷ x ∷ []) (bound_day row.locked)) in
    one_statement_writes g.S.Store _ _ _ _ _ _ c.execute.ensures.ended c.execute.ensures.runs c.execute.ensures.survives
    (tables_with_branch row)
    (λ count t holds h. adds_branch row old new t count holds
    (subst (λ ps. Executes add_branch_text ps old new (Ok count)) is h))
