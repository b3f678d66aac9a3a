use Rattle.std.proofs.Common.{◌≡◌, [], ◌∷◌, Ok, subst, ap, ◌∙◌, rules, SFits, w64, to_z-of_z}
use Rattle.sqlite.specs.declared.types.Value.TheVariants.{Int, Text}
use Rattle.sqlite_value.specs.Value.{owned}
use Rattle.sqlite.specs.Values.{bound}
use Rattle.sqlite.specs.State.{Executes}
use Rattle.sqlite.specs.Held.{state}
use Rattle.treasury_tables.specs.Rows.{values_of_unit, tables_with_unit}
use Rattle.treasury_tables.proofs.Texts.{add_unit_text}
use Rattle.treasury_tables.proofs.InsideLemmas.{one_statement_writes}
use Rattle.treasury_tables.proofs.RowsLemmas.{adds_unit}
use Rattle.treasury_tables.proofs.tables.unit.put_unit.Goals as goal

pub returns-clause-writes : goal.returns-clause-writes
returns-clause-writes g c =
    let row = c.args.row.now in
    let old = state g.S.Store c.args.tx.now.conn.now in
    let new = state g.S.Store c.execute.new.self.conn.now in
    let fits_nr : SFits w64 row.nr = search rules in
    let is_nr : owned c.to_sql-nr.result ≡ Int row.nr = c.to_sql-nr.ensures ∙ ap Int (to_z-of_z fits_nr) in
    let is_symbol : owned c.to_sql-symbol.result ≡ Text row.symbol =
    c.to_sql-symbol.ensures ∙ ap Text c.as_str.ensures in
    let fits_decimals : SFits w64 row.decimals = search rules in
    let is_decimals : owned c.to_sql-decimals.result ≡ Int row.decimals =
    c.to_sql-decimals.ensures ∙ ap Int (to_z-of_z fits_decimals) in
    let is_mark : owned c.to_sql-mark.result ≡ Text row.mark = c.to_sql-mark.ensures ∙ ap Text c.as_str-2.ensures in
    let fits_grouped : SFits w64 row.grouped = search rules in
    let is_grouped : owned c.to_sql-grouped.result ≡ Int row.grouped =
    c.to_sql-grouped.ensures ∙ ap Int (to_z-of_z fits_grouped) in
    let fits_leftside : SFits w64 row.leftside = search rules in
    let is_leftside : owned c.to_sql-leftside.result ≡ Int row.leftside =
    c.to_sql-leftside.ensures ∙ ap Int (to_z-of_z fits_leftside) in
    let fits_spaced : SFits w64 row.spaced = search rules in
    let is_spaced : owned c.to_sql-spaced.result ≡ Int row.spaced =
    c.to_sql-spaced.ensures ∙ ap Int (to_z-of_z fits_spaced) in
    let is : bound (c.to_sql-nr.result ∷ c.to_sql-symbol.result ∷ c.to_sql-decimals.result ∷ c.to_sql-mark.result
    ∷ c.to_sql-grouped.result ∷ c.to_sql-leftside.result ∷ c.to_sql-spaced.result ∷ []) ≡ values_of_unit row =
    rw (is_nr, is_symbol, is_decimals, is_mark, is_grouped, is_leftside, is_spaced) in
    one_statement_writes g.S.Store _ _ _ _ _ _ c.execute.ensures.ended c.execute.ensures.runs c.execute.ensures.survives
    (tables_with_unit row)
    (λ count t holds h. adds_unit row old new t count holds
    (subst (λ ps. Executes add_unit_text ps old new (Ok count)) is h))
