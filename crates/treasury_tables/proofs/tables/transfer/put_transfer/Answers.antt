use Rattle.std.proofs.Common.{◌≡◌, [], ◌∷◌, Ok, subst, ap, ap₂, ◌∙◌, rules, SFits, w64, to_z-of_z}
use Rattle.sqlite.specs.declared.types.Value.TheVariants.{Int, Text}
use Rattle.sqlite.specs.declared.types.Value.{Value}
use Rattle.sqlite_value.specs.Value.{owned}
use Rattle.sqlite.specs.Values.{bound, or_null}
use Rattle.sqlite.specs.State.{Executes}
use Rattle.sqlite.specs.Held.{state}
use Rattle.treasury_tables.specs.Rows.{values_of_transfer, tables_with_transfer}
use Rattle.treasury_tables.proofs.Texts.{add_transfer_text}
use Rattle.treasury_tables.proofs.InsideLemmas.{one_statement_writes}
use Rattle.treasury_tables.proofs.RowsLemmas.{adds_transfer, bound_day, bound_words}
use Rattle.treasury_tables.proofs.tables.transfer.put_transfer.Goals as goal

pub returns-clause-writes : goal.returns-clause-writes
returns-clause-writes g c =
    let row = c.args.row.now in
    let old = state g.S.Store c.args.tx.now.conn.now in
    let new = state g.S.Store c.execute.new.self.conn.now in
    let is_id : owned c.to_sql-id.result ≡ Text row.id = c.to_sql-id.ensures ∙ ap Text c.as_str.ensures in
    let fits_source : SFits w64 row.source = search rules in
    let is_source : owned c.to_sql-source.result ≡ Int row.source =
    c.to_sql-source.ensures ∙ ap Int (to_z-of_z fits_source) in
    let fits_target : SFits w64 row.target = search rules in
    let is_target : owned c.to_sql-target.result ≡ Int row.target =
    c.to_sql-target.ensures ∙ ap Int (to_z-of_z fits_target) in
    let fits_unit : SFits w64 row.unit = search rules in
    let is_unit : owned c.to_sql-unit.result ≡ Int row.unit = c.to_sql-unit.ensures ∙ ap Int (to_z-of_z fits_unit) in
    let fits_qty : SFits w64 row.qty = search rules in
    let is_qty : owned c.to_sql-qty.result ≡ Int row.qty = c.to_sql-qty.ensures ∙ ap Int (to_z-of_z fits_qty) in
    let fits_dispatched : SFits w64 row.dispatched = search rules in
    let is_dispatched : owned c.to_sql-dispatched.result ≡ Int row.dispatched =
    c.to_sql-dispatched.ensures ∙ ap Int (to_z-of_z fits_dispatched) in
    let is_payer : owned c.to_sql-payer.result ≡ Text row.payer = c.to_sql-payer.ensures ∙ ap Text c.as_str-2.ensures in
    let is_received : owned c.to_sql-received.result ≡ or_null Int row.received = c.to_sql-received.ensures in
    let is : bound (c.to_sql-id.result ∷ c.to_sql-source.result ∷ c.to_sql-target.result ∷ c.to_sql-unit.result
    ∷ c.to_sql-qty.result ∷ c.to_sql-dispatched.result ∷ c.to_sql-payer.result ∷ c.to_sql-received.result
    ∷ c.text_or_null-payee.result ∷ []) ≡ values_of_transfer row =
    rw (
      is_id,
      is_source,
      is_target,
      is_unit,
      is_qty,
      is_dispatched,
      is_payer,
      is_received,
      c.text_or_null-payee.ensures,
    )
    (ap₂ (λ (x y : Value).
    Text row.id ∷ Int row.source ∷ Int row.target ∷ Int row.unit ∷ Int row.qty ∷ Int row.dispatched ∷ Text row.payer
    ∷ x ∷ y ∷ []) (bound_day row.received) (bound_words row.payee)) in
    one_statement_writes g.S.Store _ _ _ _ _ _ c.execute.ensures.ended c.execute.ensures.runs c.execute.ensures.survives
    (tables_with_transfer row)
    (λ count t holds h. adds_transfer row old new t count holds
    (subst (λ ps. Executes add_transfer_text ps old new (Ok count)) is h))
