use Rattle.std.proofs.Common.{◌≡◌, [], ◌∷◌, Ok, subst, ap, ◌∙◌, rules, SFits, w64, to_z-of_z}
use Rattle.sqlite.specs.declared.types.Value.TheVariants.{Int, Text}
use Rattle.sqlite_value.specs.Value.{owned}
use Rattle.sqlite.specs.Values.{bound}
use Rattle.sqlite.specs.State.{Executes}
use Rattle.sqlite.specs.Held.{state}
use Rattle.treasury_tables.specs.Rows.{values_of_part, tables_with_part}
use Rattle.treasury_tables.proofs.Texts.{add_part_text}
use Rattle.treasury_tables.proofs.InsideLemmas.{one_statement_writes}
use Rattle.treasury_tables.proofs.RowsLemmas.{adds_part}
use Rattle.treasury_tables.proofs.tables.receipt.put_part.Goals as goal

pub returns-clause-writes : goal.returns-clause-writes
returns-clause-writes g c =
    let row = c.args.row.now in
    let old = state g.S.Store c.args.tx.now.conn.now in
    let new = state g.S.Store c.execute.new.self.conn.now in
    let is_transfer : owned c.to_sql-transfer.result ≡ Text row.transfer =
    c.to_sql-transfer.ensures ∙ ap Text c.as_str.ensures in
    let is_part : owned c.to_sql-part.result ≡ Text row.part = c.to_sql-part.ensures ∙ ap Text c.as_str-2.ensures in
    let fits_qty : SFits w64 row.qty = search rules in
    let is_qty : owned c.to_sql-qty.result ≡ Int row.qty = c.to_sql-qty.ensures ∙ ap Int (to_z-of_z fits_qty) in
    let fits_received : SFits w64 row.received = search rules in
    let is_received : owned c.to_sql-received.result ≡ Int row.received =
    c.to_sql-received.ensures ∙ ap Int (to_z-of_z fits_received) in
    let is_payee : owned c.to_sql-payee.result ≡ Text row.payee = c.to_sql-payee.ensures ∙ ap Text c.as_str-3.ensures in
    let is : bound (c.to_sql-transfer.result ∷ c.to_sql-part.result ∷ c.to_sql-qty.result ∷ c.to_sql-received.result
    ∷ c.to_sql-payee.result ∷ []) ≡ values_of_part row =
    rw (is_transfer, is_part, is_qty, is_received, is_payee) in
    one_statement_writes g.S.Store _ _ _ _ _ _ c.execute.ensures.ended c.execute.ensures.runs c.execute.ensures.survives
    (tables_with_part row)
    (λ count t holds h. adds_part row old new t count holds
    (subst (λ ps. Executes add_part_text ps old new (Ok count)) is h))
