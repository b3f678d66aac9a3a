use Rattle.std.proofs.Common.{◌≡◌, [], ◌∷◌, Ok, subst, ap, ◌∙◌, to_z-of_z}
use Rattle.sqlite.specs.declared.types.Value.TheVariants.{Int, Text}
use Rattle.sqlite_value.specs.Value.{owned}
use Rattle.sqlite.specs.Values.{bound}
use Rattle.sqlite.specs.State.{Executes}
use Rattle.sqlite.specs.Held.{state}
use Rattle.treasury_tables.specs.Rows.{tables_with_receipt}
use Rattle.treasury_tables.proofs.Texts.{receive_text}
use Rattle.treasury_tables.proofs.InsideLemmas.{one_statement_writes}
use Rattle.treasury_tables.proofs.ReceiptLemmas.{holds_received}
use Rattle.treasury_tables.proofs.tables.transfer.set_receipt.Goals as goal

pub returns-clause-writes : goal.returns-clause-writes
returns-clause-writes g c =
    let id = c.args.id.now in
    let payee = c.args.payee.now in
    let old = state g.S.Store c.args.tx.now.conn.now in
    let new = state g.S.Store c.execute.new.self.conn.now in
    let is_day : owned c.to_sql-received.result ≡ Int c.args.day =
    c.to_sql-received.ensures ∙ ap Int (to_z-of_z c.ranges.day) in
    let is : bound (c.to_sql-key.result ∷ c.to_sql-received.result ∷ c.to_sql-account.result ∷ [])
    ≡ Text id ∷ Int c.args.day ∷ Text payee ∷ [] =
    rw (c.to_sql-key.ensures, is_day, c.to_sql-account.ensures) in
    one_statement_writes g.S.Store _ _ _ _ _ _ c.execute.ensures.ended c.execute.ensures.runs c.execute.ensures.survives
    (tables_with_receipt id c.args.day payee)
    (λ count t holds h. holds_received id c.args.day payee old new t count holds
    (subst (λ ps. Executes receive_text ps old new (Ok count)) is h))
