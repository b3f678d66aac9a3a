use Rattle.std.proofs.Common.{Ok, subst}
use Rattle.sqlite.specs.State.{Executes}
use Rattle.sqlite.specs.Held.{state}
use Rattle.treasury_tables.specs.Rows.{tables_with_entry}
use Rattle.treasury_tables.proofs.Texts.{add_entry_text}
use Rattle.treasury_tables.proofs.InsideLemmas.{one_statement_writes}
use Rattle.treasury_tables.proofs.RowsLemmas.{adds_entry}
use Rattle.treasury_tables.proofs.tables.entry.put_entry.Goals as goal

pub returns-clause-writes : goal.returns-clause-writes
returns-clause-writes g c =
    let row = c.args.row.now in
    let old = state g.S.Store c.args.tx.now.conn.now in
    let new = state g.S.Store c.execute.new.self.conn.now in
    one_statement_writes g.S.Store _ _ _ _ _ _ c.execute.ensures.ended c.execute.ensures.runs c.execute.ensures.survives
    (tables_with_entry row)
    (λ count t holds h. adds_entry row old new t count holds
    (subst (λ ps. Executes add_entry_text ps old new (Ok count)) c.entry_values-values.ensures h))
