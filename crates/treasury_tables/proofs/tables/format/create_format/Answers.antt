use Rattle.sqlite.specs.Held.{state}
use Rattle.treasury_tables.specs.Tables.{format_table}
use Rattle.treasury_tables.proofs.InsideLemmas.{one_statement_creates}
use Rattle.treasury_tables.proofs.CreateLemmas.{makes_format}
use Rattle.treasury_tables.proofs.tables.format.create_format.Goals as goal

pub returns-clause-creates : goal.returns-clause-creates
returns-clause-creates g c =
    one_statement_creates g.S.Store _ _ _ _ _ _ c.execute.ensures.ended c.execute.ensures.runs
    c.execute.ensures.survives format_table
    (λ count none h. makes_format (state g.S.Store c.args.tx.now.conn.now) (state g.S.Store c.execute.new.self.conn.now)
    count none h)
