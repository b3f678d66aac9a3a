use Rattle.std.proofs.Common.{[]}
use Rattle.treasury_tables.proofs.QueriesLemmas.{first_reads, first_has_read}
use Rattle.treasury_tables.proofs.first_version.first_queried.Goals as goal

pub returns-clause-reads : goal.returns-clause-reads
returns-clause-reads g c =
    first_reads g.S.Store c.args.conn.now c.query_all.new.self c.args.sql.now [] c.requires
    c.query_all.ensures.survives (λ rows. rows.items) c.query_all.result c.query_all.ensures.ok c.query_all.ensures.err

pub returns-clause-has : goal.returns-clause-has
returns-clause-has g c =
    first_has_read g.S.Store c.args.conn.now c.query_all.new.self c.args.sql.now [] c.requires
    c.query_all.ensures.survives (λ rows. rows.items) c.query_all.result c.query_all.ensures.ok
