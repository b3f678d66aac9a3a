use Rattle.std.proofs.Common.{rules}
use Rattle.treasury_tables.proofs.QueriesLemmas.{same_error}
use Rattle.treasury_tables.proofs.ReadingLemmas.{begins, refused, all_queries, all_rows, all_shown, all_same}
use Rattle.treasury_tables.proofs.row.load.Goals as goal

pub returns-in_err-rows-clause-queries : goal.returns-in_err-rows-clause-queries
returns-in_err-rows-clause-queries g c =
    same_error c.in_err-rows.field-0.0 c.from_residual.result c.from_residual.ensures.1
    (refused g.S.Store g.T.FromRow.columns g.T.FromRow.front c.args.sql.now c.args.conn.now
    c.query.follows.lender-at-none c.query.result c.in_err-rows.field-0.0 c.in_err-rows.was
    c.query.follows.holds-at-none c.requires)

pub returns-clause-rows : goal.returns-clause-rows
returns-clause-rows g c clean =
    all_rows g.S.Store g.T.FromRow.columns g.T.FromRow.front c.args.sql.now c.args.conn.now
    c.read_each.new.rows.conn.now c.conn-2-1.given.0 c.read_each.result
    (c.read_each.ensures.all c.args.sql.now c.args.conn.now
    (begins g.S.Store g.T.FromRow.columns g.T.FromRow.front c.args.sql.now c.args.conn.now
    c.in_ok-rows.rows.conn.now c.requires c.in_ok-rows.ensures.begun c.in_ok-rows.ensures.survives)) clean
    (search rules)

pub returns-clause-shown : goal.returns-clause-shown
returns-clause-shown g c clean =
    all_shown g.S.Store g.T.FromRow.columns g.T.FromRow.front c.args.sql.now c.args.conn.now
    c.read_each.new.rows.conn.now c.conn-2-1.given.0 c.read_each.result
    (c.read_each.ensures.all c.args.sql.now c.args.conn.now
    (begins g.S.Store g.T.FromRow.columns g.T.FromRow.front c.args.sql.now c.args.conn.now
    c.in_ok-rows.rows.conn.now c.requires c.in_ok-rows.ensures.begun c.in_ok-rows.ensures.survives)) clean
    (search rules)

pub returns-clause-same : goal.returns-clause-same
returns-clause-same g c clean =
    all_same g.S.Store g.T.FromRow.columns g.T.FromRow.front c.args.sql.now c.args.conn.now
    c.read_each.new.rows.conn.now c.conn-2-1.given.0 c.read_each.result
    (c.read_each.ensures.all c.args.sql.now c.args.conn.now
    (begins g.S.Store g.T.FromRow.columns g.T.FromRow.front c.args.sql.now c.args.conn.now
    c.in_ok-rows.rows.conn.now c.requires c.in_ok-rows.ensures.begun c.in_ok-rows.ensures.survives)) clean
    (search rules)

pub returns-clause-queries : goal.returns-clause-queries
returns-clause-queries g c =
    all_queries g.S.Store g.T.FromRow.columns g.T.FromRow.front c.args.sql.now c.args.conn.now
    c.read_each.new.rows.conn.now _ c.read_each.result (c.read_each.ensures.all c.args.sql.now c.args.conn.now
    (begins g.S.Store g.T.FromRow.columns g.T.FromRow.front c.args.sql.now c.args.conn.now
    c.in_ok-rows.rows.conn.now c.requires c.in_ok-rows.ensures.begun c.in_ok-rows.ensures.survives))
    (search rules)
