use Rattle.std.proofs.Common.{inr, sym, subst}
use Rattle.sqlite.specs.Given.{Advances}
use Rattle.treasury_tables.proofs.ReadingLemmas.{goes_on, ends, stops, next_error}
use Rattle.treasury_tables.proofs.row.read_next.Goals as goal

pub returns-in_err-advance-clause-next : goal.returns-in_err-advance-clause-next
returns-in_err-advance-clause-next g c sql first xs h =
    next_error g.S.Store g.T.FromRow.columns g.T.FromRow.front sql first c.advance.new.self.conn.now xs _
    c.from_residual.result c.from_residual.ensures.1
    (stops g.S.Store g.T.FromRow.columns g.T.FromRow.front sql first c.args.rows.now.conn.now
    c.advance.new.self.conn.now xs h c.in_err-advance.ensures.survives _ c.in_err-advance.ensures.kept)

pub returns-in_err-item-in-Some-clause-next : goal.returns-in_err-item-in-Some-clause-next
returns-in_err-item-in-Some-clause-next g c sql first xs h =
    next_error g.S.Store g.T.FromRow.columns g.T.FromRow.front sql first c.advance.new.self.conn.now xs _
    c.from_residual-in_err-item-in-Some.result c.from_residual-in_err-item-in-Some.ensures.1
    (stops g.S.Store g.T.FromRow.columns g.T.FromRow.front sql first c.args.rows.now.conn.now
    c.advance.new.self.conn.now xs h c.in_ok-advance.ensures.survives _
    (λ clean. inr (c.in_ok-advance.ensures.same clean)))

pub returns-in_ok-item-in-Some-clause-next : goal.returns-in_ok-item-in-Some-clause-next
returns-in_ok-item-in-Some-clause-next g c sql first xs h =
    goes_on g.S.Store g.T.FromRow.columns g.T.FromRow.front sql first c.args.rows.now.conn.now
    c.advance.new.self.conn.now xs h c.in_ok-advance.ensures.survives c.in_ok-item-in-Some.item c.in-Some.row.now
    (λ clean. subst (Advances g.S.Store c.args.rows.now.conn.now c.advance.new.self.conn.now) (sym c.in-Some.ensures)
    (c.in_ok-advance.ensures.ok clean))
    c.in_ok-advance.ensures.same c.in_ok-item-in-Some.ensures.same c.in_ok-item-in-Some.ensures.shown

pub returns-in-None-clause-next : goal.returns-in-None-clause-next
returns-in-None-clause-next g c sql first xs h =
    ends g.S.Store g.T.FromRow.columns g.T.FromRow.front sql first c.args.rows.now.conn.now
    c.advance.new.self.conn.now xs h c.in_ok-advance.ensures.survives
    (λ clean. subst (Advances g.S.Store c.args.rows.now.conn.now c.advance.new.self.conn.now) (sym c.in-None.ensures)
    (c.in_ok-advance.ensures.ok clean))
    c.in_ok-advance.ensures.same
