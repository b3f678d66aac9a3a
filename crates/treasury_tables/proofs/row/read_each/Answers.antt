use Rattle.std.proofs.Common.{◌∙◌, refl, sym, subst}
use Rattle.treasury_tables.specs.Reading.{HasReadSoFar, HasReadAll}
use Rattle.treasury_tables.proofs.ReadingLemmas.{all_error, next_is, end_is, gives_up}
use Rattle.treasury_tables.proofs.row.read_each.Goals as goal

pub returns-in_err-item-clause-all : goal.returns-in_err-item-clause-all
returns-in_err-item-clause-all g c sql first h =
    all_error g.S.Store g.T.FromRow.columns g.T.FromRow.front sql first c.read_next.new.rows.conn.now _
    c.from_residual.result c.from_residual.ensures.1
    (c.in_err-item.ensures.next sql first c.row.list.items (c.row.invariant.1 sql first h))

pub returns-in_err-push-in-Some-clause-all : goal.returns-in_err-push-in-Some-clause-all
returns-in_err-push-in-Some-clause-all g c sql first h =
    all_error g.S.Store g.T.FromRow.columns g.T.FromRow.front sql first c.read_next.new.rows.conn.now _
    c.from_residual-in_err-push-in-Some.result c.from_residual-in_err-push-in-Some.ensures.1
    (gives_up g.S.Store g.T.FromRow.columns g.T.FromRow.front sql first c.read_next.new.rows.conn.now _ _
    (next_is g.S.Store g.T.FromRow.columns g.T.FromRow.front sql first c.read_next.new.rows.conn.now
    c.row.list.items c.in_ok-item.field-0 c.in-Some.item c.in-Some.is
    (c.in_ok-item.ensures.next sql first c.row.list.items (c.row.invariant.1 sql first h))))

pub returns-in-None-clause-all : goal.returns-in-None-clause-all
returns-in-None-clause-all g c sql first h =
    subst (HasReadAll g.S.Store g.T.FromRow.columns g.T.FromRow.front sql first c.read_next.new.rows.conn.now)
    (sym c.from_vec.ensures)
    (end_is g.S.Store g.T.FromRow.columns g.T.FromRow.front sql first c.read_next.new.rows.conn.now
    c.row.list.items c.in_ok-item.field-0 c.in-None.is
    (c.in_ok-item.ensures.next sql first c.row.list.items (c.row.invariant.1 sql first h)))

pub row-preserved : goal.row-preserved
row-preserved g c = (
  c.in_ok-item.ensures.same_reference ∙ c.row.invariant.0,
  λ sql first h.
      subst (HasReadSoFar g.S.Store g.T.FromRow.columns g.T.FromRow.front sql first c.read_next.new.rows.conn.now)
      (sym c.in_ok-push-in-Some.ensures.items)
      (next_is g.S.Store g.T.FromRow.columns g.T.FromRow.front sql first c.read_next.new.rows.conn.now
      c.row.list.items c.in_ok-item.field-0 c.in-Some.item c.in-Some.is
      (c.in_ok-item.ensures.next sql first c.row.list.items (c.row.invariant.1 sql first h))),
)

pub row-init : goal.row-init
row-init g c = (
  refl,
  λ sql first h.
      subst (HasReadSoFar g.S.Store g.T.FromRow.columns g.T.FromRow.front sql first c.args.rows.now.conn.now)
      (sym c.new-list.ensures.items) h,
)

pub returns-clause-all : goal.returns-clause-all
returns-clause-all g c sql first h =
    gives_up g.S.Store g.T.FromRow.columns g.T.FromRow.front sql first c.row.rows.conn.now c.row.list.items _
    (c.row.invariant.1 sql first h)
