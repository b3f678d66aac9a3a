use Rattle.std.proofs.Common.{◌∙◌, ◌<◌, ◌≤◌, length, get_or, map, ap, arith, take_all}
use Rattle.std.proofs.lemmas.List.{length-map}
use Rattle.treasury_tables.proofs.LoadLemmas.{more_read, more_shown}
use Rattle.treasury_tables.proofs.row.read_all.Goals as goal

pub row-preserved : goal.row-preserved
row-preserved g c = (
  λ ys e.
      let i = c.row.row-index in
      let low : i < length ys = omega (arith, c.row-test.true, ap length e, length-map ys g.T.FromRow.columns) in
      c.in_ok-push.ensures.items
      ∙ more_read g.T.FromRow.columns ys c.row.list.items i c.in_ok-item.item c.row-item.result low
      (c.row-item.is ∙ ap (λ l. get_or l i c.row-item.result) e) (c.row.invariant.0 ys e) c.in_ok-item.ensures.same,
  ap (map g.T.FromRow.columns) c.in_ok-push.ensures.items
      ∙ more_shown g.T.FromRow.columns g.T.FromRow.front c.args.rows.now c.row.list.items c.row.row-index
      c.in_ok-item.item c.row-item.result c.row-test.true c.row-item.is c.row.invariant.1
      c.in_ok-item.ensures.shown,
)

pub returns-clause-same : goal.returns-clause-same
returns-clause-same g c ys e =
    let past : length ys ≤ c.row.row-index =
    omega (arith, c.row-test.false, ap length e, length-map ys g.T.FromRow.columns) in
    c.from_vec.ensures ∙ c.row.invariant.0 ys e ∙ take_all c.row.row-index ys past

pub returns-clause-shown : goal.returns-clause-shown
returns-clause-shown g c =
    let past : length (map g.T.FromRow.front c.args.rows.now) ≤ c.row.row-index =
    omega (arith, c.row-test.false, length-map c.args.rows.now g.T.FromRow.front) in
    ap (map g.T.FromRow.columns) c.from_vec.ensures ∙ c.row.invariant.1 ∙ take_all c.row.row-index
    (map g.T.FromRow.front c.args.rows.now) past
