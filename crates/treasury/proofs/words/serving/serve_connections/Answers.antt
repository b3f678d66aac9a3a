use Rattle.treasury_api.proofs.WebLemmas.{has_served_none, has_served_more}
use Rattle.treasury.proofs.words.serving.serve_connections.Goals as goal

pub serving-init : goal.serving-init
serving-init g c = has_served_none g.S.Store c.args.treasury.now

pub serving-preserved : goal.serving-preserved
serving-preserved g c = has_served_more g.S.Store c.args.treasury.now c.serving.treasury c.serve_connection.new.treasury
    c.serving.invariant c.serve_connection.ensures

pub returns-in-Err-serve_connection : goal.returns-in-Err-serve_connection
returns-in-Err-serve_connection g c = record {
  served = has_served_more g.S.Store c.args.treasury.now c.serving.treasury c.serve_connection.new.treasury
      c.serving.invariant c.serve_connection.ensures;
}
