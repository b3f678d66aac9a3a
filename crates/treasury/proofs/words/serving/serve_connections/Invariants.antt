use Rattle.treasury_api.specs.Web.{HasServed}
use Rattle.treasury.proofs.words.serving.serve_connections.Given as goal

-- what the connections so far have made of the treasury
abbrev pub invariant-serving : goal.invariant-serving
invariant-serving g l = HasServed g.S.Store l.initial.treasury l.treasury
