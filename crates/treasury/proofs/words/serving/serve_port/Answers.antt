use Rattle.treasury_api.proofs.WebLemmas.{has_served_none}
use Rattle.treasury.proofs.words.serving.serve_port.Goals as goal

pub returns-in-Err-clause-served : goal.returns-in-Err-clause-served
returns-in-Err-clause-served g c = has_served_none g.S.Store c.args.treasury.now

pub returns-in-Err-announce-clause-served : goal.returns-in-Err-announce-clause-served
returns-in-Err-announce-clause-served g c = has_served_none g.S.Store c.args.treasury.now
