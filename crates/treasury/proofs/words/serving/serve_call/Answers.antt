use Rattle.treasury_api.proofs.WebLemmas.{has_served_one}
use Rattle.treasury.proofs.words.serving.serve_call.Goals as goal

pub returns-clause-served : goal.returns-clause-served
returns-clause-served g c =
    has_served_one c.serve_one.result g.S.Store g.R.Read.remaining _ _ g.W.Write.contents _ _ c.args.treasury.now
    c.serve_one.new.treasury c.serve_one.ensures
