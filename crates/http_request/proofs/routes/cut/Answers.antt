use Rattle.http_request.proofs.PieceLemmas.{cut_some, cut_none}
use Rattle.http_request.proofs.routes.cut.Goals as goal

pub returns-in-Some : goal.returns-in-Some
returns-in-Some c =
    cut_some c.args.at c.from.result c.args.text.now c.split_once.result (c.in-Some.first, c.in-Some.rest)
    c.from.ensures c.requires c.split_once.ensures.cases c.in-Some.is

pub returns-in-None : goal.returns-in-None
returns-in-None c =
    cut_none c.args.at c.from.result c.args.text.now c.split_once.result c.from.ensures c.requires
    c.split_once.ensures.cases c.in-None.is
