use Rattle.std.proofs.Common.{arith}
use Rattle.std.proofs.lemmas.Str.Pattern.{split_once_first}
use Rattle.treasury_requests.specs.Keys.{keys_of}
use Rattle.http_request.proofs.PieceLemmas.{no_piece}
use Rattle.http_request.proofs.query.piece_given.Goals as goal

pub returns-in_default-clause-value : goal.returns-in_default-clause-value
returns-in_default-clause-value c =
    let cut = split_once_first 61 c.args.piece.now c.split_once.result c.split_once.ensures.cases (omega arith) in
    no_piece (keys_of c.args.word) c.args.piece.now (rw c.in_default.is at cut)
