use Rattle.std.proofs.Common.{length, option_copied}
use Rattle.http_request.specs.Routes.{pieces_at}
use Rattle.http_request.proofs.query.+pieces_given.Given as goal

-- how many pieces are left
abbrev pub decreases-pieces_given : goal.decreases-pieces_given
decreases-pieces_given l = length (pieces_at 38 (option_copied l.pieces))
