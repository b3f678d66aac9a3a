use Rattle.std.proofs.Common.{length}
use Rattle.http_request.proofs.routes.+parts_given.Given as goal

abbrev pub decreases-parts_given : goal.decreases-parts_given
decreases-parts_given l = length l.keys.now
