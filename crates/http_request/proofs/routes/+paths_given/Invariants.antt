use Rattle.std.proofs.Common.{length}
use Rattle.http_request.proofs.routes.+paths_given.Given as goal

abbrev pub decreases-paths_given : goal.decreases-paths_given
decreases-paths_given l = length l.paths.now
