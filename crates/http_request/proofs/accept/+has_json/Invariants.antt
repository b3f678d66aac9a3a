use Rattle.std.proofs.Common.{length}
use Rattle.http_request.proofs.accept.+has_json.Given as goal

abbrev pub decreases-has_json : goal.decreases-has_json
decreases-has_json l = length l.headers.now
