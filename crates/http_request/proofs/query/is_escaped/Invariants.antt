use Rattle.std.proofs.Common.{◌≡◌, length}
use Rattle.http_request.specs.Query.{is_escaped}
use Rattle.http_request.proofs.query.is_escaped.Given as goal

abbrev pub invariant-checking : goal.invariant-checking
invariant-checking l = is_escaped l.text ≡ is_escaped l.rest

abbrev pub decreases-checking : goal.decreases-checking
decreases-checking l = length l.rest
