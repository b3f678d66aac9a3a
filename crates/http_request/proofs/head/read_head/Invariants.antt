use Rattle.std.proofs.Common.{length, ◌-◌}
use Rattle.http_request.proofs.HeadLemmas.{Reading}
use Rattle.http_request.proofs.head.read_head.Given as goal

-- what was read so far is no head yet, and may become one
abbrev pub invariant-reading : goal.invariant-reading
invariant-reading g l = Reading (g.R.Read.remaining l.initial.reader) (g.R.Read.remaining l.reader) l.text.items

abbrev pub decreases-reading : goal.decreases-reading
decreases-reading g l = 16_384 - length l.text.items
