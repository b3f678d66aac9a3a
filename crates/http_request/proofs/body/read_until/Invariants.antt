use Rattle.std.proofs.Common.{length, ◌-◌, ◌≤◌, max}
use Rattle.http_request.specs.Body.{ReadsMore}
use Rattle.http_request.proofs.body.read_until.Given as goal

abbrev pub invariant-reading : goal.invariant-reading
invariant-reading g l = record {
  grows : ReadsMore (g.R.Read.remaining l.initial.reader) (g.R.Read.remaining l.reader) l.initial.text.items
      l.text.items;
  bounded : length l.text.items ≤ max l.whole (length l.initial.text.items);
}

abbrev pub decreases-reading : goal.decreases-reading
decreases-reading g l = l.whole - length l.text.items
