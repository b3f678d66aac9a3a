use Rattle.std.proofs.Common.{◌≡◌, map}
use Rattle.http_request.specs.Ending.{HasNoEnd}
use Rattle.http_request.proofs.head.may_end.Given as goal

abbrev pub invariant-loop-end : goal.invariant-loop-end
invariant-loop-end l = record {
  kept : l.text.items ≡ l.fn.text.items;
  none : HasNoEnd l.fn.text.items (map (λ end. end.now) l.ends) l.end-index;
}
