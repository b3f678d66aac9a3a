use Rattle.std.proofs.Common.{◌≡◌, ◌≤◌, take}
use Rattle.http_request.specs.Spaces.{spaces}
use Rattle.http_request.proofs.head.spaces.Given as goal

abbrev pub invariant-loop-byte : goal.invariant-loop-byte
invariant-loop-byte l = record {
  counted : l.count ≡ spaces (take l.byte-index l.text);
  bound : l.count ≤ l.byte-index;
}
