use Rattle.std.proofs.Common.{◌≡◌, ◌++◌, drop, map}
use Rattle.treasury_requests.specs.Words.{key_name}
use Rattle.treasury_messages.proofs.request_fault.add_keys.Given as goal

-- the keys so far, and the rest
abbrev pub invariant-loop-key : goal.invariant-loop-key
invariant-loop-key l = record {
  kind : l.message.kind ≡ l.fn.message.kind;
  all : l.message.values ++ map key_name (drop l.key-index l.keys) ≡ l.fn.message.values ++ map key_name l.keys;
}
