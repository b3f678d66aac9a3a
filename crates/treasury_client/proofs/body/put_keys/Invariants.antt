use Rattle.std.proofs.Common.{◌≡◌, drop}
use Rattle.serde_json.specs.View.{members_view}
use Rattle.treasury_requests.specs.Request.{given_of}
use Rattle.treasury_client.specs.Parts.{with_keys}
use Rattle.treasury_client.proofs.body.put_keys.Given as goal

abbrev pub invariant-keys : goal.invariant-keys
invariant-keys l =
    with_keys (given_of l.request) (drop l.key-index l.fn.keys) (members_view l.members.entries)
    ≡ with_keys (given_of l.request) l.fn.keys (members_view l.fn.members.entries)
