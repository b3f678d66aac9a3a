use Rattle.std.proofs.Common.{◌≡◌, ◌+◌, drop}
use Rattle.std.specs.List.{prefix_len}
use Rattle.treasury_state.specs.Room.{is_key_before}
use Rattle.treasury_state.proofs.order.place_of_key.Given as goal

-- the parts so far stand before the key
abbrev pub invariant-part : goal.invariant-part
invariant-part l = record {
  count : l.count ≡ l.part-index;
  place : l.part-index + prefix_len (is_key_before l.key) (drop l.part-index l.parts)
      ≡ prefix_len (is_key_before l.key) l.parts;
}
