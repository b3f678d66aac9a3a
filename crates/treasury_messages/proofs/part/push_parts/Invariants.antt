use Rattle.std.proofs.Common.{◌≡◌, ◌++◌, drop}
use Rattle.std.specs.List.{flat_map}
use Rattle.treasury_messages.specs.Parts.{part_text}
use Rattle.treasury_messages.proofs.part.push_parts.Given as goal

-- those so far, and those of the rest
abbrev pub invariant-loop-part : goal.invariant-loop-part
invariant-loop-part l =
    l.out.items ++ flat_map part_text (drop l.part-index l.parts) ≡ l.fn.out.items ++ flat_map part_text l.parts
