use Rattle.std.proofs.Common.{◌≡◌, ◌++◌, drop}
use Rattle.std.specs.List.{flat_map}
use Rattle.terminal_text.specs.Shown.{shown_byte}
use Rattle.terminal_text.proofs.shown.push_all_bytes.Given as goal

-- what is appended so far, and then the rest, is what is shown of all bytes
abbrev pub invariant-loop-byte : goal.invariant-loop-byte
invariant-loop-byte l = l.out.items ++ flat_map shown_byte (drop l.byte-index l.text)
    ≡ l.fn.out.items ++ flat_map shown_byte l.text
