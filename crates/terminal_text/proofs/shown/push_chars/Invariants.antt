use Rattle.std.proofs.Common.{◌≡◌, ◌<◌, ◌+◌, ◌++◌, drop, length}
use Rattle.std.specs.Str.{chars}
use Rattle.terminal_text.specs.Shown.{most_shown, shown_from}
use Rattle.terminal_text.proofs.shown.push_chars.Given as goal

-- what is appended so far, and then the rest, is what is shown of all characters
abbrev pub invariant-loop-shown : goal.invariant-loop-shown
invariant-loop-shown l = record {
  few : l.count < most_shown + 4;
  same : l.out.items ++ shown_from l.count (drop (length l.yielded) (chars l.text))
      ≡ l.fn.out.items ++ shown_from 0 (chars l.text);
}
