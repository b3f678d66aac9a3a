use Rattle.std.proofs.Common.{◌≡◌, ◌++◌, ℕ, List, map}
use Rattle.journal_format.specs.CanonicalText.{txn_text}
use Rattle.journal_format.specs.Printable.{IsPrintable}
use Rattle.journal_lines.specs.Lines.{numbered}
use Rattle.treasury_notes.specs.DryRun.{entry_line_said, lines_said}
use Rattle.treasury_notes.proofs.dry_run.say_lines.Given as goal

-- those so far, and those that are left
abbrev pub invariant-loop-line : goal.invariant-loop-line
invariant-loop-line l =
    IsPrintable l.styles l.txn
    → l.out.items
    ++ map (λ (n : ℕ × List ℕ). entry_line_said n.1) (numbered l.line-iterator.number l.line-iterator.rest.now)
    ≡ l.fn.out.items ++ lines_said (txn_text l.styles l.txn)
