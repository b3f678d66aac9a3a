use Rattle.std.proofs.Common.{◌≡◌, ◌++◌, take}
use Rattle.std.specs.List.{flat_map}
use Rattle.std.specs.Option.{option_map}
use Rattle.import_notes.specs.OtherBranch.{AreAllPrintable}
use Rattle.treasury_notes.specs.DryRun.{made_said}
use Rattle.treasury_notes.proofs.dry_run.say_made.Given as goal

-- those of the entries so far
abbrev pub invariant-loop-row : goal.invariant-loop-row
invariant-loop-row g l =
    AreAllPrintable l.styles l.new → l.out.items ≡ l.fn.out.items
    ++ flat_map (made_said l.styles (g.L.Ledger.book l.ledger) (option_map (λ text. text.now) l.account))
    (take l.row-index l.new)
