use Rattle.std.proofs.Common.{◌≡◌, ◌++◌, drop, map}
use Rattle.std.specs.Borrow.{Bor}
use Rattle.treasury_state.specs.declared.record.Record.{Record}
use Rattle.treasury_reasons.specs.Failure.{touching_said}
use Rattle.treasury_reasons.specs.Reading.{line_of}
use Rattle.treasury_reasons.proofs.touching.say_each.Given as goal

-- what is said so far, and then the rest, is what is said of all
abbrev pub invariant-loop-row : goal.invariant-loop-row
invariant-loop-row l =
    l.out.items
    ++ map (touching_said l.records l.source (line_of l.read.file.items l.read.rows))
    (map (λ (r : Bor Record). r.now) (drop l.row-index l.new))
    ≡ l.fn.out.items
    ++ map (touching_said l.records l.source (line_of l.read.file.items l.read.rows))
    (map (λ (r : Bor Record). r.now) l.new)
