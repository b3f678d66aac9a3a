use Rattle.std.proofs.Common.{◌≡◌, ◌++◌, ℕ, List, length}
use Rattle.treasury_api.specs.RunEnd.{AnswersWhole}
use Rattle.treasury_api.proofs.lines.run.feed.Given as goal

-- the lines that the bytes so far end are answered, and the rest is after them
abbrev pub invariant-feeding : goal.invariant-feeding
invariant-feeding g l =
    (seen : List ℕ)
    × (AnswersWhole g.M.Machine.step (g.W.Write.contents l.initial.writer) (g.W.Write.contents l.writer)
    l.initial.machine seen l.line.items l.machine
    × (l.initial.line.items ++ l.initial.bytes ≡ seen ++ l.rest))

abbrev pub decreases-feeding : goal.decreases-feeding
decreases-feeding g l = length l.rest
