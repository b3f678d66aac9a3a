use Rattle.treasury_api.specs.RunEnd.{most_input}
use Rattle.treasury_api.proofs.RunLemmas.{Passed}
use Rattle.treasury_api.proofs.lines.run.run_machine.Given as goal

-- the complete lines of what was read so far are answered
abbrev pub invariant-reading : goal.invariant-reading
invariant-reading g l =
    Passed g.M.Machine.step (g.R.Read.remaining l.initial.reader) (g.R.Read.remaining l.reader)
    (g.W.Write.contents l.initial.writer) (g.W.Write.contents l.writer)
    l.initial.machine l.machine l.line.items l.left most_input

abbrev pub decreases-reading : goal.decreases-reading
decreases-reading g l = l.left
