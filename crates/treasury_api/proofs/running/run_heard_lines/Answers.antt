use Rattle.treasury_api.specs.RunEnd.{most_input}
use Rattle.treasury_api.proofs.RunEndLemmas.{run_keeps_books, run_shuts, run_closed, run_causes}
use Rattle.treasury_api.proofs.running.run_heard_lines.Goals as goal

pub returns-clause-runs : goal.returns-clause-runs
returns-clause-runs g c =
    run_keeps_books g.S.Store c.left_law.ensures.rows c.run_machine.result g.R.Read.remaining _ _ g.W.Write.contents _ _
    c.args.treasury.now c.run_machine.new.machine c.run_machine.ensures

pub returns-clause-causes : goal.returns-clause-causes
returns-clause-causes g c = run_causes _ c.run_machine.result most_input g.R.Read.remaining _ _ g.W.Write.contents _ _
    c.args.treasury.now c.run_machine.new.machine c.run_machine.ensures

pub returns-clause-closed : goal.returns-clause-closed
returns-clause-closed g c = run_closed g.S.Store c.run_machine.result most_input g.R.Read.remaining _ _
    g.W.Write.contents _ _ c.args.treasury.now c.run_machine.new.machine c.run_machine.ensures

pub returns-clause-shuts : goal.returns-clause-shuts
returns-clause-shuts g c = run_shuts g.S.Store c.run_machine.result most_input g.R.Read.remaining _ _ g.W.Write.contents
    _ _ c.args.treasury.now c.run_machine.new.machine c.run_machine.ensures
