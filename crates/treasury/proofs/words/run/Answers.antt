-- The disk in memory is clean, so that the run is one from a federation that has nothing.
use Rattle.treasury_memory.proofs.CleanLemmas.{memory_is_clean}
use Rattle.sqlite.specs.Files.{over_files}
use Rattle.treasury_store.specs.Store.{empty_state}
use Rattle.treasury.proofs.RunLemmas.{answers_all, cut_off, from_first}
use Rattle.treasury.proofs.words.run.Goals as goal

pub returns-clause-done : goal.returns-clause-done
returns-clause-done g c =
    let ended = c.run_heard_lines-done.ensures.runs (memory_is_clean c.run_heard_lines-done.new.treasury.store.conn)
    empty_state c.in-Ok.ensures.of in
    answers_all over_files c.in-Ok.treasury c.run_heard_lines-done.new.treasury c.run_heard_lines-done.result
    g.R.Read.remaining _ _ g.W.Write.contents _ _ _
    (from_first over_files c.run_heard_lines-done.new.treasury c.run_heard_lines-done.result g.R.Read.remaining _ _
    g.W.Write.contents _ _ c.in-Ok.treasury _ c.in-Ok.ensures.open ended.1.1)

pub returns-clause-cut_off : goal.returns-clause-cut_off
returns-clause-cut_off g c =
    let ended = c.run_heard_lines-done.ensures.runs (memory_is_clean c.run_heard_lines-done.new.treasury.store.conn)
    empty_state c.in-Ok.ensures.of in
    cut_off over_files c.in-Ok.treasury c.run_heard_lines-done.new.treasury c.run_heard_lines-done.result
    g.R.Read.remaining _ _ g.W.Write.contents _ _ _
    (from_first over_files c.run_heard_lines-done.new.treasury c.run_heard_lines-done.result g.R.Read.remaining _ _
    g.W.Write.contents _ _ c.in-Ok.treasury _ c.in-Ok.ensures.open ended.1.1)
