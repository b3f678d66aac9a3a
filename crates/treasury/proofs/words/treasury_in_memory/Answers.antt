-- The disk in memory is clean, and the tables that were made are the rows of a federation that has nothing.
use Rattle.treasury_memory.proofs.CleanLemmas.{memory_is_clean}
use Rattle.treasury_store.specs.Store.{empty_state}
use Rattle.treasury.proofs.words.treasury_in_memory.Goals as goal

pub returns-in-Ok-start-clause-of : goal.returns-in-Ok-start-clause-of
returns-in-Ok-start-clause-of c =
    let made = c.in-Ok.ensures.made c.in_ok-conn.ensures.empty.2 in
    c.in-Ok-start.ensures.of (memory_is_clean c.in-Ok-start.treasury.store.conn) empty_state made.good made.tables
