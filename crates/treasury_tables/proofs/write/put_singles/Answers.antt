use Rattle.std.proofs.Common.{◌≡◌, [], filter, rules}
use Rattle.sqlite.specs.Held.{state}
use Rattle.treasury_tables.specs.Kinds.{is_single}
use Rattle.treasury_tables.proofs.SameLemmas.{all_written}
use Rattle.treasury_tables.proofs.write.put_singles.Goals as goal

pub returns-clause-rows : goal.returns-clause-rows
returns-clause-rows g c clean t holds =
    let none : filter is_single c.ones.rest.now ≡ [] = search rules in
    all_written (state g.S.Store c.ones.tx.conn.now).now _ (filter is_single c.args.changes.now) t none
    ((c.ones.invariant.2 clean).2 t holds)
