use Rattle.std.proofs.Common.{refl}
use Rattle.sqlite.specs.Held.{state}
use Rattle.treasury_tables.proofs.Texts.{entry_rows_is}
use Rattle.treasury_tables.proofs.QueriedLemmas.{ok_then}
use Rattle.treasury_tables.proofs.LoadLemmas.{entries_are, entries_shown}
use Rattle.treasury_tables.proofs.tables.entry.load_entries.Goals as goal

pub load-requires : goal.load-requires
load-requires g c = entry_rows_is.2

pub returns-clause-rows : goal.returns-clause-rows
returns-clause-rows g c clean =
    ok_then c.load.result _ _
    (λ xs h t up shows.
    let it = h shows.schema in
    it.2 t.entries
    (entries_are (state g.S.Store c.args.conn.now) (state g.S.Store c.load.new.conn) t it.0 shows up.entries it.1))
    (c.load.ensures.rows clean)

pub returns-clause-shown : goal.returns-clause-shown
returns-clause-shown g c clean =
    ok_then c.load.result _ _
    (λ xs h has.
    let it = h has in
    entries_shown (state g.S.Store c.args.conn.now) (state g.S.Store c.load.new.conn)
    it.0 it.0 xs refl it.2 has it.1)
    (c.load.ensures.shown clean)
