use Rattle.std.proofs.Common.{◌≡◌, refl, sym, ap, subst}
use Rattle.sqlite.specs.Held.{state}
use Rattle.treasury_state.specs.Rows.{rows}
use Rattle.treasury_tables.specs.Tables.{store_schema}
use Rattle.treasury_tables.specs.Rows.{ShowsTables}
use Rattle.treasury_store.specs.declared.store.Store.{Store}
use Rattle.treasury_store.specs.Treasury.{Treasury, IsTreasuryOf}
use Rattle.treasury_store.proofs.TreasuryLemmas.{held_again, rows_loaded}
use Rattle.treasury_store.proofs.treasury.Treasury.hold.Goals as goal

pub returns-in-Ok-clause-of : goal.returns-in-Ok-clause-of
returns-in-Ok-clause-of g c clean f was =
    let of : IsTreasuryOf g.S.Store (record { store = c.self.inside.store; held = c.self.inside.held }) f =
    subst (λ (t : Treasury _). IsTreasuryOf g.S.Store t f) (sym c.self.view_is) was in
    let loaded = c.in-Ok.ensures.ok f of.store.good of.store.tables in
    held_again g.S.Store c.args.self.now _ c.in-Ok.now f refl was loaded.0 (loaded.1 clean)

pub returns-in-Ok-clause-rows : goal.returns-in-Ok-clause-rows
returns-in-Ok-clause-rows g c clean f was holds =
    let of : IsTreasuryOf g.S.Store (record { store = c.self.inside.store; held = c.self.inside.held }) f =
    subst (λ (t : Treasury _). IsTreasuryOf g.S.Store t f) (sym c.self.view_is) was in
    let loaded = c.in-Ok.ensures.ok f of.store.good of.store.tables in
    rows_loaded g.S.Store _ c.in-Ok.now f loaded.0 (loaded.1 clean) clean (c.in-Ok.ensures.still_open clean)

pub returns-in-Ok-clause-shown : goal.returns-in-Ok-clause-shown
returns-in-Ok-clause-shown g c clean unheld none =
    let same = sym (ap (λ (t : Treasury _). t.store) c.self.view_is) in
    none.1 c.in-Ok.now c.in-Ok.ensures.good
    (subst (λ (s : Store _). ShowsTables (state g.S.Store s.conn).now (rows c.in-Ok.now)) (sym same)
    (c.in-Ok.ensures.shown clean
    (subst (λ (s : Store _). (state g.S.Store s.conn).now.schema ≡ store_schema) same none.0)))
