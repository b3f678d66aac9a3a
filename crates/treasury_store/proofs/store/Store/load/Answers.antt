use Rattle.std.proofs.Common.{Some, refl, ap, sym, subst, arith}
use Rattle.sqlite.specs.Held.{state}
use Rattle.money_core.proofs.PrintedLemmas.{on_err}
use Rattle.treasury_tables.specs.Rows.{ShowsTables}
use Rattle.treasury_tables.proofs.FailingLemmas.{survives_behind, queries_behind}
use Rattle.treasury_store.specs.Numbers.{Numbering}
use Rattle.treasury_store.proofs.LeftLemmas.{leaves_same}
use Rattle.treasury_store.proofs.StateLoadLemmas.{failed_of, read_of, read_tables_stay, loaded_of}
use Rattle.treasury_store.proofs.StateLoadLemmas.{none_damaged, none_shown}
use Rattle.treasury_store.proofs.store.Store.load.Goals as goal

-- ---- where the rows are not read

pub returns-in-Err-clause-err : goal.returns-in-Err-clause-err
returns-in-Err-clause-err g c f of =
    failed_of g.S.Store c.args.self.now c.refuse.new.self f c.in-Err.error
    (queries_behind g.S.Store c.args.self.now.conn c.load_parts.new.conn c.refuse.new.self.conn
    c.refuse.ensures.nothing c.in-Err.error c.in-Err.ensures.queries) c.refuse.ensures.numbers of

pub returns-in-Err-clause-crash : goal.returns-in-Err-clause-crash
returns-in-Err-clause-crash g c =
    survives_behind g.S.Store c.args.self.now.conn c.load_parts.new.conn c.refuse.new.self.conn
    c.refuse.ensures.nothing _ c.in-Err.ensures.queries.survives

pub returns-in-Err-clause-left : goal.returns-in-Err-clause-left
returns-in-Err-clause-left g c =
    leaves_same g.S.Store g.met.S.Store.settled c.args.self.now.conn c.refuse.new.self.conn
    (returns-in-Err-clause-crash g c)

-- ---- where they are no state's

pub returns-in_err-now-clause-err : goal.returns-in_err-now-clause-err
returns-in_err-now-clause-err g c =
    on_err c.from_residual.result _
    (λ f of. read_of g.S.Store c.args.self.now _ f _ c.in-Ok.ensures.queries c.in-Ok.ensures.same refl of)

pub returns-in_err-now-clause-damaged : goal.returns-in_err-now-clause-damaged
returns-in_err-now-clause-damaged g c damaged clean f good are =
    none_damaged g.S.Store c.args.self.now (record c.args.self.now { conn = c.load_parts.new.conn }) f _
    c.in-Ok.ensures.queries c.in-Ok.ensures.same c.in-Ok.parts c.in-Ok.ensures.parts good are c.from_residual.result
    _ c.from_residual.ensures.1 c.in_err-now.ensures.err damaged clean

pub returns-in_err-now-clause-unfit : goal.returns-in_err-now-clause-unfit
returns-in_err-now-clause-unfit g c damaged clean =
    none_shown (state g.S.Store c.args.self.now.conn).now c.in-Ok.parts (c.in-Ok.ensures.parts clean)
    c.from_residual.result _ c.from_residual.ensures.1 c.in_err-now.ensures.err damaged

pub returns-in_err-numbers-clause-err : goal.returns-in_err-numbers-clause-err
returns-in_err-numbers-clause-err g c =
    on_err c.from_residual-in_err-numbers.result _
    (λ f of. read_of g.S.Store c.args.self.now _ f _ c.in-Ok.ensures.queries c.in-Ok.ensures.same refl of)

pub returns-in_err-numbers-clause-tables : goal.returns-in_err-numbers-clause-tables
returns-in_err-numbers-clause-tables g c =
    on_err c.from_residual-in_err-numbers.result _
    (read_tables_stay g.S.Store c.args.self.now.conn c.load_parts.new.conn
    (λ clean. omega (arith, c.in-Ok.ensures.queries.survives.clean, clean)) c.in-Ok.ensures.queries.opened
    c.in-Ok.ensures.same)

-- ---- where they are

pub returns-clause-ok : goal.returns-clause-ok
returns-clause-ok g c f good are =
    loaded_of g.S.Store c.args.self.now _ f _ c.in-Ok.ensures.queries c.in-Ok.ensures.same c.in-Ok.parts
    c.in-Ok.ensures.parts good are c.in_ok-now.now c.is_good.ensures c.in_ok-now.ensures.built
    (ap (λ (n : Numbering). Some n) c.in_ok-numbers.ensures.equal)

pub returns-clause-shown : goal.returns-clause-shown
returns-clause-shown g c clean has =
    subst (ShowsTables (state g.S.Store c.args.self.now.conn).now) (sym c.in_ok-now.ensures.built)
    (c.in-Ok.ensures.shown clean has)

pub returns-clause-left : goal.returns-clause-left
returns-clause-left g c =
    leaves_same g.S.Store g.met.S.Store.settled c.args.self.now.conn c.load_parts.new.conn
    c.in-Ok.ensures.queries.survives
