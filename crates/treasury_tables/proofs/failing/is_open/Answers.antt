use Rattle.std.proofs.Common.{refl}
use Rattle.sqlite.specs.Held.{state}
use Rattle.treasury_tables.proofs.FailingLemmas.{open_at_fault, look_changes_nothing}
use Rattle.treasury_tables.proofs.failing.is_open.Goals as goal

pub returns-in-SqlInputError-clause-open : goal.returns-in-SqlInputError-clause-open
returns-in-SqlInputError-clause-open g c told clean =
    open_at_fault _ (state g.S.Store c.args.conn.now) (state g.S.Store c.prepare.new.self) c.in-SqlInputError.field-0
    c.in-Err.error c.in-SqlInputError.is (c.in-Err.ensures.err clean _)

pub returns-in-SqlInputError-clause-nothing : goal.returns-in-SqlInputError-clause-nothing
returns-in-SqlInputError-clause-nothing g c =
    look_changes_nothing g.S.Store c.args.conn.now c.prepare.new.self _ c.prepare.result c.prepare.ensures.ok
    c.prepare.ensures.err (c.if-not-is_autocommit.ensures.settled refl) c.prepare.ensures.survives

pub returns-in_default-error-clause-nothing : goal.returns-in_default-error-clause-nothing
returns-in_default-error-clause-nothing g c =
    look_changes_nothing g.S.Store c.args.conn.now c.prepare.new.self _ c.prepare.result c.prepare.ensures.ok
    c.prepare.ensures.err (c.if-not-is_autocommit.ensures.settled refl) c.prepare.ensures.survives
