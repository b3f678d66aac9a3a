use Rattle.std.proofs.Common.{◌∙◌, sym, ap, subst, arith, map}
use Rattle.sqlite.specs.State.{HasCleanDisk}
use Rattle.sqlite.specs.Held.{state}
use Rattle.sqlite.specs.Change.{created}
use Rattle.sqlite.specs.Order.{column}
use Rattle.sqlite_trees.specs.View.{IsShaped}
use Rattle.sqlite_trees.specs.declared.store.Shape.TheVariants as shape
use Rattle.std.proofs.lemmas.Result.{on_ok_weaker}
use Rattle.treasury_tables.specs.Tables.{receipt_table}
use Rattle.treasury_tables.specs.Creating.{has_counter}
use Rattle.treasury_tables.proofs.UpgradeLemmas.{upgrades_by_both, row_stays}
use Rattle.treasury_tables.proofs.upgrading.make_second.Goals as goal

pub returns-clause-makes : goal.returns-clause-makes
returns-clause-makes g c clean =
    let a = state g.S.Store c.args.tx.now.conn.now in
    let b = state g.S.Store c.create_receipt.new.tx.conn.now in
    let d = state g.S.Store c.set_version.new.tx.conn.now in
    let clean_b : HasCleanDisk b = omega (arith, c.set_version.ensures.survives.clean, clean) in
    on_ok_weaker c.set_version.result
    (λ sets first.
    let has = first.0.schema in
    let made = c.in_ok-create_receipt.ensures.creates.makes clean_b (ap has_counter has) in
    let rows = row_stays a.now b.now has made in
    upgrades_by_both a.now b.now d.now has made
    (sets (made.schema ∙ ap (λ s. created s receipt_table) has) (ap (map (λ r. column r 1)) rows ∙ first.0.version)
    (subst (IsShaped shape.Table) (sym rows) first.1)))
    (c.set_version.ensures.sets clean)
