use Rattle.std.proofs.Common.{◌≡◌, [], ◌∷◌, Ok, subst}
use Rattle.sqlite.specs.Values.{bound}
use Rattle.sqlite.specs.State.{Executes}
use Rattle.sqlite.specs.Held.{state}
use Rattle.treasury_tables.specs.Rows.{values_of_format}
use Rattle.treasury_tables.proofs.Texts.{add_format_text}
use Rattle.treasury_tables.proofs.InsideLemmas.{keeps_commit, still_inside, ran_on_ok}
use Rattle.treasury_tables.proofs.BesideLemmas.{gives_row}
use Rattle.treasury_tables.proofs.tables.format.put_format.Goals as goal

pub returns-clause-kept : goal.returns-clause-kept
returns-clause-kept g c clean =
    keeps_commit g.S.Store _ _ _ _ _ _ c.execute.ensures.ended (c.execute.ensures.runs clean)

pub returns-clause-inside : goal.returns-clause-inside
returns-clause-inside g c clean =
    still_inside g.S.Store _ _ _ _ _ _ c.execute.ensures.ended (c.execute.ensures.runs clean)

pub returns-clause-gives : goal.returns-clause-gives
returns-clause-gives g c clean =
    let old = state g.S.Store c.args.tx.now.conn.now in
    let new = state g.S.Store c.execute.new.self.conn.now in
    let is : bound (c.to_sql-version.result ∷ []) ≡ values_of_format = rw c.to_sql-version.ensures in
    ran_on_ok g.S.Store _ _ _ _ _ _ c.execute.ensures.ended (c.execute.ensures.runs clean) _
    (λ count h s has free bare. gives_row s old new count has free bare
    (subst (λ ps. Executes add_format_text ps old new (Ok count)) is h))
