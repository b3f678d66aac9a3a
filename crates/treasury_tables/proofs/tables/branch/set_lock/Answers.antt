use Rattle.std.proofs.Common.{◌≡◌, [], ◌∷◌, Ok, subst, ap, ◌∙◌, to_z-of_z}
use Rattle.sqlite.specs.declared.types.Value.TheVariants.{Int}
use Rattle.sqlite_value.specs.Value.{owned}
use Rattle.sqlite.specs.Values.{bound}
use Rattle.sqlite.specs.State.{Executes}
use Rattle.sqlite.specs.Held.{state}
use Rattle.treasury_tables.specs.Rows.{tables_with_lock}
use Rattle.treasury_tables.proofs.Texts.{lock_text}
use Rattle.treasury_tables.proofs.InsideLemmas.{one_statement_writes}
use Rattle.treasury_tables.proofs.LockLemmas.{holds_locked}
use Rattle.treasury_tables.proofs.tables.branch.set_lock.Goals as goal

pub returns-clause-writes : goal.returns-clause-writes
returns-clause-writes g c =
    let old = state g.S.Store c.args.tx.now.conn.now in
    let new = state g.S.Store c.execute.new.self.conn.now in
    let is_nr : owned c.to_sql-nr.result ≡ Int c.args.branch =
    c.to_sql-nr.ensures ∙ ap Int (to_z-of_z c.ranges.branch) in
    let is_locked : owned c.to_sql-locked.result ≡ Int c.args.day =
    c.to_sql-locked.ensures ∙ ap Int (to_z-of_z c.ranges.day) in
    let is : bound (c.to_sql-nr.result ∷ c.to_sql-locked.result ∷ []) ≡ Int c.args.branch ∷ Int c.args.day ∷ [] =
    rw (is_nr, is_locked) in
    one_statement_writes g.S.Store _ _ _ _ _ _ c.execute.ensures.ended c.execute.ensures.runs c.execute.ensures.survives
    (tables_with_lock c.args.branch c.args.day)
    (λ count t holds h. holds_locked c.args.branch c.args.day old new t count holds
    (subst (λ ps. Executes lock_text ps old new (Ok count)) is h))
