use Rattle.std.proofs.Common.{sym, subst, arith, Result, Ok, Err, OnOk}
use Rattle.sqlite.specs.Held.{state}
use Rattle.treasury_tables.specs.Kept.{IsFaithful}
use Rattle.treasury_tables.specs.Rows.{HoldsTables}
use Rattle.treasury_tables.proofs.KindLemmas.{by_parts}
use Rattle.treasury_tables.proofs.write.put_all.Goals as goal

then : {A E P Q : Type 0} (r : Result A E) → OnOk r P → (P → Q) → OnOk r Q
then (Ok a) h f = f h
then (Err e) h f = tt

pub returns-clause-rows : goal.returns-clause-rows
returns-clause-rows g c clean =
    let xs = c.args.changes.now in
    let claims : IsFaithful g.S.Store c.put_claims.new.tx.conn.now =
    omega (arith, c.put_singles.ensures.survives.clean, clean) in
    let legs : IsFaithful g.S.Store c.put_legs.new.tx.conn.now =
    omega (arith, c.put_claims.ensures.survives.clean, claims) in
    let entries : IsFaithful g.S.Store c.put_entries.new.tx.conn.now =
    omega (arith, c.put_legs.ensures.survives.clean, legs) in
    then c.put_singles.result (c.put_singles.ensures.rows clean)
    (λ singles t holds. subst (HoldsTables (state g.S.Store c.put_singles.new.tx.conn.now).now) (sym (by_parts xs t))
    (singles _ (c.in_ok-put_claims.ensures.rows claims _
    (c.in_ok-put_legs.ensures.rows legs _ (c.in_ok-put_entries.ensures.rows entries t holds)))))
