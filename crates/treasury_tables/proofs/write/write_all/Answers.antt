use Rattle.std.proofs.Common.{◌≡◌, ◌∙◌, sym, subst, arith, rules}
use Rattle.sqlite.specs.Effect.{Database}
use Rattle.sqlite.specs.State.{Survives}
use Rattle.sqlite.specs.Held.{state}
use Rattle.treasury_tables.proofs.InsideLemmas.{survives_commit}
use Rattle.treasury_tables.specs.Kept.{IsFaithful}
use Rattle.treasury_tables.specs.Rows.{Tables, HoldsTables, written}
use Rattle.treasury_tables.proofs.write.write_all.Goals as goal

pub returns-clause-rows : goal.returns-clause-rows
returns-clause-rows g c clean t holds =
    let old = c.args.conn.now in
    let last = c.put_all.new.tx.conn.now in
    let begun = c.transaction-tx.ensures.begun in
    let end = c.commit.new.self.0 in
    let same : end ≡ c.conn-2-1.given.0 = search rules in
    let late : IsFaithful g.S.Store end = search rules in
    let early : IsFaithful g.S.Store last = omega (arith, c.commit.ensures.survives.clean) in
    let put = c.in_ok-put_all.ensures.rows early t
    (subst (λ h. HoldsTables (state g.S.Store h).now t) (sym begun) holds) in
    let done = (c.in_ok-commit.ensures.ok late).1 in
    subst (λ h. HoldsTables (state g.S.Store h).now (written c.args.changes.now t)
    × ((state g.S.Store h).committed ≡ (state g.S.Store h).now)) same (
      subst (λ d. HoldsTables d (written c.args.changes.now t)) (sym done.now_is) put,
      done.committed_is ∙ sym done.now_is,
    )

pub returns-clause-crash : goal.returns-clause-crash
returns-clause-crash g c =
    let old = c.args.conn.now in
    let last = c.put_all.new.tx.conn.now in
    let begun = c.transaction-tx.ensures.begun in
    let P =
    λ (db : Database). (t : Tables) → HoldsTables (state g.S.Store old).now t
    → HoldsTables db (written c.args.changes.now t) in
    let same : c.commit.new.self.0 ≡ c.conn-2-1.given.0 = search rules in
    let whole = survives_commit g.S.Store old last c.commit.new.self.0 P (rw begun at c.put_all.ensures.survives)
    c.commit.ensures.survives
    (λ clean t holds. c.in_ok-put_all.ensures.rows clean t
    (subst (λ h. HoldsTables (state g.S.Store h).now t) (sym begun) holds)) in
    subst (λ h. Survives (state g.S.Store old) (state g.S.Store h)
    (λ trees. (db : Database) × (trees ≡ db.trees) × P db)) same whole

pub returns-in_err-commit-clause-crash : goal.returns-in_err-commit-clause-crash
returns-in_err-commit-clause-crash g c =
    let old = c.args.conn.now in
    let last = c.put_all.new.tx.conn.now in
    let begun = c.transaction-tx.ensures.begun in
    let P =
    λ (db : Database). (t : Tables) → HoldsTables (state g.S.Store old).now t
    → HoldsTables db (written c.args.changes.now t) in
    let same : c.commit.new.self.0 ≡ c.conn-2-1.given.0 = search rules in
    let whole = survives_commit g.S.Store old last c.commit.new.self.0 P (rw begun at c.put_all.ensures.survives)
    c.commit.ensures.survives
    (λ clean t holds. c.in_ok-put_all.ensures.rows clean t
    (subst (λ h. HoldsTables (state g.S.Store h).now t) (sym begun) holds)) in
    subst (λ h. Survives (state g.S.Store old) (state g.S.Store h)
    (λ trees. (db : Database) × (trees ≡ db.trees) × P db)) same whole
