use Rattle.std.proofs.Common.{◌≡◌, ◌∙◌, IsTrue, sym, subst, arith, rules}
use Rattle.sqlite.specs.Effect.{Database}
use Rattle.sqlite.specs.State.{Survives}
use Rattle.sqlite.specs.Held.{state}
use Rattle.treasury_tables.specs.Kept.{IsFaithful}
use Rattle.treasury_tables.specs.Opening.{IsFirstNumbered}
use Rattle.treasury_tables.specs.Upgrading.{Upgrades}
use Rattle.treasury_tables.proofs.InsideLemmas.{survives_commit}
use Rattle.treasury_tables.proofs.upgrading.upgrade.Goals as goal

pub returns-clause-made : goal.returns-clause-made
returns-clause-made g c clean first =
    let old = c.args.conn.now in
    let last = c.make_second.new.tx.conn.now in
    let begun = c.transaction-tx.ensures.begun in
    let end = c.commit.new.self.0 in
    let same : end ≡ c.conn-2-1.given.0 = search rules in
    let late : IsFaithful g.S.Store end = search rules in
    let early : IsFaithful g.S.Store last = omega (arith, c.commit.ensures.survives.clean) in
    let made = subst (λ h. IsFirstNumbered (state g.S.Store h).now
    → Upgrades (state g.S.Store h).now (state g.S.Store last).now) begun (c.in_ok-make_second.ensures.makes early)
    first in
    let done = (c.in_ok-commit.ensures.ok late).1 in
    subst (λ h. Upgrades (state g.S.Store old).now (state g.S.Store h).now
    × ((state g.S.Store h).committed ≡ (state g.S.Store h).now)) same
    (subst (Upgrades (state g.S.Store old).now) (sym done.now_is) made, done.committed_is ∙ sym done.now_is)

pub returns-clause-crash : goal.returns-clause-crash
returns-clause-crash g c =
    let old = c.args.conn.now in
    let last = c.make_second.new.tx.conn.now in
    let begun = c.transaction-tx.ensures.begun in
    let P = λ (db : Database). IsFirstNumbered (state g.S.Store old).now → Upgrades (state g.S.Store old).now db in
    let same : c.commit.new.self.0 ≡ c.conn-2-1.given.0 = search rules in
    let whole = survives_commit g.S.Store old last c.commit.new.self.0 P (rw begun at c.make_second.ensures.survives)
    c.commit.ensures.survives
    (λ clean first. subst (λ h. IsFirstNumbered (state g.S.Store h).now
    → Upgrades (state g.S.Store h).now (state g.S.Store last).now) begun (c.in_ok-make_second.ensures.makes clean)
    first) in
    subst (λ h. Survives (state g.S.Store old) (state g.S.Store h)
    (λ trees. (db : Database) × (trees ≡ db.trees) × P db)) same whole

pub returns-in_err-commit-clause-crash : goal.returns-in_err-commit-clause-crash
returns-in_err-commit-clause-crash g c =
    let old = c.args.conn.now in
    let last = c.make_second.new.tx.conn.now in
    let begun = c.transaction-tx.ensures.begun in
    let P = λ (db : Database). IsFirstNumbered (state g.S.Store old).now → Upgrades (state g.S.Store old).now db in
    let same : c.commit.new.self.0 ≡ c.conn-2-1.given.0 = search rules in
    let whole = survives_commit g.S.Store old last c.commit.new.self.0 P (rw begun at c.make_second.ensures.survives)
    c.commit.ensures.survives
    (λ clean first. subst (λ h. IsFirstNumbered (state g.S.Store h).now
    → Upgrades (state g.S.Store h).now (state g.S.Store last).now) begun (c.in_ok-make_second.ensures.makes clean)
    first) in
    subst (λ h. Survives (state g.S.Store old) (state g.S.Store h)
    (λ trees. (db : Database) × (trees ≡ db.trees) × P db)) same whole

pub returns-clause-opened : goal.returns-clause-opened
returns-clause-opened g c clean =
    let end = c.commit.new.self.0 in
    let same : end ≡ c.conn-2-1.given.0 = search rules in
    let late : IsFaithful g.S.Store end = search rules in
    let done = (c.in_ok-commit.ensures.ok late).1 in
    subst (λ h. IsTrue (state g.S.Store h).is_open) same done.is_open
