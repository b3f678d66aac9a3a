use Rattle.std.proofs.Common.{◌≡◌, ◌≤◌, ◌∙◌, sym, ap, subst, false, refl, arith, rules}
use Rattle.sqlite_trees.specs.View.{doubt}
use Rattle.sqlite.specs.Held.{state}
use Rattle.treasury_tables.specs.Kept.{IsFaithful}
use Rattle.treasury_tables.specs.Tables.{format_table}
use Rattle.treasury_tables.specs.Creating.{has_one, has_counter, Makes, Beside, SurvivesMaking}
use Rattle.treasury_tables.proofs.InsideLemmas.{survives_commit}
use Rattle.treasury_tables.proofs.CreateLemmas.{stays_uncounted}
use Rattle.treasury_tables.proofs.BesideLemmas.{no_format_in, whole_beside, holds_none, made_beside, made_in}
use Rattle.treasury_tables.proofs.create.create_tables.Goals as goal
use Rattle.sqlite.specs.Effect.{Database}

pub returns-clause-beside : goal.returns-clause-beside
returns-clause-beside g c clean is_made none =
    let old = c.args.conn.now in
    let first = c.create_format.new.tx.conn.now in
    let mid = c.put_format.new.tx.conn.now in
    let last = c.create_state.new.tx.conn.now in
    let begun = c.transaction-tx.ensures.begun in
    let end = c.commit.new.self.0 in
    let same : end ≡ c.conn-2-1.given.0 = search rules in
    let clean_end : IsFaithful g.S.Store end = search rules in
    let clean_last : IsFaithful g.S.Store last = omega (arith, c.commit.ensures.survives.clean) in
    let clean_mid : IsFaithful g.S.Store mid =
    omega (arith, c.create_state.ensures.survives.clean, clean_last) in
    let clean_first : IsFaithful g.S.Store first =
    omega (arith, c.put_format.ensures.survives.clean, clean_mid) in
    let free : has_one old.schema ≡ false = search rules in
    let made = subst (λ h. has_counter h.schema ≡ false
    → Makes format_table (state g.S.Store h).now (state g.S.Store first).now) begun
    (c.in_ok-create_format.ensures.creates.makes clean_first) none in
    let row =
    c.in_ok-put_format.ensures.gives clean_mid old.schema made.schema (no_format_in old.schema free) made.empty in
    let rest = c.in_ok-create_state.ensures.makes clean_last
    (ap has_counter row.schema ∙ stays_uncounted old.schema format_table refl none) in
    let done = (c.in_ok-commit.ensures.ok clean_end).1 in
    subst (λ h. Beside (state g.S.Store old).now (state g.S.Store h).now) same
    (subst (Beside (state g.S.Store old).now) (sym done.now_is) (whole_beside _ _ _ _ made row rest))

pub returns-clause-made : goal.returns-clause-made
returns-clause-made g c clean is_made empty =
    let end = c.commit.new.self.0 in
    let same : end ≡ c.conn-2-1.given.0 = search rules in
    let clean_end : IsFaithful g.S.Store end = search rules in
    let done = (c.in_ok-commit.ensures.ok clean_end).1 in (
      holds_none _ _ empty (returns-clause-beside g c clean is_made (ap has_counter empty)),
      subst (λ h. (state g.S.Store h).committed ≡ (state g.S.Store h).now) same (done.committed_is ∙ sym done.now_is),
    )

pub returns-clause-clean : goal.returns-clause-clean
returns-clause-clean g c =
    let old = c.args.conn.now in
    let first = c.create_format.new.tx.conn.now in
    let end = c.commit.new.self.0 in
    let same : end ≡ c.conn-2-1.given.0 = search rules in
    let made = subst (λ h. doubt (state g.S.Store h).is_clean ≤ doubt (state g.S.Store first).is_clean)
    c.transaction-tx.ensures.begun c.create_format.ensures.creates.survives.clean in
    subst (λ h. doubt (state g.S.Store old).is_clean ≤ doubt (state g.S.Store h).is_clean) same
    (omega (
      arith,
      made,
      c.put_format.ensures.survives.clean,
      c.create_state.ensures.survives.clean,
      c.commit.ensures.survives.clean,
    ))

pub returns-clause-crash : goal.returns-clause-crash
returns-clause-crash g c =
    let old = c.args.conn.now in
    let first = c.create_format.new.tx.conn.now in
    let mid = c.put_format.new.tx.conn.now in
    let last = c.create_state.new.tx.conn.now in
    let begun = c.transaction-tx.ensures.begun in
    let same : c.commit.new.self.0 ≡ c.conn-2-1.given.0 = search rules in
    let P =
    λ (db : Database). has_counter (state g.S.Store old).now.schema ≡ false → Beside (state g.S.Store old).now db in
    let makes = c.in_ok-create_format.ensures.creates.makes in
    let inside = made_in g.S.Store old first mid last (rw begun at c.create_format.ensures.creates.survives)
    c.put_format.ensures.survives c.create_state.ensures.survives in
    let whole = survives_commit g.S.Store old last c.commit.new.self.0 P inside c.commit.ensures.survives
    (made_beside g.S.Store old first mid last (search rules)
    (subst (λ h. IsFaithful g.S.Store first → has_counter (state g.S.Store h).now.schema ≡ false
    → Makes format_table (state g.S.Store h).now (state g.S.Store first).now) begun makes)
    c.in_ok-put_format.ensures.gives c.in_ok-create_state.ensures.makes c.put_format.ensures.survives
    c.create_state.ensures.survives) in
    subst (λ h. SurvivesMaking g.S.Store old h) same whole

pub returns-in_err-commit-clause-crash : goal.returns-in_err-commit-clause-crash
returns-in_err-commit-clause-crash g c =
    let old = c.args.conn.now in
    let first = c.create_format.new.tx.conn.now in
    let mid = c.put_format.new.tx.conn.now in
    let last = c.create_state.new.tx.conn.now in
    let begun = c.transaction-tx.ensures.begun in
    let same : c.commit.new.self.0 ≡ c.conn-2-1.given.0 = search rules in
    let P =
    λ (db : Database). has_counter (state g.S.Store old).now.schema ≡ false → Beside (state g.S.Store old).now db in
    let makes = c.in_ok-create_format.ensures.creates.makes in
    let inside = made_in g.S.Store old first mid last (rw begun at c.create_format.ensures.creates.survives)
    c.put_format.ensures.survives c.create_state.ensures.survives in
    let whole = survives_commit g.S.Store old last c.commit.new.self.0 P inside c.commit.ensures.survives
    (made_beside g.S.Store old first mid last (search rules)
    (subst (λ h. IsFaithful g.S.Store first → has_counter (state g.S.Store h).now.schema ≡ false
    → Makes format_table (state g.S.Store h).now (state g.S.Store first).now) begun makes)
    c.in_ok-put_format.ensures.gives c.in_ok-create_state.ensures.makes c.put_format.ensures.survives
    c.create_state.ensures.survives) in
    subst (λ h. SurvivesMaking g.S.Store old h) same whole
