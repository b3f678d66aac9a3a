use Rattle.std.proofs.Common.{◌≡◌, ◌∙◌, inl, inr, [], ◌∷◌, pos, map, false, refl, sym, subst, rules, arith, true≢false}
use Rattle.std.proofs.lemmas.Result.{IfOk-at_ok, IfErr-at_err}
use Rattle.sqlite.specs.declared.types.Value.TheVariants.{Int}
use Rattle.sqlite.specs.Order.{column}
use Rattle.sqlite.specs.Held.{state}
use Rattle.treasury_state.specs.Rows.{rows}
use Rattle.treasury_tables.proofs.QueriesLemmas.{then_reads, reads_if_read}
use Rattle.treasury_tables.proofs.QueriesLemmas.{still_held}
use Rattle.treasury_store.proofs.JudgingLemmas.{reads_undone, format_has_read, other_version, reads_behind, none_held}
use Rattle.treasury_store.proofs.judging.judge_first.Goals as goal
use Rattle.treasury_tables.specs.Kept.{IsFaithful}

-- `format` could not be read
pub returns-in-Err-clause-reads : goal.returns-in-Err-clause-reads
returns-in-Err-clause-reads g c =
    reads_behind g.S.Store c.args.conn.now c.format_rows.new.conn c.cause_of.new.conn
    (reads_undone g.S.Store c.args.conn.now c.format_rows.new.conn
    (λ clean is. c.in-Err.ensures.undone clean is c.requires) c.format_rows.ensures.crash) c.cause_of.ensures.nothing

pub returns-in-Err-clause-causes : goal.returns-in-Err-clause-causes
returns-in-Err-clause-causes g c = elim c.cause_of.ensures.either [
  | inl memory ↦ inl memory
  | inr failed ↦ inr (inl failed)
]

-- it names another version
pub returns-then-not-is_version-clause-damaged : goal.returns-then-not-is_version-clause-damaged
returns-then-not-is_version-clause-damaged g c is clean f good holds =
    let none : c.is_version.result ≡ false = search rules in
    other_version (state g.S.Store c.args.conn.now).now (rows f) _ (c.in-Ok.ensures.rows clean)
    (λ one. true≢false (sym (c.is_version.ensures.1
    (subst (λ items. map (λ r. column r 0) items ≡ Int (pos 1) ∷ []) (sym c.deref.ensures.value) one)) ∙ none)) holds

pub returns-then-not-is_version-clause-reads : goal.returns-then-not-is_version-clause-reads
returns-then-not-is_version-clause-reads g c =
    reads_if_read (format_has_read g.S.Store c.args.conn.now c.format_rows.new.conn c.in-Ok.ensures.same
    c.format_rows.ensures.crash)

-- the rows could not be read
pub returns-in-Err-first_parts-clause-reads : goal.returns-in-Err-first_parts-clause-reads
returns-in-Err-first_parts-clause-reads g c =
    let past = format_has_read g.S.Store c.args.conn.now c.format_rows.new.conn c.in-Ok.ensures.same
    c.format_rows.ensures.crash in
    reads_behind g.S.Store c.args.conn.now c.first_parts.new.conn c.cause_of-in-Err-first_parts.new.conn
    (then_reads past c.first_parts.ensures.reads) c.cause_of-in-Err-first_parts.ensures.nothing

pub returns-in-Err-first_parts-clause-causes : goal.returns-in-Err-first_parts-clause-causes
returns-in-Err-first_parts-clause-causes g c = elim c.cause_of-in-Err-first_parts.ensures.either [
  | inl memory ↦ inl memory
  | inr failed ↦ inr (inl failed)
]

-- they were, and are a state's
pub returns-in-Ok-built-clause-ok : goal.returns-in-Ok-built-clause-ok
returns-in-Ok-built-clause-ok g c clean t up holds =
    let past = format_has_read g.S.Store c.args.conn.now c.format_rows.new.conn c.in-Ok.ensures.same
    c.format_rows.ensures.crash in
    let before : IsFaithful g.S.Store c.format_rows.new.conn =
    omega (arith, c.first_parts.ensures.reads.survives.clean, clean) in (
      c.in-Ok-built.state,
      c.is_good.ensures,
      IfOk-at_ok _ c.in-Ok-built.is c.build-built.ensures.built
          ∙ c.in-Ok-first_parts.ensures.parts clean t up (still_held t past before holds),
    )

pub returns-in-Ok-built-clause-reads : goal.returns-in-Ok-built-clause-reads
returns-in-Ok-built-clause-reads g c =
    then_reads (format_has_read g.S.Store c.args.conn.now c.format_rows.new.conn c.in-Ok.ensures.same
    c.format_rows.ensures.crash) c.first_parts.ensures.reads

pub returns-clause-reads : goal.returns-clause-reads
returns-clause-reads g c =
    then_reads (format_has_read g.S.Store c.args.conn.now c.format_rows.new.conn c.in-Ok.ensures.same
    c.format_rows.ensures.crash) c.first_parts.ensures.reads

pub returns-clause-causes : goal.returns-clause-causes
returns-clause-causes g c = elim (IfErr-at_err _ c.in-Err-built.is c.build-built.ensures.err) [
  | inl memory ↦ inl memory
  | inr none ↦ inr (inr none.0)
]

-- and are no state's
pub returns-clause-damaged : goal.returns-clause-damaged
returns-clause-damaged g c is clean f good holds =
    let past = format_has_read g.S.Store c.args.conn.now c.format_rows.new.conn c.in-Ok.ensures.same
    c.format_rows.ensures.crash in
    let before : IsFaithful g.S.Store c.format_rows.new.conn =
    omega (arith, c.first_parts.ensures.reads.survives.clean, clean) in
    none_held (state g.S.Store c.args.conn.now).now c.in-Ok-first_parts.parts
    (λ t up first. c.in-Ok-first_parts.ensures.parts clean t up (still_held t past before first))
    c.in-Err-built.cause (IfErr-at_err _ c.in-Err-built.is c.build-built.ensures.err) _ refl is f good holds
