use Rattle.std.proofs.Common.{◌≡◌, ◌∙◌, false, Result, Ok, Err, IfErr, OnErr, inr, sym, subst}
use Rattle.sqlite.specs.Held.{state}
use Rattle.treasury_state.specs.Rows.{rows}
use Rattle.treasury_tables.specs.Creating.{has_receipt}
use Rattle.treasury_tables.specs.Opening.{IsEither}
use Rattle.treasury_files.proofs.LeftLemmas.{in_either, only_first}
use Rattle.treasury_files.proofs.file.check_opened.Goals as goal

error_then : {X E : Type 0} (r : Result X E) (P Q : E → Type 0) → ((e : E) → P e → Q e) → IfErr r P → IfErr r Q
error_then (Ok x) P Q f h = tt
error_then (Err e) P Q f h = f e h

any_error : {X E : Type 0} (r : Result X E) (P : Type 0) → P → OnErr r P
any_error (Ok x) P h = tt
any_error (Err e) P h = h

pub returns-in-Err-clause-damaged : goal.returns-in-Err-clause-damaged
returns-in-Err-clause-damaged g c is clean f good holds =
    c.in-Err.ensures is (subst IsEither (sym c.schema.ensures.value) (in_either _ (rows f) holds))

pub returns-clause-reads : goal.returns-clause-reads
returns-clause-reads g c =
    let bare : has_receipt (state g.S.Store c.args.conn.now).now.schema ≡ false =
    subst (λ s. has_receipt s ≡ false) c.schema-2.ensures.value
    (sym c.has_receipts.ensures ∙ c.if-has_receipts.false) in
    any_error c.try_first.result _ (inr (bare, c.try_first.ensures.reads))

pub returns-clause-damaged : goal.returns-clause-damaged
returns-clause-damaged g c =
    let bare : has_receipt (state g.S.Store c.args.conn.now).now.schema ≡ false =
    subst (λ s. has_receipt s ≡ false) c.schema-2.ensures.value
    (sym c.has_receipts.ensures ∙ c.if-has_receipts.false) in
    error_then c.try_first.result _ _
    (λ why damaged is clean f good holds. damaged is clean f good (only_first _ (rows f) bare holds))
    c.try_first.ensures.damaged
