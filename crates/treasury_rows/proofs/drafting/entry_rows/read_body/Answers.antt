use Rattle.std.proofs.Common.{◌≡◌, ◌∙◌, true, false, sym}
use Rattle.treasury_state.proofs.EntryRowLemmas.{body_reads}
use Rattle.treasury_rows.proofs.DraftLemmas.{exit_on_error}
use Rattle.treasury_rows.proofs.EntryRowLemmas.{body_fault, marked_damaged, other_damaged, none_of}
use Rattle.treasury_rows.proofs.drafting.entry_rows.read_body.Goals as goal

pub returns-in_err-txn-clause-reads : goal.returns-in_err-txn-clause-reads
returns-in_err-txn-clause-reads c =
    exit_on_error _ _ c.from_residual.result _ c.from_residual.ensures.1
    (body_fault c.args.styles.now c.are_styles.ensures c.args.text.now _ c.in_err-txn.ensures.reads)

pub returns-then-is_some-clause-reads : goal.returns-then-is_some-clause-reads
returns-then-is_some-clause-reads c =
    marked_damaged c.args.styles.now c.args.text.now c.in_ok-txn.txn
    (λ t p. c.in_ok-txn.ensures.reads t (body_reads c.args.styles.now c.are_styles.ensures c.args.text.now t p))
    (sym c.is_some.ensures ∙ c.if-is_some.true)

pub returns-then-not-are_equal-clause-reads : goal.returns-then-not-are_equal-clause-reads
returns-then-not-are_equal-clause-reads c =
    other_damaged c.args.styles.now c.args.text.now c.in_ok-body.body.items c.in_ok-txn.txn
    (λ t p. c.in_ok-txn.ensures.reads t (body_reads c.args.styles.now c.are_styles.ensures c.args.text.now t p))
    c.in_ok-body.ensures.value
    (λ e. let k : true ≡ false = sym
    (c.are_equal.ensures.1 (c.as_slice.ensures.value ∙ (e ∙ sym c.as_bytes.ensures.value))) ∙
    c.if-not-are_equal.true in cc)

pub returns-clause-reads : goal.returns-clause-reads
returns-clause-reads c =
    λ t p. c.in_ok-txn.ensures.reads t (body_reads c.args.styles.now c.are_styles.ensures c.args.text.now t p)

pub returns-clause-body : goal.returns-clause-body
returns-clause-body c = (
  none_of c.in_ok-txn.txn.mark (sym c.is_some.ensures ∙ c.if-is_some.false),
  sym c.in_ok-body.ensures.value ∙
      (sym c.as_slice.ensures.value ∙ (c.are_equal.ensures.0 c.if-not-are_equal.false ∙ c.as_bytes.ensures.value)),
)
