use Rattle.std.proofs.Common.{◌≡◌, ◌+◌, ◌∙◌, true, false, length, ap, sym, subst, List}
use Rattle.std.specs.Prelude.{◌==◌}
use Rattle.treasury_state.specs.declared.rows.PartRow.{PartRow}
use Rattle.treasury_state.specs.declared.transfer.Transfer.{Transfer}
use Rattle.treasury_rows.specs.Drafted.{IsFault}
use Rattle.treasury_rows.proofs.DraftLemmas.{exit_on_error}
use Rattle.treasury_rows.proofs.PartRowLemmas.{HasRow, IsTransferFront, transfer_start, transfer_next, transfer_fault}
use Rattle.treasury_rows.proofs.PartRowLemmas.{transfer_end, rest_damaged}
use Rattle.treasury_rows.proofs.drafting.transfer_rows.read_transfers.Goals as goal

pub transfer-init : goal.transfer-init
transfer-init c =
    subst (λ (ts : List Transfer). IsTransferFront c.args.branches.now c.args.rows.now c.args.parts.now 0 ts
    c.args.parts.now) (sym c.empty-list.ensures)
    (transfer_start c.args.branches.now c.args.rows.now c.args.parts.now)

pub returns-in_err-transfer : goal.returns-in_err-transfer
returns-in_err-transfer c =
    let bs = c.args.branches.now in
    exit_on_error _ _ c.from_residual.result _ c.from_residual.ensures.1
    (transfer_fault bs c.args.rows.now c.args.parts.now c.transfer.row-index c.count_own-count.result c.transfer.list
    c.row-item.result c.transfer.left.now c.in_err-transfer.field-0.0 c.transfer-test.true c.row-item.is
    c.count_own-count.ensures.value c.transfer.invariant
    (subst (λ (own : List PartRow). IsFault (HasRow bs c.row-item.result own) c.in_err-transfer.field-0.0)
    c.rows_before.ensures c.in_err-transfer.ensures))

pub transfer-preserved : goal.transfer-preserved
transfer-preserved c =
    let bs = c.args.branches.now in
    let i = c.transfer.row-index in
    subst (λ (left : List PartRow). IsTransferFront bs c.args.rows.now c.args.parts.now (i + 1) c.push.new.self left)
    (sym c.rows_from-left.ensures)
    (transfer_next bs c.args.rows.now c.args.parts.now i c.count_own-count.result c.transfer.list _ c.row-item.result
    c.transfer.left.now c.in_ok-transfer.transfer c.transfer-test.true c.row-item.is
    c.count_own-count.ensures.value c.in_ok-push.ensures.ok
    (subst (λ (own : List PartRow). (t : Transfer) → HasRow bs c.row-item.result own t → t ≡ c.in_ok-transfer.transfer)
    c.rows_before.ensures c.in_ok-transfer.ensures) c.transfer.invariant)

pub returns-then-not-is_empty : goal.returns-then-not-is_empty
returns-then-not-is_empty c =
    rest_damaged c.args.branches.now c.args.rows.now c.args.parts.now c.transfer.row-index c.transfer.list
    c.transfer.left.now c.transfer-test.false c.transfer.invariant
    (λ e. let k : false ≡ true = sym c.if-not-is_empty.true ∙
    (c.is_empty.ensures ∙ ap (λ (xs : List PartRow). length xs == 0) e) in cc)

pub returns : goal.returns
returns c = λ ts p. (transfer_end c.args.branches.now c.args.rows.now c.args.parts.now c.transfer.row-index
    c.transfer.list c.transfer.left.now c.transfer-test.false c.transfer.invariant ts p).0
