use Rattle.std.proofs.Common.{◌∙◌}
use Rattle.treasury_rows.proofs.DraftLemmas.{exit_on_error}
use Rattle.treasury_rows.proofs.DraftedLemmas.{only_styles, only_branches, only_transfers, styles_damage}
use Rattle.treasury_rows.proofs.DraftedLemmas.{branches_damage, transfers_damage, drafted_only}
use Rattle.treasury_rows.proofs.drafting.drafted.Goals as goal

pub returns-in_err-styles-clause-err : goal.returns-in_err-styles-clause-err
returns-in_err-styles-clause-err c =
    exit_on_error _ _ c.from_residual.result _ c.from_residual.ensures.1
    (styles_damage c.args.parts.now c.items.result.now _ c.items.ensures c.in_err-styles.ensures)

pub returns-in_err-branches-clause-err : goal.returns-in_err-branches-clause-err
returns-in_err-branches-clause-err c =
    let parts = c.args.parts.now in
    let s = only_styles parts c.items.result.now c.in_ok-styles.styles c.items.ensures c.in_ok-styles.ensures in
    exit_on_error _ _ c.from_residual-in_err-branches.result _ c.from_residual-in_err-branches.ensures.1
    (branches_damage parts c.items-2.result.now c.items-3.result.now c.in_ok-styles.styles _ c.items-2.ensures
    c.items-3.ensures s c.in_err-branches.ensures.reads)

pub returns-in_err-transfers-clause-err : goal.returns-in_err-transfers-clause-err
returns-in_err-transfers-clause-err c =
    let parts = c.args.parts.now in
    let s = only_styles parts c.items.result.now c.in_ok-styles.styles c.items.ensures c.in_ok-styles.ensures in
    let b = only_branches parts c.items-2.result.now c.items-3.result.now c.in_ok-styles.styles
    c.in_ok-branches.branches c.items-2.ensures c.items-3.ensures c.in_ok-branches.ensures.reads in
    exit_on_error _ _ c.from_residual-in_err-transfers.result _ c.from_residual-in_err-transfers.ensures.1
    (transfers_damage parts c.items-5.result.now c.items-6.result.now c.items-4.result.now c.in_ok-branches.branches
    c.in_ok-styles.styles _ c.items-4.ensures c.items-5.ensures c.items-6.ensures s b c.in_err-transfers.ensures)

pub returns-clause-only : goal.returns-clause-only
returns-clause-only c =
    let parts = c.args.parts.now in
    let s = only_styles parts c.items.result.now c.in_ok-styles.styles c.items.ensures c.in_ok-styles.ensures in
    let b = only_branches parts c.items-2.result.now c.items-3.result.now c.in_ok-styles.styles
    c.in_ok-branches.branches c.items-2.ensures c.items-3.ensures c.in_ok-branches.ensures.reads in
    let t = only_transfers parts c.items-5.result.now c.items-6.result.now c.items-4.result.now
    c.in_ok-branches.branches c.in_ok-transfers.transfers c.items-4.ensures c.items-5.ensures c.items-6.ensures
    c.in_ok-transfers.ensures in
    drafted_only parts c.in_ok-styles.styles c.in_ok-branches.branches c.in_ok-transfers.transfers s b t

pub returns-clause-entries : goal.returns-clause-entries
returns-clause-entries c = c.in_ok-branches.ensures.same ∙ c.items-3.ensures
