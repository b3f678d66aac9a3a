use Rattle.std.proofs.Common.{◌≡◌, ap, List}
use Rattle.std.specs.List.{AllByRecursion}
use Rattle.treasury_state.specs.declared.record.Record.{Record}
use Rattle.treasury_state.specs.declared.rows.BranchRow.{BranchRow}
use Rattle.treasury_state.specs.Good.{IsGoodRecord}
use Rattle.treasury_state.specs.Rows.{entry_rows_from}
use Rattle.treasury_rows.proofs.DraftLemmas.{exit_on_error, fault_of}
use Rattle.treasury_rows.proofs.BranchRowLemmas.{HasRow, branch_only}
use Rattle.treasury_rows.proofs.drafting.branch_rows.read_branch.Goals as goal

pub returns-in_err-locked-clause-reads : goal.returns-in_err-locked-clause-reads
returns-in_err-locked-clause-reads c =
    exit_on_error _ _ c.from_residual.result _ c.from_residual.ensures.1
    (fault_of (HasRow c.args.styles.now c.args.nr c.args.row.now c.args.entries.now) _ _
    (λ b p. (b.locked, (p.0.short, ap (λ (r : BranchRow). r.locked) p.1.0))) c.in_err-locked.ensures)

pub returns-in_err-records-clause-reads : goal.returns-in_err-records-clause-reads
returns-in_err-records-clause-reads c =
    exit_on_error _ _ c.from_residual-in_err-records.result _ c.from_residual-in_err-records.ensures.1
    (fault_of (HasRow c.args.styles.now c.args.nr c.args.row.now c.args.entries.now)
    (λ (rs : List Record). AllByRecursion (IsGoodRecord c.args.styles.now) rs
    × (entry_rows_from c.args.styles.now c.args.nr 1 rs ≡ c.args.entries.now)) _
    (λ b p. (b.records, (p.0.records, p.1.1))) c.in_err-records.ensures.reads)

pub returns-clause-reads : goal.returns-clause-reads
returns-clause-reads c =
    branch_only c.args.styles.now c.args.nr c.args.row.now c.args.entries.now _ c.in_ok-name.ensures.equal
    (λ b short e. c.in_ok-locked.ensures b.locked (short, ap (λ (r : BranchRow). r.locked) e))
    c.in_ok-records.ensures.reads
