use Rattle.std.proofs.Common.{◌≡◌, ap, sym, subst, ◌∙◌, arith, inr, length, List, [], Some, None}
use Rattle.money_core.specs.declared.style.Style.{Style}
use Rattle.treasury_state.specs.Good.{IsGoodBranch}
use Rattle.treasury_state.specs.Seen.{branch_of}
use Rattle.treasury_state.specs.Federation.{branch_at}
use Rattle.treasury_state.proofs.FindLemmas.{branch_at_Some, branch_at_None}
use Rattle.treasury_state.proofs.HoldsLemmas.{found_holds}
use Rattle.treasury_core.specs.Step.{records_in_file}
use Rattle.treasury_core.proofs.FileLemmas.{length-new, length-records}
use Rattle.treasury_core.proofs.DecideLemmas.{reply_missing, enters_by, refuses_by}
use Rattle.treasury_core.proofs.decision.decide_enter.Goals as goal

pub returns-in_default : goal.returns-in_default
returns-in_default g c =
    let f = c.args.state.now in
    let name = c.args.name.now in
    let found : branch_at f.branches name ≡ None =
    ap (branch_at f.branches) (sym c.as_str.ensures) ∙ c.in_default.ensures.found in
    inr (reply_missing f name c.args.file.now (branch_at_None f.branches name found).none)

pub new_records-requires-clause-good : goal.new_records-requires-clause-good
new_records-requires-clause-good g c =
    let f = c.args.state.now in
    let name = c.args.name.now in
    let b = branch_of c.in-Some.branch.now in
    let found : branch_at f.branches name ≡ Some b =
    ap (branch_at f.branches) (sym c.as_str.ensures) ∙ c.in-Some.ensures.found in
    subst (λ (ss : List Style). IsGoodBranch ss b) (sym c.styles.ensures)
    (found_holds (IsGoodBranch f.styles) f.branches name b found c.is_good.ensures.branches)

pub entered-requires : goal.entered-requires
entered-requires g c =
    let rows = records_in_file c.styles.result.now c.args.file.now in
    omega (
      arith,
      ap length c.in-Ok.ensures.value,
      length-new c.in-Some.branch.now.records rows,
      length-records c.styles.result.now [] c.args.file.now,
    )

pub returns-in-Ok : goal.returns-in-Ok
returns-in-Ok g c =
    let f = c.args.state.now in
    let name = c.args.name.now in
    let b = branch_of c.in-Some.branch.now in
    let found : branch_at f.branches name ≡ Some b =
    ap (branch_at f.branches) (sym c.as_str.ensures) ∙ c.in-Some.ensures.found in
    enters_by f name c.args.file.now b c.in-Ok.new c.styles.result.now _ c.styles.ensures
    (branch_at_Some f.branches name b found) c.in-Ok.ensures.value c.in-Ok.ensures.passes c.entered.ensures

pub returns-in-Err : goal.returns-in-Err
returns-in-Err g c =
    let f = c.args.state.now in
    let name = c.args.name.now in
    let b = branch_of c.in-Some.branch.now in
    let found : branch_at f.branches name ≡ Some b =
    ap (branch_at f.branches) (sym c.as_str.ensures) ∙ c.in-Some.ensures.found in
    refuses_by f name c.args.file.now b c.styles.result.now c.in-Err.refusal c.styles.ensures
    (branch_at_Some f.branches name b found) c.in-Err.ensures.err
