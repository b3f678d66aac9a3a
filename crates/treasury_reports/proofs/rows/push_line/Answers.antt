use Rattle.std.proofs.Common.{◌++◌, ◌≤◌, ◌∙◌, List, ℕ, Bor, length, arith, ap, refl}
use Rattle.std.specs.Prelude.{codes}
use Rattle.std.specs.List.{flat_map}
use Rattle.std.proofs.lemmas.List.{take_all}
use Rattle.treasury_reports.specs.declared.rows.Column.{Column}
use Rattle.treasury_reports.specs.Rows.{Cell, set_in, stands_after}
use Rattle.treasury_reports.specs.Written.{shown}
use Rattle.treasury_reports.proofs.AppendLemmas.{append_piece}
use Rattle.treasury_reports.proofs.ListLemmas.{flat_map-map}
use Rattle.treasury_reports.proofs.rows.push_line.Goals as goal

pub returns : goal.returns
returns c =
    let old = c.args.out.now.items in
    let cells = c.args.cells.now in
    let past : length cells ≤ c.cells.cell-index = omega arith in
    let lent = λ (cell : Column × Bor (List ℕ)). set_in cell.0 cell.1.now ++ stands_after cell.0 in
    let all = ap (flat_map lent) (take_all c.cells.cell-index cells past)
    ∙ flat_map-map shown (λ (cell : Cell). set_in cell.0 cell.1 ++ stands_after cell.0) cells in
    append_piece old _ _ _ _ (codes "\n") (c.cells.invariant ∙ ap (λ (l : List ℕ). old ++ l) all)
    c.in_ok-push.ensures.items refl
