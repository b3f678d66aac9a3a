use Rattle.std.proofs.Common.{◌≡◌, ◌≤◌, ◌∙◌, List, ℕ, length, arith, ap}
use Rattle.std.specs.List.{flat_map}
use Rattle.std.proofs.lemmas.List.{take_all}
use Rattle.book_core.specs.Accounts.{ordered_names}
use Rattle.treasury_state.specs.Federation.{Branch, names_of}
use Rattle.treasury_reports.specs.TransitReport.{branch_names, rows_from, transit_rows}
use Rattle.treasury_reports.specs.Written.{rows_in}
use Rattle.treasury_reports.proofs.RowLemmas.{joined_rows}
use Rattle.treasury_reports.proofs.transit.rows_of.Goals as goal

pub returns-clause-ok : goal.returns-clause-ok
unfolding transit_rows
returns-clause-ok g c =
    let f = c.args.state.now in
    let named : c.in_ok-names.names.items ≡ branch_names f =
    c.in_ok-names.ensures.value ∙ ap (λ (bs : List Branch). ordered_names (names_of bs)) c.branches.ensures.value in
    let many = ap (λ (xs : List (List ℕ)). length xs) named in
    let past : length (branch_names f) ≤ c.sources.from-index = omega (arith, many) in
    let rows = rows_from f c.args.day in
    c.sources.invariant ∙ ap (flat_map (λ (from : List ℕ). rows_in c.args.layout (rows from)))
    (take_all c.sources.from-index (branch_names f) past) ∙ joined_rows c.args.layout rows (branch_names f)
