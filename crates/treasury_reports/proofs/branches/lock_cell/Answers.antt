use Rattle.std.proofs.Common.{◌≡◌, ◌∙◌, ◌++◌, ◌∷◌, [], List, ℕ, Option, ap, sym, subst, refl, IfOk}
use Rattle.std.specs.Prelude.{Some, codes}
use Rattle.money_core.specs.declared.day.Day.{Day}
use Rattle.journal_lines.specs.Date.{printed_date}
use Rattle.journal_lines.proofs.DateLemmas.{calendar_test}
use Rattle.treasury_reports.specs.BranchesReport.{lock_cell}
use Rattle.treasury_reports.proofs.branches.lock_cell.Goals as goal

pub returns-then-is_day_number-clause-ok : goal.returns-then-is_day_number-clause-ok
returns-then-is_day_number-clause-ok c =
    let day = c.in-Some.day in
    let test = sym (calendar_test day c.is_day_number.result c.is_day_number.ensures) ∙ c.if-is_day_number.true in
    let text : printed_date day ≡ lock_cell (Some day) = rw test refl in
    let cell = text ∙ ap (λ (o : Option Day). lock_cell o) (sym c.in-Some.is) in
    subst (λ (t : List ℕ). IfOk c.date_cell.result (λ made. made.items ≡ t)) cell c.date_cell.ensures.ok

pub returns-clause-ok : goal.returns-clause-ok
returns-clause-ok c =
    let day = c.in-Some.day in
    let test = sym (calendar_test day c.is_day_number.result c.is_day_number.ensures) ∙ c.if-is_day_number.false in
    let text : codes "?" ≡ lock_cell (Some day) = rw test refl in
    c.in_ok-push.ensures.items ∙ ap (λ (l : List ℕ). l ++ 63 ∷ []) c.new-cell.ensures.items ∙ text
    ∙ ap (λ (o : Option Day). lock_cell o) (sym c.in-Some.is)
