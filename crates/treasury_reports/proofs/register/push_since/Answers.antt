use Rattle.std.proofs.Common.{◌≡◌, ◌∙◌, ◌++◌, ℤ, sym, subst, OnOk, rules, w64}
use Rattle.std.proofs.lemmas.Int.{to_z-of_z}
use Rattle.treasury_reports.specs.RegisterReport.{register_cells}
use Rattle.treasury_reports.specs.Written.{row_in}
use Rattle.treasury_reports.proofs.RegisterLemmas.{row_since}
use Rattle.treasury_reports.proofs.register.push_since.Goals as goal

pub returns-then-is_since-clause-ok : goal.returns-then-is_since-clause-ok
returns-then-is_since-clause-ok c =
    let row = row_in c.args.layout in
    let written = subst (λ (z : ℤ). OnOk c.push_listed.result (c.push_listed.new.rows.items
    ≡ c.args.rows.now.items ++ row (register_cells c.args.styles.now c.args.one.now z)))
    (to_z-of_z w64 c.args.sum (search rules)) c.push_listed.ensures.ok in
    row_since c.args.layout c.args.styles.now c.args.from c.args.one.now c.args.sum c.push_listed.result
    c.args.rows.now.items c.push_listed.new.rows.items (sym c.is_since.ensures ∙ c.if-is_since.true) written
