use Rattle.std.proofs.Common.{◌≡◌, ap, ◌∙◌, rules, SFits, w64, to_z-of_z}
use Rattle.sqlite.specs.declared.types.Value.TheVariants.{Int, Text}
use Rattle.sqlite_value.specs.Value.{owned}
use Rattle.treasury_tables.proofs.tables.leg.leg_values.Goals as goal

pub returns : goal.returns
returns c =
    let row = c.args.row.now in
    let fits_branch : SFits w64 row.branch = search rules in
    let is_branch : owned c.to_sql.result ≡ Int row.branch = c.to_sql.ensures ∙ ap Int (to_z-of_z fits_branch) in
    let fits_entry : SFits w64 row.entry = search rules in
    let is_entry : owned c.to_sql-2.result ≡ Int row.entry = c.to_sql-2.ensures ∙ ap Int (to_z-of_z fits_entry) in
    let fits_nr : SFits w64 row.nr = search rules in
    let is_nr : owned c.to_sql-3.result ≡ Int row.nr = c.to_sql-3.ensures ∙ ap Int (to_z-of_z fits_nr) in
    let is_account : owned c.to_sql-4.result ≡ Text row.account = c.to_sql-4.ensures ∙ ap Text c.as_str.ensures in
    let fits_unit : SFits w64 row.unit = search rules in
    let is_unit : owned c.to_sql-5.result ≡ Int row.unit = c.to_sql-5.ensures ∙ ap Int (to_z-of_z fits_unit) in
    let fits_qty : SFits w64 row.qty = search rules in
    let is_qty : owned c.to_sql-6.result ≡ Int row.qty = c.to_sql-6.ensures ∙ ap Int (to_z-of_z fits_qty) in
    rw (is_branch, is_entry, is_nr, is_account, is_unit, is_qty)
