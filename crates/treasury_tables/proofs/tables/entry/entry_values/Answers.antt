use Rattle.std.proofs.Common.{◌≡◌, ap, ◌∙◌, rules, SFits, w64, to_z-of_z}
use Rattle.sqlite.specs.declared.types.Value.TheVariants.{Int, Text}
use Rattle.sqlite_value.specs.Value.{owned}
use Rattle.treasury_tables.proofs.tables.entry.entry_values.Goals as goal

pub returns : goal.returns
returns c =
    let row = c.args.row.now in
    let fits_branch : SFits w64 row.branch = search rules in
    let is_branch : owned c.to_sql.result ≡ Int row.branch = c.to_sql.ensures ∙ ap Int (to_z-of_z fits_branch) in
    let fits_nr : SFits w64 row.nr = search rules in
    let is_nr : owned c.to_sql-2.result ≡ Int row.nr = c.to_sql-2.ensures ∙ ap Int (to_z-of_z fits_nr) in
    let fits_day : SFits w64 row.day = search rules in
    let is_day : owned c.to_sql-3.result ≡ Int row.day = c.to_sql-3.ensures ∙ ap Int (to_z-of_z fits_day) in
    let is_mark : owned c.to_sql-4.result ≡ Text row.mark = c.to_sql-4.ensures ∙ ap Text c.as_str.ensures in
    let is_body : owned c.to_sql-5.result ≡ Text row.body = c.to_sql-5.ensures ∙ ap Text c.as_str-2.ensures in
    rw (is_branch, is_nr, is_day, is_mark, is_body)
