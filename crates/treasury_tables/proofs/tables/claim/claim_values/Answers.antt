use Rattle.std.proofs.Common.{◌≡◌, ap, ◌∙◌, rules, SFits, w64, to_z-of_z}
use Rattle.sqlite.specs.declared.types.Value.TheVariants.{Int}
use Rattle.sqlite_value.specs.Value.{owned}
use Rattle.treasury_tables.proofs.tables.claim.claim_values.Goals as goal

pub returns : goal.returns
returns c =
    let row = c.args.row.now in
    let fits_branch : SFits w64 row.branch = search rules in
    let is_branch : owned c.to_sql.result ≡ Int row.branch = c.to_sql.ensures ∙ ap Int (to_z-of_z fits_branch) in
    let fits_entry : SFits w64 row.entry = search rules in
    let is_entry : owned c.to_sql-2.result ≡ Int row.entry = c.to_sql-2.ensures ∙ ap Int (to_z-of_z fits_entry) in
    let fits_leg : SFits w64 row.leg = search rules in
    let is_leg : owned c.to_sql-3.result ≡ Int row.leg = c.to_sql-3.ensures ∙ ap Int (to_z-of_z fits_leg) in
    let fits_kind : SFits w64 row.kind = search rules in
    let is_kind : owned c.to_sql-4.result ≡ Int row.kind = c.to_sql-4.ensures ∙ ap Int (to_z-of_z fits_kind) in
    let fits_unit : SFits w64 row.unit = search rules in
    let is_unit : owned c.to_sql-5.result ≡ Int row.unit = c.to_sql-5.ensures ∙ ap Int (to_z-of_z fits_unit) in
    let fits_qty : SFits w64 row.qty = search rules in
    let is_qty : owned c.to_sql-6.result ≡ Int row.qty = c.to_sql-6.ensures ∙ ap Int (to_z-of_z fits_qty) in
    rw (is_branch, is_entry, is_leg, is_kind, is_unit, is_qty)
