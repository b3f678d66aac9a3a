use Rattle.std.proofs.Common.{◌<◌, ◌∙◌, ℕ, List, [], map, length, sym, ap, true≢false, arith, Bor}
use Rattle.sqlite_schema.specs.declared.schema.Column.{Column}
use Rattle.treasury_files.proofs.MadeLemmas.{map_at, same_if_equal}
use Rattle.treasury_files.proofs.tables.has_columns.Goals as goal

pub returns-then-not-same_name : goal.returns-then-not-same_name
returns-then-not-same_name c alike =
    let columns = c.as_slice-columns.result.now in
    let inside : c.name.place < length c.args.names.now = c.name-test.true in
    let within : c.name.place < length columns = omega (arith, c.if-columns-names.false, inside) in
    let same = map_at (λ (column : Column). column.name) (λ (name : Bor (List ℕ)). name.now) columns c.args.names.now
    c.name.place c.index-columns-place.result (record { ref_ptr = (0, 0); now = [] }) within inside
    (ap (map (λ (column : Column). column.name)) c.as_slice-columns.ensures ∙ alike) in
    absurd (true≢false (sym (c.same_name.ensures
    ∙ same_if_equal _ _ (c.as_slice.ensures ∙ (same ∙ sym c.as_bytes.ensures.value))) ∙ c.if-not-same_name.true))
