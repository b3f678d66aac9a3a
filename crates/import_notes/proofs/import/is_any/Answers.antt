use Rattle.std.proofs.Common.{◌≡◌, ◌∙◌, sym, length, None, arith, rules}
use Rattle.std.proofs.lemmas.Grind.{common_steps}
use Rattle.std.specs.List.{flat_map, position_from}
use Rattle.treasury_reasons.specs.Reading.{line_of, lines_by}
use Rattle.import_notes.specs.Dated.{is_dated}
use Rattle.import_notes.specs.Imported.{import_view}
use Rattle.import_notes.proofs.ImportNoteLemmas.{empty_list, none_with}
use Rattle.import_notes.proofs.MarkLemmas.{none_unmarked}
use Rattle.import_notes.proofs.import.is_any.Goals as goal

pub returns : goal.returns
returns c = λ file rows same no.
    let it = import_view c.args.import.now in
    let line = line_of file rows in
    let none : length c.args.pairs.now ≡ 0 = first_of (search rules, grind (arith, common_steps)) in
    let undated : position_from is_dated 0 it.new ≡ None = first_of (search rules, grind (arith, common_steps)) in
    none_with c.args.styles.now it c.args.names file rows
    (c.has_far.ensures line c.if-has_far.false)
    (c.may_have_odd.ensures (flat_map (lines_by file rows) it.new) c.if-may_have_odd.false)
    (sym same ∙ empty_list c.args.pairs.now none)
    c.if-names.false undated (none_unmarked line it.new (sym c.is_any_unmarked.ensures ∙ no))
