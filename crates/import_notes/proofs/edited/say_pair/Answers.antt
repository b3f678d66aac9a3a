use Rattle.std.proofs.Common.{◌++◌, ◌∙◌, ap, sym, Some, None, List}
use Rattle.std.proofs.lemmas.Result.{on_ok_weaker}
use Rattle.treasury_state.proofs.IndexLemmas.{copied_get}
use Rattle.treasury_messages.specs.Said.{Said}
use Rattle.treasury_reasons.specs.Reading.{line_of}
use Rattle.import_notes.specs.Edited.{edited_said}
use Rattle.import_notes.specs.Imported.{import_view}
use Rattle.import_notes.proofs.EditedLemmas.{no_new, no_held, both_there}
use Rattle.import_notes.proofs.ImportNoteLemmas.{none_appended}
use Rattle.import_notes.proofs.edited.say_pair.Goals as goal

pub returns-in_default : goal.returns-in_default
returns-in_default c =
    let it = import_view c.args.import.now in
    let line = line_of c.args.read.now.file.items c.args.read.now.rows in
    let none =
    sym (copied_get None it.new c.args.pair.new c.in_default.ensures.lookup.0 c.in_default.ensures.lookup.1) in
    none_appended c.args.out.now.items (edited_said it line c.args.pair) (no_new it line c.args.pair none)

pub returns-in_default-get : goal.returns-in_default-get
returns-in_default-get c =
    let it = import_view c.args.import.now in
    let line = line_of c.args.read.now.file.items c.args.read.now.rows in
    let new = c.in-Some.new.now in
    let some = sym (copied_get (Some c.in-Some.new) it.new c.args.pair.new c.in-Some.ensures.lookup.0
    c.in-Some.ensures.lookup.1) in
    let none = sym (copied_get None it.held c.args.pair.held c.in_default-get.ensures.lookup.0
    c.in_default-get.ensures.lookup.1) in
    none_appended c.args.out.now.items (edited_said it line c.args.pair)
    (no_held it line c.args.pair new some none)

pub returns : goal.returns
returns c =
    let it = import_view c.args.import.now in
    let line = line_of c.args.read.now.file.items c.args.read.now.rows in
    let new = c.in-Some.new.now in
    let held = c.in-Some-get.held.now in
    let some = sym (copied_get (Some c.in-Some.new) it.new c.args.pair.new c.in-Some.ensures.lookup.0
    c.in-Some.ensures.lookup.1) in
    let known = sym (copied_get (Some c.in-Some-get.held) it.held c.args.pair.held c.in-Some-get.ensures.lookup.0
    c.in-Some-get.ensures.lookup.1) in
    on_ok_weaker c.say_one.result
    (λ e. e ∙ ap (λ (ms : List Said). c.args.out.now.items ++ ms)
    (both_there it line c.args.pair new held c.line_of-line.result c.line_of-line.ensures some known))
    c.say_one.ensures
