use Rattle.std.proofs.Common.{◌++◌, ◌∙◌, ℕ, List, None, ap, map}
use Rattle.std.specs.List.{flat_map}
use Rattle.std.proofs.lemmas.Result.{on_ok_weaker}
use Rattle.journal_hints.specs.declared.odd.Odd.{Odd}
use Rattle.journal_hints.specs.Listed.{most_notes, listed}
use Rattle.journal_hints.specs.OddAmount.{OddText, odd_view, odd_said}
use Rattle.journal_hints.specs.OddNotes.{odd_notes}
use Rattle.treasury_reasons.specs.Reading.{line_of, lines_by}
use Rattle.import_notes.specs.declared.edited.Edited.{Edited}
use Rattle.import_notes.specs.Edited.{edited_of, edited_said, first_passed, passes_at}
use Rattle.import_notes.specs.FarDays.{far_notes}
use Rattle.import_notes.specs.Imported.{import_view}
use Rattle.import_notes.specs.ImportNotes.{accounts_if, dated_said}
use Rattle.import_notes.specs.Marks.{no_marks_said}
use Rattle.import_notes.proofs.ImportNoteLemmas.{appended_six}
use Rattle.import_notes.proofs.import.say_read.Goals as goal

pub returns : goal.returns
unfolding odd_notes
returns c = λ same.
    let it = import_view c.args.import.now in
    let styles = c.args.styles.now in
    let file = c.args.read.now.file.items in
    let rows = c.args.read.now.rows in
    let lines = flat_map (lines_by file rows) it.new in
    let at = c.as_slice-lines.ensures.value ∙ c.in_ok-found.ensures in
    let line = line_of file rows in
    let far = c.say_far_days.new.out.items in
    let odd = c.say_odds.new.out.items in
    let edited = c.say_edited.new.out.items in
    let named = c.say_named.new.out.items in
    let dated = c.say_date.new.out.items in
    on_ok_weaker c.say_no_marks.result
    (λ e. appended_six c.args.out.now.items far odd edited named dated c.say_no_marks.new.out.items
    (far_notes it line) (odd_notes styles it.source it.text lines)
    (listed most_notes (edited_said it line) (edited_of rows it.held it.new))
    (accounts_if c.args.names it lines) (dated_said it lines) (no_marks_said it.source line it.new)
    c.in_ok-say_far_days.ensures
    (c.in_ok-say_odds.ensures
    ∙ ap (λ (os : List Odd). far ++ listed most_notes (odd_said styles it.source) (map odd_view os))
    c.as_slice.ensures.value
    ∙ ap (λ (os : List OddText). far ++ listed most_notes (odd_said styles it.source) os) c.in_ok-odd.ensures
    ∙ ap (λ (ls : List ℕ). far ++ odd_notes styles it.source it.text ls) at)
    (c.in_ok-say_edited.ensures
    ∙ ap (λ (es : List Edited).
    odd ++ listed most_notes (edited_said it line) (first_passed (passes_at rows it.held) None es))
    same)
    (c.in_ok-say_named.ensures ∙ ap (λ (ls : List ℕ). edited ++ accounts_if c.args.names it ls) at)
    (c.in_ok-say_date.ensures ∙ ap (λ (ls : List ℕ). named ++ dated_said it ls) at) e)
    c.say_no_marks.ensures
