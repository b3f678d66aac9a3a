use Rattle.std.proofs.Common.{◌≡◌, ◌++◌, subst, List}
use Rattle.std.specs.Prelude.{OnOk}
use Rattle.journal_format.specs.declared.txn.Located.{Located}
use Rattle.treasury_state.specs.declared.record.Record.{Record}
use Rattle.treasury_core.specs.Step.{records_in_file}
use Rattle.treasury_reasons.specs.Reading.{line_of}
use Rattle.treasury_notes.specs.DryRun.{new_entries_said}
use Rattle.treasury_notes.proofs.dry_run.say_new_entries.Goals as goal

pub returns : goal.returns
returns c = λ list reads.
    let styles = c.args.styles.now in
    let source = c.args.source.now in
    let new = c.args.new.now in
    let old = c.args.out.now.items in
    let all = c.say_listed.new.out.items in
    let read = c.in_ok-read.read in
    subst (λ (file : List Located). OnOk c.say_listed.result
    (all ≡ old ++ new_entries_said source (line_of file (records_in_file styles file)) new))
    (c.in_ok-read.ensures.only list reads)
    (subst (λ (rows : List Record). OnOk c.say_listed.result
    (all ≡ old ++ new_entries_said source (line_of read.file.items rows) new))
    c.in_ok-read.ensures.value.rows c.say_listed.ensures)
