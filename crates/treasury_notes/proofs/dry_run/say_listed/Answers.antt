use Rattle.std.proofs.Common.{◌≡◌, ◌-◌, min, length, take, rules, arith}
use Rattle.std.specs.List.{flat_map}
use Rattle.treasury_reasons.specs.Reading.{line_of}
use Rattle.treasury_notes.specs.DryRun.{new_entry_said, new_entries_said, most_new_entries, more_entries_said}
use Rattle.treasury_notes.proofs.DryRunLemmas.{said_twice, said_first}
use Rattle.treasury_notes.proofs.dry_run.say_listed.Goals as goal

pub returns : goal.returns
unfolding new_entries_said
returns c =
    let new = c.args.new.now in
    let old = c.args.out.now.items in
    let said = new_entry_said c.args.source.now (line_of c.args.read.now.file.items c.args.read.now.rows) in
    let is : c.min.result ≡ min most_new_entries (length new) = first_of (search rules, grind arith) in
    said_twice c.say_more_entries.result old c.loop-row.out.items c.say_more_entries.new.out.items
    (flat_map said (take most_new_entries new)) (more_entries_said (length new - most_new_entries))
    (said_first said new c.min.result most_new_entries c.loop-row.row-index old c.loop-row.out.items is
    c.loop-row-test.false c.loop-row.invariant)
    c.say_more_entries.ensures
