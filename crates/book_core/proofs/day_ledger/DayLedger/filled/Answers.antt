use Rattle.std.proofs.Common.{◌∙◌, ap, sym, List, ◌++◌, ◌≡◌, []}
use Rattle.std.proofs.lemmas.List.{nil_from_length}
use Rattle.book_core.specs.declared.entry.Entry.{Entry}
use Rattle.book_core.proofs.FilledLemmas.{Next, next_split, next_fit, next_room, next_done, all_done}
use Rattle.book_core.proofs.day_ledger.DayLedger.filled.Goals as goal

pub add-requires-clause-fit : goal.add-requires-clause-fit
add-requires-clause-fit c =
    next_fit c.entries.ledger c.next.new.self.rest.items c.args.entries.items c.in-Some.entry
    (next_split c.entries.ledger c.entries.entry-iterator.rest.items c.next.new.self.rest.items c.args.entries.items
    c.in-Some.entry c.in-Some.ensures.steps.0 c.entries.invariant)
    c.requires.fit

pub add-requires-clause-room : goal.add-requires-clause-room
add-requires-clause-room c =
    next_room c.entries.ledger c.next.new.self.rest.items c.args.entries.items c.in-Some.entry
    (next_split c.entries.ledger c.entries.entry-iterator.rest.items c.next.new.self.rest.items c.args.entries.items
    c.in-Some.entry c.in-Some.ensures.steps.0 c.entries.invariant)
    c.requires.room

pub entries-preserved : goal.entries-preserved
entries-preserved c =
    ap (λ (es : List Entry). es ++ c.next.new.self.rest.items) c.in_ok-add.ensures.ok
    ∙ next_done c.entries.ledger c.next.new.self.rest.items c.args.entries.items c.in-Some.entry
    (next_split c.entries.ledger c.entries.entry-iterator.rest.items c.next.new.self.rest.items c.args.entries.items
    c.in-Some.entry c.in-Some.ensures.steps.0 c.entries.invariant)

pub returns-clause-value : goal.returns-clause-value
returns-clause-value c =
    let rest = c.entries.entry-iterator.rest in
    all_done c.entries.ledger rest.items c.args.entries.items
    (nil_from_length rest.items (sym rest.ok.0 ∙ c.in-None.ensures.steps.0)) c.entries.invariant
