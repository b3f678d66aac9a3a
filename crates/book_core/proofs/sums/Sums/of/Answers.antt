use Rattle.book_core.proofs.BookLemmas.{within_front}
use Rattle.book_core.proofs.sums.Sums.of.Goals as goal

pub add-requires-clause-room : goal.add-requires-clause-room
add-requires-clause-room c = within_front c.args.entries.now c.entries.i c.index-entries-i.result c.entries-test.true
    c.index-entries-i.is c.requires
