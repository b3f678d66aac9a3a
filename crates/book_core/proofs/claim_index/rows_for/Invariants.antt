use Rattle.std.proofs.Common.{take}
use Rattle.book_core.specs.Book.{legs_of}
use Rattle.book_core.specs.ClaimIndex.{AreListed}
use Rattle.book_core.proofs.claim_index.rows_for.Given as goal

abbrev pub invariant-loop-entry : goal.invariant-loop-entry
invariant-loop-entry l = AreListed l.reach l.rows.items l.index (legs_of (take l.entry-index l.entries))
