use Rattle.std.proofs.Common.{subst}
use Rattle.book_core.specs.GoodBook.{IsWithin}
use Rattle.book_core.proofs.VerdictLemmas.{within_from}
use Rattle.book_core.proofs.plain_ledger.PlainLedgerLedger.of.Goals as goal

pub filled-requires-clause-room : goal.filled-requires-clause-room
filled-requires-clause-room c =
    subst IsWithin c.deref.ensures.value (within_from c.deref.result.now c.in-Ok.ensures.checks)
