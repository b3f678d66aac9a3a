use Rattle.std.proofs.Common.{◌≡◌, ◌++◌}
use Rattle.book_core.proofs.plain_ledger.PlainLedger.filled.Given as goal

-- with the entries that are left, the ledger has all
abbrev pub invariant-entries : goal.invariant-entries
invariant-entries l = l.ledger ++ l.entry-iterator.rest.items ≡ l.fn.entries.items
