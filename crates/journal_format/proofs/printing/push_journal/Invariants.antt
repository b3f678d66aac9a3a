use Rattle.std.proofs.Common.{◌≡◌, ◌++◌, take}
use Rattle.journal_format.specs.CanonicalText.{journal_text}
use Rattle.journal_format.proofs.printing.push_journal.Given as goal

abbrev pub invariant-txns : goal.invariant-txns
invariant-txns l = l.out.items ≡ l.fn.out.items ++ journal_text l.styles (take l.txn-index l.txns)
