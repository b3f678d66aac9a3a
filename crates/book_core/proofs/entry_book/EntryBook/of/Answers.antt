use Rattle.std.proofs.Common.{subst}
use Rattle.book_core.specs.GoodBook.{IsWithin}
use Rattle.book_core.proofs.entry_book.EntryBook.of.Goals as goal

pub invariant_of-result : goal.invariant_of-result
invariant_of-result c = (c.requires, subst IsWithin c.book.view_is c.book.invariant.0)
