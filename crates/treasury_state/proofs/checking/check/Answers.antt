use Rattle.std.proofs.Common.{◌∙◌, sym}
use Rattle.book_core.proofs.GoodBookLemmas.{failure_good}
use Rattle.treasury_state.proofs.HoldsLemmas.{same_book}
use Rattle.treasury_state.proofs.checking.check.Goals as goal

pub returns-then-is_empty : goal.returns-then-is_empty
returns-then-is_empty g c = same_book (g.L.Ledger.book c.args.ledger.now) c.args.new.now
    (sym c.is_empty.ensures ∙ c.if-is_empty.true) c.requires.good

pub check-requires-clause-hold : goal.check-requires-clause-hold
check-requires-clause-hold g c = failure_good (g.L.Ledger.book c.args.ledger.now) c.requires.good
