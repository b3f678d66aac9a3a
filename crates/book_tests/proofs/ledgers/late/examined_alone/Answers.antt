use Rattle.std.proofs.Common.{◌++◌, rules, sym, subst}
use Rattle.book_core.specs.Examine.{ArePlaces}
use Rattle.book_core.proofs.GoodBookLemmas.{failure_good}
use Rattle.book_tests.proofs.LateLemmas.{failed_by, within_failed, place_failed}
use Rattle.book_tests.proofs.ledgers.late.examined_alone.Goals as goal

pub check-requires-clause-hold : goal.check-requires-clause-hold
check-requires-clause-hold g c = failure_good c.args.ledger.now c.requires

pub examine-found-requires-clause-room : goal.examine-found-requires-clause-room
examine-found-requires-clause-room g c =
    let failed = failed_by (c.args.ledger.now ++ c.args.new.now) c.in-Err-ClaimFailed.field-0
    c.in-Err-ClaimFailed.failure c.in-Err-ClaimFailed.ensures.checks (search rules) in
    within_failed (c.args.ledger.now ++ c.args.new.now) c.in-Err-ClaimFailed.failure failed

pub examine-found-requires-clause-places : goal.examine-found-requires-clause-places
examine-found-requires-clause-places g c =
    let failed = failed_by (c.args.ledger.now ++ c.args.new.now) c.in-Err-ClaimFailed.field-0
    c.in-Err-ClaimFailed.failure c.in-Err-ClaimFailed.ensures.checks (search rules) in
    subst (ArePlaces (c.args.ledger.now ++ c.args.new.now)) (sym c.from_ref.ensures.value)
    (place_failed (c.args.ledger.now ++ c.args.new.now) c.in-Err-ClaimFailed.failure failed)
