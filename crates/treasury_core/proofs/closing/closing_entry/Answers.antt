use Rattle.std.proofs.Common.{inl, sym}
use Rattle.treasury_core.proofs.ClosingReply.{no_branch, not_chosen, answers, answer_printable}
use Rattle.treasury_core.proofs.closing.closing_entry.Goals as goal

pub returns-in_default-clause-exact : goal.returns-in_default-clause-exact
returns-in_default-clause-exact g c =
    inl (sym (no_branch c.args.state.now c.args.branch.now c.args.day c.args.choice.now c.in_default.ensures.found))

pub returns-in-Some-choice_refusal-clause-exact : goal.returns-in-Some-choice_refusal-clause-exact
returns-in-Some-choice_refusal-clause-exact g c =
    inl (sym (not_chosen c.args.state.now c.args.branch.now c.args.day c.args.choice.now
    c.in-Some-choice_refusal.refusal c.in-Some.ensures.found.0 (sym c.in-Some-choice_refusal.ensures)))

pub returns-in-Ok-clause-exact : goal.returns-in-Ok-clause-exact
returns-in-Ok-clause-exact g c =
    answers c.args.state.now c.args.branch.now c.args.day c.args.choice.now (g.L.Ledger.book c.in-Some.ledger.now)
    c.styles.result.now c.in-Ok.postings c.limited_txn.result c.in-Some.ensures.found.0
    (sym c.in_default-choice_refusal.ensures) c.in-Some.ensures.found.1 c.styles.ensures c.in-Ok.ensures.value
    c.limited_txn.ensures

pub returns-in-Ok-clause-printable : goal.returns-in-Ok-clause-printable
returns-in-Ok-clause-printable g c =
    answer_printable c.args.state.now c.args.branch.now c.args.day c.args.choice.now c.limited_txn.result
    c.is_good.ensures c.requires
    (answers c.args.state.now c.args.branch.now c.args.day c.args.choice.now (g.L.Ledger.book c.in-Some.ledger.now)
    c.styles.result.now c.in-Ok.postings c.limited_txn.result c.in-Some.ensures.found.0
    (sym c.in_default-choice_refusal.ensures) c.in-Some.ensures.found.1 c.styles.ensures c.in-Ok.ensures.value
    c.limited_txn.ensures)
