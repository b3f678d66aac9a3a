use Rattle.std.proofs.Common.{sym}
use Rattle.journal_balance.proofs.LimitLemmas.{posting_legs_small}
use Rattle.journal_balance.proofs.balancing.takes_too_much.Goals as goal

pub returns-in-Some : goal.returns-in-Some
returns-in-Some c = sym (posting_legs_small c.args.styles.now c.args.postings.now c.args.posting.now c.in-Some.field-0
    c.requires.posting c.in-Some.is)
