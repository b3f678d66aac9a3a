use Rattle.journal_lines.proofs.AccountLemmas.{behind_transit, at_or_below_by_colon}
use Rattle.journal_lines.specs.AccountName.{transit}
use Rattle.journal_lines.proofs.account.is_reserved.Goals as goal

pub returns-in-Some-len1-up : goal.returns-in-Some-len1-up
returns-in-Some-len1-up c =
    let found = c.in-Some-len1-up.ensures.cases in
    at_or_below_by_colon transit c.args.account.now c.in-Some-len1-up.field-0.now
    (behind_transit c.args.account.now c.in-Some-len1-up.field-0.now found.0 found.1) c.in-Some-len1-up.len_at_least
