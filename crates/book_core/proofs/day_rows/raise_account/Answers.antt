use Rattle.book_core.proofs.day_rows.raise_account.Goals as goal

pub raise_row-requires-clause-small : goal.raise_row-requires-clause-small
raise_row-requires-clause-small c = c.requires.small c.args.account.now
