use Rattle.money_core.proofs.length.+grouped_len.Given as goal

abbrev pub decreases-grouped_len : goal.decreases-grouped_len
decreases-grouped_len l = l.n
