use Rattle.money_core.proofs.length.+digits_len.Given as goal

abbrev pub decreases-digits_len : goal.decreases-digits_len
decreases-digits_len l = l.n
