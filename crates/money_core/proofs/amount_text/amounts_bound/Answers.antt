use Rattle.money_core.proofs.AmountPrint.{amounts_bound}
use Rattle.money_core.proofs.amount_text.amounts_bound.Goals as goal

pub returns : goal.returns
returns c = amounts_bound c.args.styles.now
