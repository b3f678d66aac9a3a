use Rattle.money_core.proofs.AmountPrint.{amounts_print}
use Rattle.money_core.proofs.amount_text.amounts_print.Goals as goal

pub returns : goal.returns
returns c = amounts_print c.args.styles.now c.are_styles.ensures
