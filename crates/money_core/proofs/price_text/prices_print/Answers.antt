use Rattle.money_core.proofs.PricePrint.{prices_print}
use Rattle.money_core.proofs.price_text.prices_print.Goals as goal

pub returns : goal.returns
returns c = prices_print c.args.styles.now c.are_styles.ensures
