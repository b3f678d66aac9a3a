use Rattle.money_core.proofs.PricePrint.{prices_bound}
use Rattle.money_core.proofs.price_text.prices_bound.Goals as goal

pub returns : goal.returns
returns c = prices_bound c.args.styles.now
