use Rattle.money_core.proofs.RoundTrip.{printed_reads}
use Rattle.money_core.proofs.printing.print_number.Goals as goal

pub returns-then-is_err-clause-again : goal.returns-then-is_err-clause-again
returns-then-is_err-clause-again c =
    printed_reads c.args.mark c.args.groups c.args.decimals c.args.quantity c.ranges.quantity.fits

pub returns-else-is_err-clause-again : goal.returns-else-is_err-clause-again
returns-else-is_err-clause-again c =
    printed_reads c.args.mark c.args.groups c.args.decimals c.args.quantity c.ranges.quantity.fits
