use Rattle.treasury_reports.proofs.ListLemmas.{add_up_to_transit}
use Rattle.treasury_reports.proofs.transfers.transfers_law.Goals as goal

pub returns : goal.returns
returns c = add_up_to_transit
