use Rattle.std.proofs.Common.{◌∙◌, ap, List}
use Rattle.std.specs.Prelude.{find}
use Rattle.treasury_state.specs.declared.transfer.Transfer.{Transfer}
use Rattle.treasury_state.specs.Transfer.{has_id}
use Rattle.treasury_reasons.proofs.TransferLemmas.{parts_good}
use Rattle.treasury_reasons.proofs.transfers.transfer_of.Goals as goal

pub returns-clause-good : goal.returns-clause-good
returns-clause-good g c =
    parts_good c.args.state.now c.as_str.result.now c.find_transfer.result c.is_good.ensures
    (c.find_transfer.ensures ∙ ap (λ (ts : List Transfer). find (has_id c.as_str.result.now) ts) c.transfers.ensures)
