use Rattle.std.proofs.Common.{◌∙◌, ap, sym, Option, List, ℕ}
use Rattle.treasury_state.specs.Transfer.{is_account_text}
use Rattle.treasury_core.specs.Choice.{target_in}
use Rattle.treasury_core.proofs.ChoiceLemmas.{default_formed}
use Rattle.treasury_core.proofs.choice.has_target.Goals as goal

pub returns-in-None : goal.returns-in-None
returns-in-None c = sym (ap (λ (o : Option (List ℕ)). is_account_text (target_in o)) c.in-None.is ∙ default_formed)
