-- the transfer of an ID
use Rattle.std.proofs.Common.{◌≡◌, ℕ, List, sym, Option, Some, None}
use Rattle.std.specs.Prelude.{IfSome, option_copied}
use Rattle.std.specs.Borrow.{Bor}
use Rattle.treasury_state.specs.declared.transfer.Transfer.{Transfer}
use Rattle.treasury_state.specs.Federation.{Federation}
use Rattle.treasury_state.specs.Good.{HasGoodParts, IsGoodState}
use Rattle.treasury_state.specs.Transfer.{transfer_at}
use Rattle.treasury_core.proofs.TransferReplyLemmas.{transfer_good}

-- one that is found is good
pub parts_good : (f : Federation) (id : List ℕ) (o : Option (Bor Transfer)) → IsGoodState f
    → option_copied o ≡ transfer_at f id → IfSome o (λ t. HasGoodParts t.now)
parts_good f id None good is = tt
parts_good f id (Some t) good is = (transfer_good f id t.now good (sym is)).parts
