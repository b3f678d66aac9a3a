-- tests that were negated; the amount of a transfer in a good state
use Rattle.std.proofs.Common.{◌≡◌, ◌≤◌, ℕ, Bool, true, false, List, refl, ap, ◌∙◌, sym, Some}
use Rattle.std.specs.Prelude.{find, unsigned_abs, not}
use Rattle.money_core.specs.Amount.{limit}
use Rattle.treasury_state.specs.declared.transfer.Transfer.{Transfer}
use Rattle.treasury_state.specs.Federation.{Federation}
use Rattle.treasury_state.specs.Transfer.{has_id, transfer_at}
use Rattle.treasury_state.specs.Good.{IsGoodTransfer, IsGoodState}
use Rattle.treasury_state.proofs.DispatchLemmas.{dispatch_written}
use Rattle.treasury_state.proofs.FoundLemmas.{found_transfer, amount_small}

false_from_not : (t u : Bool) → u ≡ not t → u ≡ true → t ≡ false
false_from_not true u e h = absurd (let k : false ≡ true = sym e ∙ h in cc)
false_from_not false u e h = refl

true_from_not : (t u : Bool) → u ≡ not t → u ≡ false → t ≡ true
true_from_not true u e h = refl
true_from_not false u e h = absurd (let k : true ≡ false = sym e ∙ h in cc)

pub not_true : {t u : Bool} → u ≡ not t → u ≡ true → t ≡ false
not_true {t = t} {u = u} e h = false_from_not t u e h

pub not_false : {t u : Bool} → u ≡ not t → u ≡ false → t ≡ true
not_false {t = t} {u = u} e h = true_from_not t u e h

-- ---- receipts

-- the amount of a transfer is within the limit
pub transfer_small : (f : Federation) (id : List ℕ) (t : Transfer) → IsGoodState f → transfer_at f id ≡ Some t
    → unsigned_abs t.qty ≤ limit
transfer_small f id t good at =
    let fair = found_transfer (IsGoodTransfer f.branches) id f.transfers t at good.transfers in
    let here : find (has_id t.id) f.transfers ≡ Some t = ap (λ (m : List ℕ). find (has_id m) f.transfers) fair.1 ∙ at in
    amount_small f t (dispatch_written f t good here fair.0)
