-- each transfer of a state is found by its ID
use Rattle.std.proofs.Common.{◌≡◌, Bool, cond, List, [], ◌∷◌, ap, ◌∙◌, Some}
use Rattle.std.specs.Prelude.{find}
use Rattle.std.specs.declared.cmp.Ordering.TheVariants.{Less}
use Rattle.std.specs.List.{AllByRecursion}
use Rattle.money_core.proofs.BytesLemmas.{bytes_eq-refl, other_bytes}
use Rattle.book_core.specs.Account.{name_cmp}
use Rattle.treasury_state.specs.declared.transfer.Transfer.{Transfer}
use Rattle.treasury_state.specs.Transfer.{has_id}
use Rattle.treasury_state.specs.Good.{AreAscending}
use Rattle.treasury_state.proofs.OrderLemmas.{AreBehind, other_than}

-- each is found by its ID
found_at : (t x : Transfer) (ts : List Transfer) → name_cmp t.id x.id ≡ Less → find (has_id x.id) ts ≡ Some x
    → find (has_id x.id) (t ∷ ts) ≡ Some x
found_at t x ts less h =
    ap (λ (c : Bool). cond c (Some t) (find (has_id x.id) ts)) (other_bytes x.id t.id (other_than t.id x.id less)) ∙ h

all_found_at : (t : Transfer) (ts us : List Transfer) → AreBehind t.id us
    → AllByRecursion (λ (x : Transfer). find (has_id x.id) ts ≡ Some x) us
    → AllByRecursion (λ (x : Transfer). find (has_id x.id) (t ∷ ts) ≡ Some x) us
all_found_at t ts [] h k = tt
all_found_at t ts (u ∷ us) h k = (found_at t u ts h.0 k.0, all_found_at t ts us h.1 k.1)

pub all_found : (ts : List Transfer) → AreAscending ts
    → AllByRecursion (λ (t : Transfer). find (has_id t.id) ts ≡ Some t) ts
all_found [] h = tt
all_found (t ∷ ts) h = (
  ap (λ (c : Bool). cond c (Some t) (find (has_id t.id) ts)) (bytes_eq-refl t.id),
  all_found_at t ts ts h.0 (all_found ts h.1),
)
