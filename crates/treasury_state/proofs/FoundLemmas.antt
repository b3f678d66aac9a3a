-- a transfer that was found by its ID, and its amount
use Rattle.std.proofs.Common.{◌≡◌, ◌≤◌, ℕ, Bool, true, false, cond, List, [], ◌∷◌, refl, subst, Some}
use Rattle.std.specs.Prelude.{find, unsigned_abs}
use Rattle.std.specs.List.{AllByRecursion}
use Rattle.std.specs.Str.{bytes_eq}
use Rattle.std.proofs.lemmas.Bool.{leb-true, and_parts}
use Rattle.money_core.specs.Amount.{limit}
use Rattle.money_core.proofs.BytesLemmas.{same_bytes}
use Rattle.journal_format.specs.Printable.{is_posting}
use Rattle.journal_balance.specs.Legs.{leg}
use Rattle.treasury_state.specs.declared.transfer.Transfer.{Transfer}
use Rattle.treasury_state.specs.Federation.{Federation}
use Rattle.treasury_state.specs.Transfer.{has_id, dispatch_record, posting, transit_account}
use Rattle.treasury_state.specs.Good.{IsGoodRecord}
use Rattle.treasury_state.proofs.AmountLemmas.{amount_of}

pub found_transfer : (P : Transfer → Type 0) (id : List ℕ) (ts : List Transfer) (t : Transfer)
    → find (has_id id) ts ≡ Some t → AllByRecursion P ts → P t × (t.id ≡ id)
found_transfer P id [] t e h = absurd cc
found_transfer P id (x ∷ xs) t e h = found_at (bytes_eq x.id id) refl e (found_transfer P id xs t) h
  where
    found_at : (c : Bool) → bytes_eq x.id id ≡ c → cond c (Some x) (find (has_id id) xs) ≡ Some t
        → (find (has_id id) xs ≡ Some t → AllByRecursion P xs → P t × (t.id ≡ id)) → AllByRecursion P (x ∷ xs)
        → P t × (t.id ≡ id)
    found_at true g e k h = subst (λ y. P y × (y.id ≡ id)) (let s : x ≡ t = cc in s) (h.0, same_bytes x.id id g)
    found_at false g e k h = k e h.1

-- the quantity of a transfer is within the limit
pub amount_small : (f : Federation) (t : Transfer) → IsGoodRecord f.styles (dispatch_record t)
    → unsigned_abs t.qty ≤ limit
amount_small f t written =
    let account = transit_account t.source t.target in
    let first = (and_parts (is_posting f.styles (posting (leg account t.unit t.qty))) _ written.printable.postings).0 in
    leb-true (unsigned_abs t.qty) limit (and_parts _ _ (amount_of f.styles account t.unit t.qty first)).1
