-- a dispatch and a receipt leave a good state good
use Rattle.std.proofs.Common.{◌≡◌, ℕ, Bool, true, false, cond, List, [], ◌∷◌, ◌++◌, refl, ap, ◌∙◌, subst, Option, Some}
use Rattle.std.specs.Prelude.{find, filter}
use Rattle.std.specs.List.{AllByRecursion}
use Rattle.std.specs.Str.{bytes_eq}
use Rattle.money_core.specs.declared.style.Style.{Style}
use Rattle.money_core.proofs.BytesLemmas.{bytes_eq-refl}
use Rattle.treasury_state.specs.declared.record.Record.{Record}
use Rattle.treasury_state.specs.declared.transfer.Transfer.{Transfer}
use Rattle.treasury_state.specs.Federation.{Branch, Federation}
use Rattle.treasury_state.specs.Mark.{held, is_of_transfer}
use Rattle.treasury_state.specs.Transfer.{has_id, asked, out_records, in_records, receipts_of, dispatch_record}
use Rattle.treasury_state.specs.Transfer.{out_mark}
use Rattle.treasury_state.specs.Good.{IsGoodRecord, IsGoodBranch, IsGoodTransfer, IsCarried, IsGoodState}
use Rattle.treasury_state.proofs.LookupLemmas.{first_held}
use Rattle.treasury_state.proofs.SkipLemmas.{same_transfer, pass_out}
use Rattle.treasury_state.proofs.CarriedLemmas.{carried_agree}
use Rattle.treasury_state.proofs.FairLemmas.{branch_found}

-- a branch that is good and carries what transfers ask for
pub record IsWhole (styles : List Style) (ts : List Transfer) (b : Branch) : Type 0 where
  pub good : IsGoodBranch styles b
  pub carried : IsCarried ts b

pub all_whole : (styles : List Style) (ts : List Transfer) (bs : List Branch) → AllByRecursion (IsGoodBranch styles) bs
    → AllByRecursion (IsCarried ts) bs → AllByRecursion (IsWhole styles ts) bs
all_whole styles ts [] h k = tt
all_whole styles ts (b ∷ bs) h k = (record { good = h.0; carried = k.0 }, all_whole styles ts bs h.1 k.1)

-- the record of a dispatch stands in its source's book
asked_first : (x : Transfer) (rest : List Record) (t : Bool) → t ≡ true
    → held (out_records x t ++ rest) (out_mark x) ≡ Some (dispatch_record x)
asked_first x rest true e = first_held (dispatch_record x) rest
asked_first x rest false e = absurd cc

asked_at : (t x : Transfer) (xs : List Transfer) (c : Bool) → bytes_eq x.id t.id ≡ c
    → cond c (Some x) (find (has_id t.id) xs) ≡ Some t
    → (find (has_id t.id) xs ≡ Some t → held (asked xs t.source) (out_mark t) ≡ Some (dispatch_record t))
    → held (asked (x ∷ xs) t.source) (out_mark t) ≡ Some (dispatch_record t)
asked_at t x xs true g e h =
    let P : Transfer → Type 0 = λ y. held (asked (x ∷ xs) y.source) (out_mark y) ≡ Some (dispatch_record y) in
    subst P (same_transfer x t e) (asked_first x
    (in_records x (bytes_eq x.target x.source) (receipts_of x) ++ asked xs x.source) (bytes_eq x.source x.source)
    (bytes_eq-refl x.source))
asked_at t x xs false g e h = pass_out x (asked xs t.source) t.id (bytes_eq x.source t.source)
    (bytes_eq x.target t.source) (receipts_of x) g ∙ h e

asked_out : (t : Transfer) (ts : List Transfer) → find (has_id t.id) ts ≡ Some t
    → held (asked ts t.source) (out_mark t) ≡ Some (dispatch_record t)
asked_out t [] e = absurd cc
asked_out t (x ∷ xs) e = asked_at t x xs (bytes_eq x.id t.id) refl e (asked_out t xs)

held_at : (P : Record → Type 0) (x r : Record) (o : Option Record) (t : Bool) → cond t (Some x) o ≡ Some r → P x
    → (o ≡ Some r → P r) → P r
held_at P x r o true e p h = subst P (let k : x ≡ r = cc in k) p
held_at P x r o false e p h = h e

kept_at : (P : Record → Type 0) (m : List ℕ) (x r : Record) (xs : List Record) (t : Bool)
    → held (cond t (x ∷ xs) xs) m ≡ Some r → P x → (held xs m ≡ Some r → P r) → P r
kept_at P m x r xs true e p h = held_at P x r (held xs m) (bytes_eq x.mark m) e p h
kept_at P m x r xs false e p h = h e

pub held_holds : (P : Record → Type 0) (m : List ℕ) (r : Record) (rs : List Record)
    → held (filter is_of_transfer rs) m ≡ Some r → AllByRecursion P rs → P r
held_holds P m r [] e h = absurd cc
held_holds P m r (x ∷ xs) e h =
    kept_at P m x r (filter is_of_transfer xs) (is_of_transfer x) e h.0 (λ k. held_holds P m r xs k h.1)

pub dispatch_written : (f : Federation) (t : Transfer) → IsGoodState f → find (has_id t.id) f.transfers ≡ Some t
    → IsGoodTransfer f.branches t → IsGoodRecord f.styles (dispatch_record t)
dispatch_written f t good here fair =
    let b = branch_found (IsWhole f.styles f.transfers) f.branches t.source
    (all_whole f.styles f.transfers f.branches good.branches good.carried) fair.source in
    let at : held (filter is_of_transfer b.branch.records) (out_mark t) ≡ Some (dispatch_record t) =
    carried_agree f.transfers b.branch b.holds.carried (out_mark t)
    ∙ (ap (λ (n : List ℕ). held (asked f.transfers n) (out_mark t)) b.named ∙ asked_out t f.transfers here) in
    held_holds (IsGoodRecord f.styles) (out_mark t) (dispatch_record t) b.branch.records at b.holds.good.records
