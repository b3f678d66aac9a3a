-- one more commodity or account of a closing
use Rattle.std.proofs.Common.{◌≡◌, ◌≤◌, ◌<◌, ◌+◌, ◌-◌, ℕ, zero, suc, true, List, [], ◌∷◌, ◌++◌, length, drop, get_or}
use Rattle.std.proofs.Common.{refl, ap, ◌∙◌, sym, arith, add-one, append_assoc, append-nil, drop-cons, ℤ, ◌+ℤ◌, Option}
use Rattle.std.proofs.Common.{Ok, Err}
use Rattle.std.specs.Prelude.{filter, cond, Bool, Result, OnOk, ⊤}
use Rattle.std.specs.List.{flat_map}
use Rattle.money_core.specs.declared.unit.Unit.{Unit as Commodity}
use Rattle.money_core.specs.declared.cause.Cause.{Cause}
use Rattle.money_core.specs.declared.claim.Claim.{Claim}
use Rattle.money_core.proofs.ListLemmas.{drop_at}
use Rattle.book_core.specs.Balance.{value, moved}
use Rattle.book_core.proofs.SumLemmas.{moved-append}
use Rattle.journal_format.specs.declared.posting.Posting.{Posting}
use Rattle.journal_balance.specs.Legs.{commodities}
use Rattle.journal_balance.specs.Plain.{written_leg, written_legs}
use Rattle.journal_balance.proofs.SumLemmas.{commodities_next, commodities_done}
use Rattle.journal_balance.proofs.ValueLemmas.{value-append}
use Rattle.treasury_core.specs.Closing.{nonzero_posting}

pub next_unit : (F : Commodity → List Posting) (old new all : List Posting) (n m : ℕ) → n < m
    → old ++ flat_map F (commodities n (m - n)) ≡ all → new ≡ old ++ F (record { 0 = n })
    → new ++ flat_map F (commodities (n + 1) (m - (n + 1))) ≡ all
next_unit F old new all n m h e pushed =
    let v : Commodity = record { 0 = n } in
    let rest = flat_map F (commodities (n + 1) (m - (n + 1))) in
    ap (λ (xs : List Posting). xs ++ rest) pushed
    ∙ append_assoc old (F v) rest
    ∙ sym (ap (λ (us : List Commodity). old ++ flat_map F us) (commodities_next n m h))
    ∙ e

pub last_unit : (F : Commodity → List Posting) (old all : List Posting) (n m : ℕ) → m ≤ n
    → old ++ flat_map F (commodities n (m - n)) ≡ all → old ≡ all
last_unit F old all n m h e =
    sym (append-nil old) ∙ sym (ap (λ (us : List Commodity). old ++ flat_map F us) (commodities_done n m h)) ∙ e

drop_name : (names : List (List ℕ)) (i : ℕ) (a : List ℕ) → i < length names → a ≡ get_or names i a
    → drop i names ≡ a ∷ drop (i + 1) names
drop_name names i a h e = drop-cons names i a h ∙ ap (λ (x : List ℕ). x ∷ drop (suc i) names) (sym e) ∙ ap
    (λ (j : ℕ). a ∷ drop j names) (sym (add-one i))

pub next_account : (F : List ℕ → List Posting) (p : List ℕ → Bool) (old new all : List Posting) (names : List (List ℕ))
    (i : ℕ) (a : List ℕ) → i < length names → a ≡ get_or names i a → p a ≡ true
    → old ++ flat_map F (filter p (drop i names)) ≡ all → new ≡ old ++ F a
    → new ++ flat_map F (filter p (drop (i + 1) names)) ≡ all
next_account F p old new all names i a h item passes e pushed =
    let more = drop (i + 1) names in
    ap (λ (xs : List Posting). xs ++ flat_map F (filter p more)) pushed
    ∙ append_assoc old (F a) (flat_map F (filter p more))
    ∙ sym (ap (λ (t : Bool). old ++ flat_map F (cond t (a ∷ filter p more) (filter p more))) passes)
    ∙ sym (ap (λ (xs : List (List ℕ)). old ++ flat_map F (filter p xs)) (drop_name names i a h item))
    ∙ e

drop_past : (names : List (List ℕ)) (i : ℕ) → length names ≤ i → drop i names ≡ []
drop_past [] zero h = refl
drop_past [] (suc i) h = refl
drop_past (x ∷ xs) zero h = absurd (omega (arith, h))
drop_past (x ∷ xs) (suc i) h = let k : length xs ≤ i = omega (arith, h) in drop_past xs i k

pub last_account : (F : List ℕ → List Posting) (p : List ℕ → Bool) (old all : List Posting) (names : List (List ℕ))
    (i : ℕ) → length names ≤ i → old ++ flat_map F (filter p (drop i names)) ≡ all → old ≡ all
last_account F p old all names i h e =
    sym (append-nil old) ∙ sym (ap (λ (xs : List (List ℕ)). old ++ flat_map F (filter p xs)) (drop_past names i h)) ∙ e

pub value_next : (unit : Commodity) (ps : List Posting) (i : ℕ) (p : Posting) → i < length ps → p ≡ get_or ps i p →
    value unit (written_legs (drop i ps))
    ≡ value unit (written_leg p.account p.amount) +ℤ value unit (written_legs (drop (i + 1) ps))
value_next unit ps i p h e =
    ap (λ (xs : List Posting). value unit (written_legs xs)) (drop_at ps i p h e) ∙ value-append unit
    (written_leg p.account p.amount) (written_legs (drop (i + 1) ps))

pub moved_next : (unit : Commodity) (ps : List Posting) (i : ℕ) (p : Posting) → i < length ps → p ≡ get_or ps i p →
    moved unit (written_legs (drop i ps))
    ≡ moved unit (written_leg p.account p.amount) + moved unit (written_legs (drop (i + 1) ps))
moved_next unit ps i p h e =
    ap (λ (xs : List Posting). moved unit (written_legs xs)) (drop_at ps i p h e) ∙ moved-append unit
    (written_leg p.account p.amount) (written_legs (drop (i + 1) ps))

-- what is posted, of equal quantities and assertions
pub posted_as : (r : Result ⊤ Cause) (new old : List Posting) (account : List ℕ) (unit : Commodity) (q z : ℤ)
    (k j : Option Claim) → OnOk r (new ≡ old ++ nonzero_posting account unit q k) → q ≡ z → k ≡ j
    → OnOk r (new ≡ old ++ nonzero_posting account unit z j)
posted_as (Ok x) new old account unit q z k j h e f =
    h ∙ (ap (λ (y : ℤ). old ++ nonzero_posting account unit y k) e ∙ ap
    (λ (c : Option Claim). old ++ nonzero_posting account unit z c) f)
posted_as (Err x) new old account unit q z k j h e f = tt
