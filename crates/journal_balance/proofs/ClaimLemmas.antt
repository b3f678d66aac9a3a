-- the assertions of postings stand on different legs of their entry
use Rattle.std.proofs.Common.{◌≡◌, ℕ, ◌+◌, ◌<◌, ◌≤◌, Bool, true, false, ◌&&◌, not, List, [], ◌∷◌, ◌++◌, length, ℤ, refl}
use Rattle.std.proofs.Common.{ap, ◌∙◌, sym, arith, Option, Some, None, true≢false, length-append, subst}
use Rattle.std.specs.Prelude.{is_some}
use Rattle.std.specs.List.{list_all, AllByRecursion}
use Rattle.std.proofs.lemmas.Bool.{and_parts}
use Rattle.money_core.specs.declared.style.Style.{Style}
use Rattle.money_core.specs.declared.unit.Unit.{Unit as Commodity}
use Rattle.money_core.specs.declared.price.Price.{Price}
use Rattle.money_core.specs.declared.claim.Claim.{Claim}
use Rattle.book_core.specs.declared.claim.Placed.{Placed}
use Rattle.book_core.specs.GoodBook.{AreApart}
use Rattle.journal_format.specs.declared.posting.Posting.{Posting}
use Rattle.journal_format.specs.Printable.{is_value, is_posting}
use Rattle.journal_balance.specs.Legs.{amount_legs, posting_legs, legs_among, placed, claims_among}

-- a leg from number k on, before number m
abbrev pub IsBetween : ℕ → ℕ → Placed → Type 0
IsBetween k m x = (k ≤ x.leg) × (x.leg < m)

between_wider : (k j m : ℕ) (xs : List Placed) → k ≤ j → AllByRecursion (IsBetween j m) xs
    → AllByRecursion (IsBetween k m) xs
between_wider k j m [] h all = tt
between_wider k j m (x ∷ xs) h all = ((omega (arith, h, all.0.0), all.0.1), between_wider k j m xs h all.1)

apart_below : (x : Placed) (j m : ℕ) (xs : List Placed) → x.leg < j → AllByRecursion (IsBetween j m) xs
    → AllByRecursion (λ (y : Placed). x.leg ≡ y.leg → ⊥) xs
apart_below x j m [] h all = tt
apart_below x j m (y ∷ ys) h all = ((λ e. omega (arith, h, all.0.0, e)), apart_below x j m ys h all.1)

-- only a posting with an amount has an assertion
pub claim_amount : (styles : List Style) (p : Posting) (claim : Claim) → is_posting styles p ≡ true
    → p.claim ≡ Some claim → (a : Commodity × ℤ) × (p.amount ≡ Some a)
claim_amount styles p claim ok e = by_amount p.amount refl (and_parts _ _ (and_parts _ _ ok).0).1
  where
    not_both : (b : Bool) → (b && false) ≡ true → ⊥
    not_both true h = true≢false (sym h)
    not_both false h = true≢false (sym h)

    by_amount : (o : Option (Commodity × ℤ)) → p.amount ≡ o → is_value styles p.amount p.price p.claim ≡ true
        → (a : Commodity × ℤ) × (p.amount ≡ Some a)
    by_amount (Some a) h value = (a, h)
    by_amount None h value =
        let at : is_value styles None p.price (Some claim) ≡ true =
        ap (λ (o : Option (Commodity × ℤ)). is_value styles o p.price (Some claim)) (sym h) ∙ ap
        (λ (k : Option Claim). is_value styles p.amount p.price k) (sym e) ∙ value in
        absurd (not_both (not (is_some p.price)) at)

some_legs : (styles : List Style) (account : List ℕ) (a : Commodity × ℤ) (p : Option Price)
    → 1 ≤ length (amount_legs styles account a p)
some_legs styles account a None = omega arith
some_legs styles account a (Some p) = omega arith

-- what is said of assertions: each from number k on and before the last, no two on one leg
abbrev pub StandApart : List Style → List Posting → ℕ → List Posting → Type 0
StandApart styles all k xs =
    AllByRecursion (IsBetween k (k + length (legs_among styles all xs))) (claims_among styles all k xs)
    × AreApart (claims_among styles all k xs)

pub claims_apart : (styles : List Style) (all : List Posting) (k : ℕ) (xs : List Posting)
    → list_all (is_posting styles) xs ≡ true → StandApart styles all k xs
claims_apart styles all k [] ok = (tt, tt)
claims_apart styles all k (x ∷ xs) ok =
    let both = and_parts (is_posting styles x) (list_all (is_posting styles) xs) ok in
    by_claim x.claim refl both.0 (claims_apart styles all
    (k + length (posting_legs styles all x.account x.amount x.price)) xs both.1)
  where
    mine : ℕ
    mine = length (posting_legs styles all x.account x.amount x.price)

    behind : List Placed
    behind = claims_among styles all (k + mine) xs

    whole : length (posting_legs styles all x.account x.amount x.price ++ legs_among styles all xs)
        ≡ mine + length (legs_among styles all xs)
    whole = length-append (posting_legs styles all x.account x.amount x.price) (legs_among styles all xs)

    bound : (k + mine) + length (legs_among styles all xs)
        ≡ k + length (posting_legs styles all x.account x.amount x.price ++ legs_among styles all xs)
    bound = let w = whole in omega (arith, w)

    wider : AllByRecursion (IsBetween (k + mine) ((k + mine) + length (legs_among styles all xs))) behind
        → AllByRecursion (IsBetween k (k
        + length (posting_legs styles all x.account x.amount x.price ++ legs_among styles all xs))) behind
    wider h = between_wider k (k + mine) _ behind (omega arith)
        (subst (λ (m : ℕ). AllByRecursion (IsBetween (k + mine) m) behind) bound h)

    by_claim : (o : Option Claim) → x.claim ≡ o → is_posting styles x ≡ true → StandApart styles all (k + mine) xs
        → AllByRecursion (IsBetween k (k
        + length (posting_legs styles all x.account x.amount x.price ++ legs_among styles all xs)))
        (placed k o ++ behind) × AreApart (placed k o ++ behind)
    by_claim None e one later = (wider later.0, later.1)
    by_claim (Some claim) e one later =
        let amount = claim_amount styles x claim one e in
        let same : mine ≡ length (amount_legs styles x.account amount.0 x.price) =
        ap (λ (o : Option (Commodity × ℤ)). length (posting_legs styles all x.account o x.price)) amount.1 in
        let some = some_legs styles x.account amount.0 x.price in
        let w = whole in (
          ((omega arith, omega (arith, w, same, some)), wider later.0),
          (
            apart_below (record { leg = k; claim = claim }) (k + mine) _ behind (omega (arith, same, some)) later.0,
            later.1,
          ),
        )
