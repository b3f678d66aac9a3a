-- how commodities are written, one after another
use Rattle.std.proofs.Common.{◌≡◌, ◌∙◌, ◌<◌, ◌≤◌, ◌+◌, ◌-◌, ◌++◌, ℕ, List, [], ◌∷◌, length, map, refl, sym, ap}
use Rattle.std.proofs.Common.{append_assoc, append-nil, arith}
use Rattle.money_core.specs.declared.style.Style.{Style}
use Rattle.money_core.specs.declared.unit.Unit.{Unit as Commodity}
use Rattle.journal_balance.specs.Legs.{commodities, declared_commodities}
use Rattle.journal_balance.proofs.SumLemmas.{commodities_next, commodities_done}
use Rattle.treasury_messages.specs.declared.kind.MessageKind.{MessageKind}
use Rattle.treasury_messages.specs.declared.kind.MessageKind.TheVariants as is
use Rattle.treasury_messages.specs.Said.{Said, says}
use Rattle.journal_hints.specs.Samples.{written_sample, samples_said}

pub no_samples : (kind : MessageKind) (styles : List Style) → length styles ≡ 0
    → says is.Hint [] ∷ [] ≡ samples_said kind styles
unfolding samples_said
no_samples kind [] h = refl
no_samples kind (s ∷ ss) h = absurd (omega (arith, h))

pub next_sample : (f : Commodity → List ℕ) (n m : ℕ) (old new all : List (List ℕ)) → n < m
    → new ≡ old ++ f (record { 0 = n }) ∷ [] → old ++ map f (commodities n (m - n)) ≡ all
    → new ++ map f (commodities (n + 1) (m - (n + 1))) ≡ all
next_sample f n m old new all within one before =
    let rest = map f (commodities (n + 1) (m - (n + 1))) in
    ap (λ (xs : List (List ℕ)). xs ++ rest) one
    ∙ append_assoc old (f (record { 0 = n }) ∷ []) rest
    ∙ sym (ap (λ (us : List Commodity). old ++ map f us) (commodities_next n m within))
    ∙ before

-- all of them
some_samples : (kind : MessageKind) (styles : List Style) → ¬ (length styles ≡ 0)
    → says kind (map (written_sample styles) (declared_commodities styles)) ∷ [] ≡ samples_said kind styles
unfolding samples_said
some_samples kind [] h = absurd (h refl)
some_samples kind (s ∷ ss) h = refl

said_is : (m : Said) (kind : MessageKind) (vs : List (List ℕ)) → m.kind ≡ kind → m.values ≡ vs → m ≡ says kind vs
said_is m kind vs k v = ap (λ (x : MessageKind). says x m.values) k ∙ ap (says kind) v

pub all_samples : (m : Said) (kind : MessageKind) (styles : List Style) (n : ℕ) → ¬ (length styles ≡ 0)
    → length styles ≤ n → m.kind ≡ kind
    → m.values ++ map (written_sample styles) (commodities n (length styles - n))
    ≡ map (written_sample styles) (declared_commodities styles)
    → m ∷ [] ≡ samples_said kind styles
all_samples m kind styles n some done k all =
    let end = ap (λ (us : List Commodity). m.values ++ map (written_sample styles) us)
    (commodities_done n (length styles) done) in
    ap (λ (x : Said). x ∷ [])
    (said_is m kind _ k (sym (append-nil m.values) ∙ sym end ∙ all)) ∙ some_samples kind styles some
