-- Declaring a commodity keeps the styles good.
use Rattle.std.proofs.Common.{◌≡◌, ◌≤◌, ◌<◌, ◌++◌, ℕ, List, [], ◌∷◌, Bool, true, false, Some, None, length, arith, refl}
use Rattle.std.proofs.Common.{ap, ◌∙◌, sym, inl, inr, ◌⊎◌, length-append, nat_lt}
use Rattle.std.specs.List.{slice_get, position_or_len}
use Rattle.std.specs.Str.{bytes_eq}
use Rattle.std.proofs.lemmas.Bool.{and_parts, leb-true, ltb-true, lt-leb, cases_lt}
use Rattle.money_core.specs.Symbol.{is_symbol}
use Rattle.money_core.proofs.PositionLemmas.{some_chosen, position-append_found, position-append_next, slice_get-snoc}
use Rattle.money_core.proofs.BytesLemmas.{bytes_eq-refl}
use Rattle.money_core.specs.declared.style.Style.{Style}
use Rattle.money_core.specs.Amount.{place_of}
use Rattle.std.proofs.Common.{Ok, Err, le-leb}
use Rattle.std.proofs.Common.{if◌then◌else◌, Option, Result}
use Rattle.money_core.specs.declared.unit.Declared.{Declared}
use Rattle.money_core.specs.declared.cause.Cause.{Cause}
use Rattle.money_core.specs.declared.unit.Unit.{Unit as Commodity}
use Rattle.money_core.specs.declared.unit.Declared.TheVariants.{New, Same}
use Rattle.money_core.specs.declared.cause.Cause.TheVariants.{Full, CommodityExists}
use Rattle.money_core.specs.Style.{is_style, AreStyles, declared_with, declared, style_eq}

-- a place is one of the list
pub place_of-bound : (styles : List Style) (symbol : List ℕ) (i : ℕ) → place_of styles symbol ≡ Some i
    → i < length styles
place_of-bound styles symbol i h =
    let n = position_or_len (λ (style : Style). bytes_eq style.symbol symbol) styles in
    let at = some_chosen (nat_lt n (length styles)) n i h in
    let low : n < length styles = ltb-true n (length styles) at.0 in
    omega (arith, low, at.1)

-- one more style whose symbol is not declared
pub AreStyles-snoc : (styles : List Style) (style : Style) → AreStyles styles → is_style style ≡ true
    → place_of styles style.symbol ≡ None → length styles < 16 → AreStyles (styles ++ style ∷ [])
AreStyles-snoc styles style ok is free room = record {
  each = λ i s h. elim (slice_get-snoc styles style i s h) [
    | inl front ↦ ok.each i s front
    | inr last ↦ ap is_style (sym last.1) ∙ is
  ];
  found = λ i s h. elim (slice_get-snoc styles style i s h) [
    | inl front ↦ position-append_found (λ (t : Style). bytes_eq t.symbol s.symbol) styles (style ∷ []) i
        (ok.found i s front)
    | inr last ↦ rw (← last.1, last.0)
        (position-append_next (λ (t : Style). bytes_eq t.symbol style.symbol) styles style free
        (bytes_eq-refl style.symbol))
  ];
  few = omega (arith, room, length-append styles (style ∷ []));
}

-- the answer where the symbol is declared
pub declared-held : (styles : List Style) (style held : Style) (place : ℕ) → place_of styles style.symbol ≡ Some place
    → slice_get styles place ≡ Some held → declared styles style ≡ declared_with style place (Some held)
unfolding declared
declared-held styles style held place at is = rw (at, is) refl

-- the answer where there is no room
pub declared-full : (styles : List Style) (style : Style) → place_of styles style.symbol ≡ None → 16 ≤ length styles
    → declared styles style ≡ Err Full
unfolding declared
declared-full styles style at many = rw (at, le-leb 16 (length styles) many) refl

-- the answer of a new commodity
pub declared-new : (styles : List Style) (style : Style) → place_of styles style.symbol ≡ None → length styles < 16
    → declared styles style ≡ Ok (New (record { 0 = length styles }))
unfolding declared
declared-new styles style at few = rw (at, lt-leb 16 (length styles) few) refl

option_cases : (o : Option ℕ) → (o ≡ None) ⊎ ((i : ℕ) × (o ≡ Some i))
option_cases None = inl refl
option_cases (Some i) = inr (i, refl)

abbrev new_answer : Commodity → Result Declared Cause
new_answer unit = Ok (New unit)

abbrev full_answer : Result Declared Cause
full_answer = Err Full

held_chosen : (same : Bool) (place : ℕ) (unit : Commodity)
    → (if same then Ok (Same (record { 0 = place })) else Err CommodityExists) ≡ new_answer unit → ⊥
held_chosen true place unit h = cc
held_chosen false place unit h = cc

held_not_new : (style : Style) (place : ℕ) (unit : Commodity) (held : Option Style)
    → declared_with style place held ≡ Ok (New unit) → ⊥
held_not_new style place unit None h = cc
held_not_new style place unit (Some s) h = held_chosen (style_eq s style) place unit h

-- what was found where a new commodity is answered
pub declared-was_new : (styles : List Style) (style : Style) (unit : Commodity) → declared styles style ≡ Ok (New unit)
    → (place_of styles style.symbol ≡ None) × (length styles < 16)
unfolding declared
declared-was_new styles style unit h = elim (option_cases (place_of styles style.symbol)) [
  | inl none ↦ elim (cases_lt (length styles) 16) [
    | inl few ↦ (none, few)
    | inr many ↦ absurd (let e : full_answer ≡ new_answer unit = sym (declared-full styles style none many) ∙ h in cc)
  ]
  | inr some ↦ absurd (held_not_new style some.0 unit (slice_get styles some.0) (rw some.1 at h))
]

-- the symbol and the decimals of a declared style
pub record StyleFacts (style : Style) : Type 0 where
  pub symbolic : is_symbol style.symbol ≡ true
  pub few : style.decimals ≤ 6

pub style_facts : (styles : List Style) (i : ℕ) (style : Style) → AreStyles styles → slice_get styles i ≡ Some style
    → StyleFacts style
style_facts styles i style ok at =
    let parts = and_parts (is_symbol style.symbol) _ (ok.each i style at) in
    record { symbolic = parts.0; few = leb-true style.decimals 6 parts.1 }
