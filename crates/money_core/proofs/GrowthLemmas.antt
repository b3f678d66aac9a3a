-- What was found among some styles is found among them and more, at the same place.
use Rattle.std.proofs.Common.{◌≡◌, ◌++◌, ◌==◌, ℕ, ℤ, zero, suc, List, [], ◌∷◌, Bool, true, false, cond, not}
use Rattle.std.proofs.Common.{slice_index, drop, arith, refl, ap, ◌∙◌, sym, append-nil, Option, Some, None, Result, Ok}
use Rattle.std.proofs.Common.{Err, length-append}
use Rattle.std.specs.List.{slice_get}
use Rattle.std.specs.Option.{option_map}
use Rattle.std.specs.Str.{bytes_eq}
use Rattle.money_core.specs.declared.style.Style.{Style}
use Rattle.money_core.specs.declared.unit.Unit.{Unit as Commodity}
use Rattle.money_core.specs.declared.unit.Declared.{Declared}
use Rattle.money_core.specs.declared.unit.Declared.TheVariants.{New, Same}
use Rattle.money_core.specs.declared.cause.Cause.{Cause}
use Rattle.money_core.specs.declared.cause.Cause.TheVariants.{Amount}
use Rattle.money_core.specs.declared.price.Price.{Price}
use Rattle.money_core.specs.Amount.{Parts, place_of}
use Rattle.money_core.specs.Cutting.{skip_blanks, amount_parts}
use Rattle.money_core.specs.Style.{unit_of}
use Rattle.money_core.specs.Reading.{amount_in, amount_at, amount_of_parts, amount}
use Rattle.money_core.specs.AmountText.{printed_in, IsDeclared}
use Rattle.money_core.specs.Price.{cost_unit, is_cost, is_price}
use Rattle.money_core.specs.PriceReading.{price_in, price_at, price_of_parts, price}
use Rattle.money_core.specs.PriceText.{printed_cost, printed_price}
use Rattle.money_core.specs.Cost.{cost}
use Rattle.money_core.specs.Growth.{Appends, StylesGrow}
use Rattle.money_core.proofs.PositionLemmas.{position-append_found}
use Rattle.money_core.proofs.AmountPrint.{found_within}

slice_get-append : {X : Type 0} (xs ys : List X) (i : ℕ) (x : X) → slice_get xs i ≡ Some x
    → slice_get (xs ++ ys) i ≡ Some x
slice_get-append [] ys i x h = absurd cc
slice_get-append (y ∷ xs) ys zero x h = h
slice_get-append (y ∷ xs) ys (suc i) x h = slice_get-append xs ys i x h

place_stays : (styles more : List Style) (symbol : List ℕ) (i : ℕ) → place_of styles symbol ≡ Some i
    → place_of (styles ++ more) symbol ≡ Some i
place_stays styles more symbol i h =
    position-append_found (λ (style : Style). bytes_eq style.symbol symbol) styles more i h

unit_stays : (styles more : List Style) (symbol : List ℕ) (unit : Commodity) → unit_of styles symbol ≡ Some unit
    → unit_of (styles ++ more) symbol ≡ Some unit
unit_stays styles more symbol unit h = go (place_of styles symbol) refl h
  where
    go : (o : Option ℕ) → place_of styles symbol ≡ o → option_map (λ place. record { 0 = place }) o ≡ Some unit
        → unit_of (styles ++ more) symbol ≡ Some unit
    go None e k = absurd cc
    go (Some i) e k = rw (place_stays styles more symbol i e) k

amount_stays : (styles more : List Style) (text : List ℕ) (unit : Commodity) (q : ℤ) → amount styles text ≡ Ok (unit, q)
    → amount (styles ++ more) text ≡ Ok (unit, q)
unfolding amount_of_parts
amount_stays styles more text unit q h = of_some (amount_parts text) h
  where
    of_style : (parts : Parts) (i : ℕ) (o : Option Style) → slice_get styles i ≡ o → amount_in parts i o ≡ Ok (unit, q)
        → amount_in parts i (slice_get (styles ++ more) i) ≡ Ok (unit, q)
    of_style parts i None e k = absurd cc
    of_style parts i (Some style) e k = rw (slice_get-append styles more i style e) k

    of_found : (parts : Parts) (o : Option ℕ) → place_of styles parts.symbol ≡ o
        → amount_at styles parts o ≡ Ok (unit, q)
        → amount_at (styles ++ more) parts (place_of (styles ++ more) parts.symbol) ≡ Ok (unit, q)
    of_found parts None e k = absurd cc
    of_found parts (Some i) e k =
        rw (place_stays styles more parts.symbol i e) (of_style parts i (slice_get styles i) refl k)

    of_some : (o : Option Parts) → amount_of_parts styles o ≡ Ok (unit, q)
        → amount_of_parts (styles ++ more) o ≡ Ok (unit, q)
    of_some None k = absurd cc
    of_some (Some parts) k = of_found parts (place_of styles parts.symbol) refl k

parts_stay : (styles more : List Style) (total : Bool) (o : Option Parts) (p : Price)
    → price_of_parts styles total o ≡ Ok p → price_of_parts (styles ++ more) total o ≡ Ok p
unfolding price_of_parts
parts_stay styles more total None p h = absurd cc
parts_stay styles more total (Some parts) p h = of_found (place_of styles parts.symbol) refl h
  where
    of_style : (i : ℕ) (o : Option Style) → slice_get styles i ≡ o → price_in total parts i o ≡ Ok p
        → price_in total parts i (slice_get (styles ++ more) i) ≡ Ok p
    of_style i None e k = absurd cc
    of_style i (Some style) e k = rw (slice_get-append styles more i style e) k

    of_found : (o : Option ℕ) → place_of styles parts.symbol ≡ o → price_at styles total parts o ≡ Ok p
        → price_at (styles ++ more) total parts (place_of (styles ++ more) parts.symbol) ≡ Ok p
    of_found None e k = absurd cc
    of_found (Some i) e k = rw (place_stays styles more parts.symbol i e) (of_style i (slice_get styles i) refl k)

price_stays : (styles more : List Style) (text : List ℕ) (p : Price) → price styles text ≡ Ok p
    → price (styles ++ more) text ≡ Ok p
unfolding price
price_stays styles more text p h =
    marked (not (slice_index text 0 == 64)) (slice_index (drop 1 text) 0 == 64)
    (amount_parts (skip_blanks (drop 1 (drop 1 text)))) (amount_parts (skip_blanks (drop 1 text))) h
  where
    marked : (b c : Bool) (two one : Option Parts)
        → cond b (Err Amount) (cond c (price_of_parts styles true two) (price_of_parts styles false one)) ≡ Ok p
        → cond b (Err Amount) (cond c (price_of_parts (styles ++ more) true two)
        (price_of_parts (styles ++ more) false one)) ≡ Ok p
    marked true c two one k = absurd cc
    marked false true two one k = parts_stay styles more true two p k
    marked false false two one k = parts_stay styles more false one p k

declared_stays : (styles more : List Style) (unit : Commodity) (q : ℤ) → IsDeclared styles unit q
    → IsDeclared (styles ++ more) unit q
declared_stays styles more unit q d =
    record { known = omega (arith, d.known, length-append styles more); size = d.size }

printed_stays : (styles more : List Style) (unit : Commodity) (q : ℤ) → IsDeclared styles unit q
    → printed_in (styles ++ more) unit q ≡ printed_in styles unit q
unfolding printed_in
printed_stays styles more unit q d =
    let found = found_within styles unit.0 d.known in
    rw (found.1, slice_get-append styles more unit.0 found.0 found.1) refl

-- the style of a price's commodity
style_of_price : (styles : List Style) (p : Price) → is_price styles p ≡ true
    → (style : Style) × (slice_get styles (cost_unit p).0 ≡ Some style)
style_of_price styles p h = go (slice_get styles (cost_unit p).0) refl h
  where
    go : (o : Option Style) → slice_get styles (cost_unit p).0 ≡ o → is_cost o p ≡ true
        → (style : Style) × (slice_get styles (cost_unit p).0 ≡ Some style)
    go None e k = absurd cc
    go (Some style) e k = (style, e)

same_style : (styles more : List Style) (p : Price) → is_price styles p ≡ true
    → slice_get (styles ++ more) (cost_unit p).0 ≡ slice_get styles (cost_unit p).0
same_style styles more p h =
    let found = style_of_price styles p h in
    slice_get-append styles more (cost_unit p).0 found.0 found.1 ∙ sym found.1

cost_stays : (styles more : List Style) (q : ℤ) (unit : Commodity) (p : Price) → IsDeclared styles unit q
    → is_price styles p ≡ true → cost (styles ++ more) q unit p ≡ cost styles q unit p
cost_stays styles more q unit p d h =
    let own = found_within styles unit.0 d.known in
    rw (same_style styles more p h, own.1, slice_get-append styles more unit.0 own.0 own.1) refl

printed_price_stays : (styles more : List Style) (p : Price) → is_price styles p ≡ true
    → printed_price (styles ++ more) p ≡ printed_price styles p
unfolding printed_price
printed_price_stays styles more p h = ap (λ (o : Option Style). printed_cost o p) (same_style styles more p h)

declared_appends : (styles : List Style) (style : Style) (answer : Result Declared Cause) → Appends styles style answer
declared_appends styles style (Ok (New unit)) = (style ∷ [], refl)
declared_appends styles style (Ok (Same unit)) = ([], sym (append-nil styles))
declared_appends styles style (Err cause) = ([], sym (append-nil styles))

pub styles_grow : StylesGrow
styles_grow = record {
  appends = declared_appends;
  stays = λ styles more. record {
    found = unit_stays styles more;
    read = amount_stays styles more;
    declared = declared_stays styles more;
    printed = printed_stays styles more;
    read_price = price_stays styles more;
    prices = λ p h. ap (λ (o : Option Style). is_cost o p) (same_style styles more p h) ∙ h;
    printed_prices = printed_price_stays styles more;
    costs = cost_stays styles more;
  };
}
