-- Printed prices read as themselves, and what is read can be printed. Proofs of crates above may cite `prices_print`
-- and `prices_bound`.
use Rattle.std.proofs.Common.{◌≡◌, ◌≤◌, ◌==◌, ℕ, pos, List, [], ◌∷◌, Bool, true, false, cond, not, drop, slice_index}
use Rattle.std.proofs.Common.{arith, refl, ap, ◌∙◌, subst, Option, Some, None, Result, Ok, Err, IfOk, nat_lt}
use Rattle.std.proofs.lemmas.Bool.{and_from, le-ltb, le-leb, ltb-false, leb-true}
use Rattle.std.specs.List.{slice_get}
use Rattle.money_core.specs.declared.class.Class.TheVariants.{Blank}
use Rattle.money_core.specs.declared.amount.Sign.{Sign}
use Rattle.money_core.specs.declared.style.Style.{Style}
use Rattle.money_core.specs.declared.unit.Unit.{Unit as Commodity}
use Rattle.money_core.specs.declared.price.Price.{Price}
use Rattle.money_core.specs.declared.price.Price.TheVariants.{Each, Total}
use Rattle.money_core.specs.declared.cause.Cause.TheVariants.{Amount, Cost}
use Rattle.money_core.specs.Class.{is_of_class}
use Rattle.money_core.specs.Number.{is_number, fits_decimals, fraction_part, quantity}
use Rattle.money_core.specs.Printed.{printed_number}
use Rattle.money_core.specs.Amount.{Parts, limit, place_of}
use Rattle.money_core.specs.Cutting.{skip_blanks, amount_parts}
use Rattle.money_core.specs.Style.{AreStyles}
use Rattle.money_core.specs.AmountText.{printed_with}
use Rattle.money_core.specs.Price.{unit_limit, is_negative, cost_unit, is_cost, is_price}
use Rattle.money_core.specs.PriceReading.{kept_decimals, unit_cost, total_cost, price_in, price_at, price_of_parts}
use Rattle.money_core.specs.PriceReading.{price}
use Rattle.money_core.specs.PriceText.{printed_cost, printed_price, IsPriceText, PricesPrint, PricesBound}
use Rattle.money_core.proofs.Utf8Lemmas.{utf8_joined, utf8_low}
use Rattle.money_core.proofs.RoundTrip.{printed_reads}
use Rattle.money_core.proofs.AmountParts.{printed_parts}
use Rattle.money_core.proofs.GrammarLemmas.{blanks_skipped}
use Rattle.money_core.proofs.AmountPrint.{amount_ends, last_of, past, ok_same}
use Rattle.money_core.proofs.CostDecimals.{kept_is_kept, kept_again}
use Rattle.money_core.proofs.StyleLemmas.{style_facts}
use Rattle.money_core.proofs.PriceFacts.{EachFacts, each_facts}

-- A printed unit cost reads as itself.
each_reads : (styles : List Style) (unit : Commodity) (digits decimals : ℕ) (style : Style) → AreStyles styles
    → slice_get styles unit.0 ≡ Some style → EachFacts style digits decimals
    → price_of_parts styles false (amount_parts (printed_with style decimals (pos digits)))
    ≡ Ok (Each unit digits decimals)
unfolding price_of_parts unit_cost
each_reads styles unit digits decimals style ok at facts =
    let number = printed_number style.mark style.grouped decimals digits in
    let writes = printed_reads style.mark style.grouped decimals digits (omega (arith, facts.small)) in
    let same = kept_again style number decimals facts.declared writes.decimals_fit (rw writes.value facts.kept) in
    rw (
      printed_parts style decimals (pos digits) (style_facts styles unit.0 style ok at).symbolic
          (omega (arith, facts.small)),
      ok.found unit.0 style at,
      at,
      writes.form,
      same,
      le-ltb 12 decimals facts.few,
      writes.value,
      le-ltb unit_limit digits facts.small,
    ) refl

-- A printed total cost reads as itself.
total_reads : (styles : List Style) (unit : Commodity) (q : ℕ) (style : Style) → AreStyles styles
    → slice_get styles unit.0 ≡ Some style → q ≤ limit
    → price_of_parts styles true (amount_parts (printed_with style style.decimals (pos q))) ≡ Ok (Total unit q)
unfolding price_of_parts total_cost
total_reads styles unit q style ok at l =
    let writes = printed_reads style.mark style.grouped style.decimals q (omega arith) in
    rw (
      printed_parts style style.decimals (pos q) (style_facts styles unit.0 style ok at).symbolic l,
      ok.found unit.0 style at,
      at,
      writes.form,
      writes.decimals_fit,
      writes.value,
      le-ltb limit q l,
    ) refl

-- after `@ ` and `@@ `
behind_one : (styles : List Style) (rest : List ℕ) → is_of_class Blank (slice_index rest 0) ≡ false
    → price styles (64 ∷ 32 ∷ rest) ≡ price_of_parts styles false (amount_parts rest)
unfolding price
behind_one styles rest h =
    ap (λ (xs : List ℕ). price_of_parts styles false (amount_parts xs)) (blanks_skipped (32 ∷ []) rest refl h)

behind_two : (styles : List Style) (rest : List ℕ) → is_of_class Blank (slice_index rest 0) ≡ false
    → price styles (64 ∷ 64 ∷ 32 ∷ rest) ≡ price_of_parts styles true (amount_parts rest)
unfolding price
behind_two styles rest h =
    ap (λ (xs : List ℕ). price_of_parts styles true (amount_parts xs)) (blanks_skipped (32 ∷ []) rest refl h)

-- the facts of a printed price, its style found
price_text_is : (styles : List Style) (p : Price) (style : Style) → AreStyles styles
    → slice_get styles (cost_unit p).0 ≡ Some style → is_cost (Some style) p ≡ true
    → IsPriceText styles p (printed_cost (Some style) p)
price_text_is styles (Each unit digits decimals) style ok at h =
    let facts = each_facts style unit digits decimals h in
    let rest = printed_with style decimals (pos digits) in
    let ends = amount_ends style decimals (pos digits) (style_facts styles unit.0 style ok at).symbolic
    (omega (arith, facts.small)) in
    record {
      utf8 = utf8_joined (64 ∷ 32 ∷ []) rest (utf8_low (64 ∷ 32 ∷ []) refl) ends.utf8;
      reads = behind_one styles rest ends.first ∙ each_reads styles unit digits decimals style ok at facts;
      rest = rest;
      whole = refl;
      form = ends.form;
      first = ends.first;
      last = ap (is_of_class Blank) (last_of (64 ∷ 32 ∷ []) rest ends.some) ∙ ends.last;
      short = omega (arith, ends.short, facts.few);
    }
price_text_is styles (Total unit q) style ok at h =
    let l : q ≤ limit = leb-true q limit h in
    let rest = printed_with style style.decimals (pos q) in
    let known = style_facts styles unit.0 style ok at in
    let ends = amount_ends style style.decimals (pos q) known.symbolic l in
    record {
      utf8 = utf8_joined (64 ∷ 64 ∷ 32 ∷ []) rest (utf8_low (64 ∷ 64 ∷ 32 ∷ []) refl) ends.utf8;
      reads = behind_two styles rest ends.first ∙ total_reads styles unit q style ok at l;
      rest = rest;
      whole = refl;
      form = ends.form;
      first = ends.first;
      last = ap (is_of_class Blank) (last_of (64 ∷ 64 ∷ 32 ∷ []) rest ends.some) ∙ ends.last;
      short = omega (arith, ends.short, known.few);
    }

-- Each price of declared commodities is printed as a text that reads as it.
pub prices_print : (styles : List Style) → AreStyles styles → PricesPrint styles
unfolding printed_price
prices_print styles ok p h = go (slice_get styles (cost_unit p).0) refl h
  where
    go : (o : Option Style) → slice_get styles (cost_unit p).0 ≡ o → is_cost o p ≡ true
        → IsPriceText styles p (printed_cost o p)
    go None e k = absurd cc
    go (Some style) e k = price_text_is styles p style ok e k

-- what is read as a unit cost
unit_cost_is : (style : Style) (place : ℕ) (sign : Sign) (number : List ℕ) (p : Price)
    → is_number style.mark number ≡ true → unit_cost style place sign number ≡ Ok p
    → (is_cost (Some style) p ≡ true) × ((cost_unit p).0 ≡ place)
unfolding unit_cost
unit_cost_is style place sign number p form h =
    let k = kept_decimals style number in
    let q = quantity style.mark k number in
    let one = past (nat_lt 12 k) Cost _ p h in
    let two = past (nat_lt unit_limit q) Cost _ p one.1 in
    let three = past (is_negative sign q) Cost _ p two.1 in
    let here : Price = Each (record { 0 = place }) q k in
    let same : here ≡ p = ok_same (Ok here) here p refl three.1 in
    let good : is_cost (Some style) here ≡ true =
    and_from _ _ (and_from _ _ (and_from _ _ (le-leb style.decimals k (omega arith))
    (le-leb k 12 (ltb-false 12 k one.0))) (le-leb q unit_limit (ltb-false unit_limit q two.0)))
    (kept_is_kept style number form) in (
      subst (λ (x : Price). is_cost (Some style) x ≡ true) same good,
      subst (λ (x : Price). (cost_unit x).0 ≡ place) same refl,
    )

-- what is read as a total cost
total_cost_is : (style : Style) (place : ℕ) (sign : Sign) (number : List ℕ) (p : Price)
    → total_cost style place sign number ≡ Ok p → (is_cost (Some style) p ≡ true) × ((cost_unit p).0 ≡ place)
unfolding total_cost
total_cost_is style place sign number p h =
    let q = quantity style.mark style.decimals number in
    let one = past (not (fits_decimals style.decimals (fraction_part style.mark number))) Cost _ p h in
    let two = past (nat_lt limit q) Cost _ p one.1 in
    let three = past (is_negative sign q) Cost _ p two.1 in
    let here : Price = Total (record { 0 = place }) q in
    let same : here ≡ p = ok_same (Ok here) here p refl three.1 in (
      subst (λ (x : Price). is_cost (Some style) x ≡ true) same (le-leb q limit (ltb-false limit q two.0)),
      subst (λ (x : Price). (cost_unit x).0 ≡ place) same refl,
    )

-- What is read from parts is a price.
pub parts_bound : (styles : List Style) (total : Bool) (o : Option Parts) (p : Price)
    → price_of_parts styles total o ≡ Ok p → is_price styles p ≡ true
unfolding price_of_parts
parts_bound styles total None p h = absurd cc
parts_bound styles total (Some parts) p h = of_found (place_of styles parts.symbol) h
  where
    found : (place : ℕ) (style : Style) → slice_get styles place ≡ Some style
        → (is_cost (Some style) p ≡ true) × ((cost_unit p).0 ≡ place) → is_price styles p ≡ true
    found place style at good = rw (good.1, at) good.0

    of_style : (total : Bool) (place : ℕ) (o : Option Style) → slice_get styles place ≡ o
        → price_in total parts place o ≡ Ok p → is_price styles p ≡ true
    of_style total place None at k = absurd cc
    of_style true place (Some style) at k =
        let one = past (not (is_number style.mark parts.number)) Amount _ p k in
        found place style at (total_cost_is style place parts.sign parts.number p one.1)
    of_style false place (Some style) at k =
        let one = past (not (is_number style.mark parts.number)) Amount _ p k in
        found place style at (unit_cost_is style place parts.sign parts.number p
        (true_of (is_number style.mark parts.number) one.0) one.1)
      where
        true_of : (b : Bool) → not b ≡ false → b ≡ true
        true_of true h = refl
        true_of false h = absurd cc

    of_found : (o : Option ℕ) → price_at styles total parts o ≡ Ok p → is_price styles p ≡ true
    of_found None k = absurd cc
    of_found (Some place) k = of_style total place (slice_get styles place) refl k

-- What is read is a price.
pub prices_bound : (styles : List Style) → PricesBound styles
unfolding price
prices_bound styles text p h =
    let one = past (not (slice_index text 0 == 64)) Amount _ p h in
    either (slice_index (drop 1 text) 0 == 64) (amount_parts (skip_blanks (drop 1 (drop 1 text))))
    (amount_parts (skip_blanks (drop 1 text))) one.1
  where
    either : (b : Bool) (two one : Option Parts)
        → cond b (price_of_parts styles true two) (price_of_parts styles false one) ≡ Ok p → is_price styles p ≡ true
    either true two one k = parts_bound styles true two p k
    either false two one k = parts_bound styles false one p k

-- what holds of each value of a result
pub if_ok : {T E : Type 0} (r : Result T E) (P : T → Type 0) → ((x : T) → r ≡ Ok x → P x) → IfOk r P
if_ok (Ok x) P f = f x refl
if_ok (Err e) P f = tt
