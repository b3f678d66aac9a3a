-- What is answered to a text as a price, in the words of the grammar.
use Rattle.std.proofs.Common.{◌≡◌, ◌↔◌, ◌⊎◌, ◌-◌, ◌++◌, ◌==◌, ℕ, ℤ, List, [], ◌∷◌, Bool, true, false, cond, not, ◌||◌}
use Rattle.std.proofs.Common.{drop, take, slice_index, arith, refl, ap, ◌∙◌, sym, subst, Option, Some, None, Result, Ok}
use Rattle.std.proofs.Common.{Err, IfErr, inl, inr, nat_lt}
use Rattle.std.proofs.lemmas.Grind.{common_steps}
use Rattle.std.proofs.lemmas.Bool.{cases_Bool, cases_lt, and_parts, le-ltb, ltb-false, eqb-true, false_from_ne_true}
use Rattle.std.proofs.lemmas.Bool.{both_ways, cond-true, cond-false}
use Rattle.std.specs.List.{slice_get}
use Rattle.std.specs.Prelude.{if◌then◌else◌}
use Rattle.money_core.specs.declared.class.Class.TheVariants.{Blank, Symbol, Number}
use Rattle.money_core.specs.declared.mark.Mark.{Mark}
use Rattle.money_core.specs.declared.amount.Sign.{Sign}
use Rattle.money_core.specs.declared.amount.Sign.TheVariants.{Absent, Plus, Minus}
use Rattle.money_core.specs.declared.style.Style.{Style}
use Rattle.money_core.specs.declared.unit.Unit.{Unit as Commodity}
use Rattle.money_core.specs.declared.price.Price.{Price}
use Rattle.money_core.specs.declared.price.Price.TheVariants.{Each, Total}
use Rattle.money_core.specs.declared.cause.Cause.{Cause}
use Rattle.money_core.specs.declared.cause.Cause.TheVariants.{Amount, UnknownCommodity, Cost}
use Rattle.money_core.specs.Blank.{IsBlanks}
use Rattle.money_core.specs.Class.{is_of_class}
use Rattle.money_core.specs.Number.{is_number, fraction_part, fits_decimals, quantity}
use Rattle.money_core.specs.Amount.{Parts, WritesSign, IsLeftAmount, IsAmount, limit, place_of, HasForm, HasNoForm}
use Rattle.money_core.specs.Amount.{NamesUndeclared}
use Rattle.money_core.specs.Cutting.{end_of, skip_blanks, amount_parts}
use Rattle.money_core.specs.Price.{unit_limit, is_negative, cost_unit, IsUnitCost, IsTotalCost, IsCostOf, is_total}
use Rattle.money_core.specs.Price.{IsMarkedPrice, WritesPrice, HasNoPriceForm, NamesUndeclaredCost, HasNoCost}
use Rattle.money_core.specs.PriceReading.{significant, kept_decimals, unit_cost, total_cost, price_in, price_at}
use Rattle.money_core.specs.PriceReading.{price_of_parts, price}
use Rattle.money_core.proofs.ClassLemmas.{number_no_blank}
use Rattle.money_core.proofs.AmountPrint.{past, ok_same}
use Rattle.money_core.proofs.CostDecimals.{significant_least, significant_fits}
use Rattle.money_core.proofs.GrammarLemmas.{front_whole, front_passes, blanks_skipped, symbol_begins, number_text}
use Rattle.money_core.proofs.GrammarLemmas.{first_number, amount_cut, cut_amount}
use Rattle.money_core.specs.Reading.{undeclared, amount_at, amount_of_parts, amount}
use Rattle.money_core.proofs.ReadingLemmas.{writes, malformed, unknown, further, great, says_amount, unknown_back}
use Rattle.money_core.proofs.ReadingLemmas.{declared_form}

-- what is read as a unit cost is one
unit_read : (style : Style) (place : ℕ) (parts : Parts) (p : Price)
    → unit_cost style place parts.sign parts.number ≡ Ok p
    → IsCostOf style parts p × (is_total p ≡ false) × ((cost_unit p).0 ≡ place)
unfolding unit_cost
unit_read style place parts p h =
    let f = fraction_part style.mark parts.number in
    let d = style.decimals in
    let k = kept_decimals style parts.number in
    let q = quantity style.mark k parts.number in
    let one = past (nat_lt 12 k) Cost _ p h in
    let two = past (nat_lt unit_limit q) Cost _ p one.1 in
    let three = past (is_negative parts.sign q) Cost _ p two.1 in
    let here : Price = Each (record { 0 = place }) q k in
    let same : here ≡ p = ok_same (Ok here) here p refl three.1 in
    let least : (k ≡ d) ⊎ (fits_decimals (k - 1) f ≡ false) = elim (cases_lt d (significant f)) [
      | inl more ↦ inr (false_from_ne_true (fits_decimals (k - 1) f)
          (λ fits. omega (arith, significant_least f (k - 1) fits, more)))
      | inr few ↦ inl (omega (arith, few))
    ] in
    let cost : IsUnitCost style parts q k = record {
      declared = omega arith;
      exact = significant_fits f k (omega arith);
      least = least;
      few = ltb-false 12 k one.0;
      value = refl;
      small = ltb-false unit_limit q two.0;
      no_debt = three.0;
    } in (
      subst (λ (x : Price). IsCostOf style parts x) same cost,
      subst (λ (x : Price). is_total x ≡ false) same refl,
      subst (λ (x : Price). (cost_unit x).0 ≡ place) same refl,
    )

-- what is read as a total cost is one
total_read : (style : Style) (place : ℕ) (parts : Parts) (p : Price)
    → total_cost style place parts.sign parts.number ≡ Ok p
    → IsCostOf style parts p × (is_total p ≡ true) × ((cost_unit p).0 ≡ place)
unfolding total_cost
total_read style place parts p h =
    let q = quantity style.mark style.decimals parts.number in
    let fits = fits_decimals style.decimals (fraction_part style.mark parts.number) in
    let one = past (not fits) Cost _ p h in
    let two = past (nat_lt limit q) Cost _ p one.1 in
    let three = past (is_negative parts.sign q) Cost _ p two.1 in
    let here : Price = Total (record { 0 = place }) q in
    let same : here ≡ p = ok_same (Ok here) here p refl three.1 in
    let cost : IsTotalCost style parts q =
    record { exact = true_of fits one.0; value = refl; small = ltb-false limit q two.0; no_debt = three.0 } in (
      subst (λ (x : Price). IsCostOf style parts x) same cost,
      subst (λ (x : Price). is_total x ≡ true) same refl,
      subst (λ (x : Price). (cost_unit x).0 ≡ place) same refl,
    )
  where
    true_of : (b : Bool) → not b ≡ false → b ≡ true
    true_of true h = refl
    true_of false h = absurd cc

-- the cost at a place, by the sort of price
abbrev cost_at : Bool → Style → ℕ → Parts → Result Price Cause
cost_at true style place parts = total_cost style place parts.sign parts.number
cost_at false style place parts = unit_cost style place parts.sign parts.number

cost_read : (total : Bool) (style : Style) (place : ℕ) (parts : Parts) (p : Price)
    → cost_at total style place parts ≡ Ok p → IsCostOf style parts p × (is_total p ≡ total) × ((cost_unit p).0 ≡ place)
cost_read true style place parts p h = total_read style place parts p h
cost_read false style place parts p h = unit_read style place parts p h

-- and a cost is read
cost_back : (style : Style) (parts : Parts) (p : Price) → IsCostOf style parts p
    → cost_at (is_total p) style (cost_unit p).0 parts ≡ Ok p
unfolding unit_cost total_cost
cost_back style parts (Total unit units) c = rw (c.exact, sym c.value, le-ltb limit units c.small, c.no_debt) refl
cost_back style parts (Each unit digits decimals) c =
    let f = fraction_part style.mark parts.number in
    let kept : kept_decimals style parts.number ≡ decimals = elim c.least [
      | inl same ↦ omega (arith, same, significant_least f decimals c.exact)
      | inr more ↦ elim (cases_lt (decimals - 1) (significant f)) [
        | inl above ↦ omega (arith, above, significant_least f decimals c.exact, c.declared)
        | inr below ↦ absurd (both_ways (fits_decimals (decimals - 1) f) more (significant_fits f (decimals - 1) below))
      ]
    ] in
    rw (kept, le-ltb 12 decimals c.few, sym c.value, le-ltb unit_limit digits c.small, c.no_debt) refl

-- the only fault of a cost
cost_fault : (total : Bool) (style : Style) (place : ℕ) (parts : Parts) (cause : Cause)
    → cost_at total style place parts ≡ Err cause → cost_at total style place parts ≡ Err Cost
unfolding unit_cost total_cost
cost_fault true style place parts cause h =
    three (not (fits_decimals style.decimals (fraction_part style.mark parts.number)))
    (nat_lt limit (quantity style.mark style.decimals parts.number))
    (is_negative parts.sign (quantity style.mark style.decimals parts.number)) _ h
  where
    three : (a b c : Bool) (p : Price) → cond a (Err Cost) (cond b (Err Cost) (cond c (Err Cost) (Ok p))) ≡ Err cause
        → cond a (Err Cost) (cond b (Err Cost) (cond c (Err Cost) (Ok p))) ≡ Err Cost
    three true b c p h = refl
    three false true c p h = refl
    three false false true p h = refl
    three false false false p h = absurd cc
cost_fault false style place parts cause h =
    three (nat_lt 12 (kept_decimals style parts.number))
    (nat_lt unit_limit (quantity style.mark (kept_decimals style parts.number) parts.number))
    (is_negative parts.sign (quantity style.mark (kept_decimals style parts.number) parts.number)) _ h
  where
    three : (a b c : Bool) (p : Price) → cond a (Err Cost) (cond b (Err Cost) (cond c (Err Cost) (Ok p))) ≡ Err cause
        → cond a (Err Cost) (cond b (Err Cost) (cond c (Err Cost) (Ok p))) ≡ Err Cost
    three true b c p h = refl
    three false true c p h = refl
    three false false true p h = refl
    three false false false p h = absurd cc

-- how an amount begins: with no blank and no `@`
record Begins (text : List ℕ) : Type 0 where
  no_blank : is_of_class Blank (slice_index text 0) ≡ false
  no_at : (slice_index text 0 == 64) ≡ false

symbol_no_at : (b : ℕ) → (is_of_class Symbol b || (b == 34)) ≡ true → (b == 64) ≡ false
symbol_no_at b h = grind (arith, common_steps)

pub number_no_at : (b : ℕ) → is_of_class Number b ≡ true → (b == 64) ≡ false
number_no_at b h = grind (arith, common_steps)

blank_no_at : (b : ℕ) → is_of_class Blank b ≡ true → (b == 64) ≡ false
blank_no_at b h = grind (arith, common_steps)

signed_begins : (sign : Sign) (written rest : List ℕ) → WritesSign sign written → Begins rest → Begins (written ++ rest)
signed_begins Absent written rest w b = rw w b
signed_begins Plus written rest w b = rw w.1.1 (record { no_blank = refl; no_at = refl })
signed_begins Minus written rest w b = rw w.1.1 (record { no_blank = refl; no_at = refl })

amount_begins : (mark : Mark) (text : List ℕ) (parts : Parts) → IsAmount mark text parts → Begins text
amount_begins mark text parts a =
    elim a.form [
      | inl left ↦ on_left left
      | inr right ↦
          let rest = right.blanks ++ right.symbol in
          let first = first_number parts.number rest (number_text mark parts.number a.number) in
          let byte = slice_index (parts.number ++ rest) 0 in
          rw right.whole (signed_begins parts.sign right.outer (parts.number ++ rest) right.signed
          (record { no_blank = number_no_blank byte first; no_at = number_no_at byte first }))
    ]
  where
    on_left : IsLeftAmount text parts → Begins text
    on_left left =
        let rest = left.blanks ++ (left.inner ++ parts.number) in
        let b = symbol_begins parts.symbol left.symbol rest left.symbolic in
        let body : Begins (left.symbol ++ rest) =
        record { no_blank = b.no_blank; no_at = symbol_no_at (slice_index (left.symbol ++ rest) 0) b.first } in
        elim left.signed [
          | inl before ↦ rw left.whole (signed_begins parts.sign left.outer (left.symbol ++ rest) before.0 body)
          | inr behind ↦ rw (left.whole, behind.0) body
        ]

-- what stands after the `@` or `@@`
abbrev behind_mark : List ℕ → List ℕ
behind_mark text = skip_blanks (if slice_index (drop 1 text) 0 == 64 then drop 1 (drop 1 text) else drop 1 text)

-- a price's text is cut so, and only so
record IsCutSo (total : Bool) (amount text : List ℕ) : Type 0 where
  begins : (slice_index text 0 == 64) ≡ true
  sort : (slice_index (drop 1 text) 0 == 64) ≡ total
  rest : behind_mark text ≡ amount

cut_so : (total : Bool) (amount text : List ℕ) → IsMarkedPrice total amount text → Begins amount
    → IsCutSo total amount text
cut_so true amount text p b =
    rw p.whole (record { begins = refl; sort = refl; rest = blanks_skipped p.blanks amount p.between b.no_blank })
cut_so false amount text p b =
    let other = second p.blanks p.between in
    rw p.whole (record {
      begins = refl;
      sort = other;
      rest = ap skip_blanks (cond-false (slice_index (p.blanks ++ amount) 0 == 64) _ _ other) ∙ blanks_skipped
          p.blanks amount p.between b.no_blank;
    })
  where
    second : (blanks : List ℕ) → IsBlanks blanks → (slice_index (blanks ++ amount) 0 == 64) ≡ false
    second [] h = b.no_at
    second (x ∷ xs) h = blank_no_at x (and_parts (is_of_class Blank x) _ h).0

-- the price after it
price_behind : (styles : List Style) (total : Bool) (amount text : List ℕ) → IsCutSo total amount text
    → price styles text ≡ price_of_parts styles total (amount_parts amount)
unfolding price
price_behind styles true amount text c =
    let rest : skip_blanks (drop 1 (drop 1 text)) ≡ amount =
    ap skip_blanks (sym (cond-true (slice_index (drop 1 text) 0 == 64) _ _ c.sort)) ∙ c.rest in
    rw (c.begins, c.sort, rest) refl
price_behind styles false amount text c =
    let rest : skip_blanks (drop 1 text) ≡ amount =
    ap skip_blanks (sym (cond-false (slice_index (drop 1 text) 0 == 64) _ _ c.sort)) ∙ c.rest in
    rw (c.begins, c.sort, rest) refl

-- what was cut so has the form of a price
first_at : (text : List ℕ) → (slice_index text 0 == 64) ≡ true → text ≡ 64 ∷ drop 1 text
first_at [] h = absurd cc
first_at (x ∷ xs) h = ap (λ (b : ℕ). b ∷ xs) (eqb-true x 64 h)

prices_cut : (total : Bool) (amount text : List ℕ) → IsCutSo total amount text → IsMarkedPrice total amount text
prices_cut true amount text c =
    let u = drop 1 (drop 1 text) in
    let rest : skip_blanks u ≡ amount =
    ap skip_blanks (sym (cond-true (slice_index (drop 1 text) 0 == 64) _ _ c.sort)) ∙ c.rest in
    record {
      blanks = take (end_of Blank u) u;
      between = front_passes Blank u;
      whole = first_at text c.begins ∙ ap (λ (xs : List ℕ). 64 ∷ xs)
          (first_at (drop 1 text) c.sort ∙ ap (λ (xs : List ℕ). 64 ∷ xs)
          (front_whole Blank u ∙ ap (λ (xs : List ℕ). take (end_of Blank u) u ++ xs) rest));
    }
prices_cut false amount text c =
    let u = drop 1 text in
    let rest : skip_blanks u ≡ amount = ap skip_blanks (sym (cond-false (slice_index u 0 == 64) _ _ c.sort)) ∙ c.rest in
    record {
      blanks = take (end_of Blank u) u;
      between = front_passes Blank u;
      whole = first_at text c.begins ∙ ap (λ (xs : List ℕ). 64 ∷ xs)
          (front_whole Blank u ∙ ap (λ (xs : List ℕ). take (end_of Blank u) u ++ xs) rest);
    }

prices_begin : (total : Bool) (amount text : List ℕ) → IsMarkedPrice total amount text
    → (slice_index text 0 == 64) ≡ true
prices_begin true amount text p = rw p.whole refl
prices_begin false amount text p = rw p.whole refl

-- an amount of a declared commodity is judged by its value
formed : (styles : List Style) (total : Bool) (amount : List ℕ) (parts : Parts) (place : ℕ) (style : Style)
    → place_of styles parts.symbol ≡ Some place → slice_get styles place ≡ Some style → IsAmount style.mark amount parts
    → price_of_parts styles total (amount_parts amount) ≡ cost_at total style place parts
unfolding price_of_parts
formed styles true amount parts place style at its a = rw (amount_cut style.mark amount parts a, at, its, a.number) refl
formed styles false amount parts place style at its a =
    rw (amount_cut style.mark amount parts a, at, its, a.number) refl

-- a price of the same value in another commodity
moved : ℕ → Price → Price
moved place (Each unit digits decimals) = Each (record { 0 = place }) digits decimals
moved place (Total unit units) = Total (record { 0 = place }) units

moved_back : (total : Bool) (style : Style) (place : ℕ) (parts : Parts) (p : Price) → is_total p ≡ total
    → IsCostOf style parts p → cost_at total style place parts ≡ Ok (moved place p)
unfolding moved
moved_back true style place parts (Total unit units) e c = cost_back style parts (Total (record { 0 = place }) units) c
moved_back false style place parts (Each unit digits decimals) e c =
    cost_back style parts (Each (record { 0 = place }) digits decimals) c
moved_back true style place parts (Each unit digits decimals) e c = absurd cc
moved_back false style place parts (Total unit units) e c = absurd cc

-- the four answers, each with what the text is then
pub data SaysPrice (styles : List Style) (text : List ℕ) (r : Result Price Cause) : Type 0 where
  is_priced : (p : Price) → r ≡ Ok p → WritesPrice styles text p → SaysPrice styles text r
  is_no_price : r ≡ Err Amount → HasNoPriceForm styles text → SaysPrice styles text r
  is_unknown : r ≡ Err UnknownCommodity → NamesUndeclaredCost styles text → SaysPrice styles text r
  is_no_cost : r ≡ Err Cost → HasNoCost styles text → SaysPrice styles text r

says_formed : (styles : List Style) (text : List ℕ) (total : Bool) (rest : List ℕ) (parts : Parts) (place : ℕ)
    (style : Style) → IsCutSo total rest text → place_of styles parts.symbol ≡ Some place
    → slice_get styles place ≡ Some style → IsAmount style.mark rest parts
    → SaysPrice styles text (price styles text)
says_formed styles text total rest parts place style c at its a = go (cost_at total style place parts) refl
  where
    reads : price styles text ≡ cost_at total style place parts
    reads = price_behind styles total rest text c ∙ formed styles total rest parts place style at its a

    go : (r : Result Price Cause) → cost_at total style place parts ≡ r → SaysPrice styles text (price styles text)
    go (Ok p) e =
        let read = cost_read total style place parts p e in
        is_priced p (reads ∙ e) (record {
          amount = rest;
          marked = subst (λ (b : Bool). IsMarkedPrice b rest text) (sym read.1) (prices_cut total rest text c);
          parts = parts;
          style = style;
          declared = at ∙ ap (λ (n : ℕ). Some n) (sym read.2);
          its_style = ap (slice_get styles) read.2 ∙ its;
          form = a;
          value = read.0;
        })
    go (Err cause) e =
        is_no_cost (reads ∙ cost_fault total style place parts cause e) (record {
          total = total;
          amount = rest;
          marked = prices_cut total rest text c;
          parts = parts;
          place = place;
          style = style;
          declared = at;
          its_style = its;
          form = a;
          no_cost = λ p t k. let back = moved_back total style place parts p t k in cc;
        })

abbrev amount_fault : Cause → Result (Commodity × ℤ) Cause
amount_fault cause = Err cause

abbrev price_fault : Cause → Result Price Cause
price_fault cause = Err cause

-- where the amount has no form, the price has none
no_form_parts : (styles : List Style) (total : Bool) (rest : List ℕ) → amount styles rest ≡ Err Amount
    → HasNoForm styles rest → price_of_parts styles total (amount_parts rest) ≡ Err Amount
unfolding amount_of_parts price_of_parts
no_form_parts styles total rest e none = of_some (amount_parts rest) refl e
  where
    of_style : (parts : Parts) (place : ℕ) (o : Option Style) → amount_parts rest ≡ Some parts
        → place_of styles parts.symbol ≡ Some place → slice_get styles place ≡ o
        → price_in total parts place o ≡ Err Amount
    of_style parts place None e at its = refl
    of_style parts place (Some style) e at its =
        elim (cases_Bool (is_number style.mark parts.number)) [
          | inl right ↦ absurd (none parts
              (declared_form styles rest parts place style at its (cut_amount style.mark rest parts e right)))
          | inr wrong ↦ rw wrong refl
        ]

    fault_same : (x y : Cause) → amount_fault x ≡ amount_fault y → price_fault x ≡ price_fault y
    fault_same x y h = let s : x ≡ y = cc in ap price_fault s

    of_place : (parts : Parts) (o : Option ℕ) → amount_parts rest ≡ Some parts → place_of styles parts.symbol ≡ o
        → amount_at styles parts o ≡ Err Amount → price_at styles total parts o ≡ Err Amount
    of_place parts None e at h = fault_same (undeclared parts.number) Amount h
    of_place parts (Some place) e at h = of_style parts place (slice_get styles place) e at refl

    of_some : (o : Option Parts) → amount_parts rest ≡ o → amount_of_parts styles o ≡ Err Amount
        → price_of_parts styles total o ≡ Err Amount
    of_some None e h = refl
    of_some (Some parts) e h = of_place parts (place_of styles parts.symbol) e refl h

unknown_parts : (styles : List Style) (total : Bool) (rest : List ℕ) → amount styles rest ≡ Err UnknownCommodity
    → NamesUndeclared styles rest → price_of_parts styles total (amount_parts rest) ≡ Err UnknownCommodity
unfolding amount_of_parts price_of_parts
unknown_parts styles total rest e w =
    let cut = amount_cut w.form.mark rest w.parts w.form.amount in
    let fault = rw (cut, w.undeclared) at e in
    rw (cut, w.undeclared) (fault_same (undeclared w.parts.number) UnknownCommodity fault)
  where
    fault_same : (x y : Cause) → amount_fault x ≡ amount_fault y → price_fault x ≡ price_fault y
    fault_same x y h = let s : x ≡ y = cc in ap price_fault s

says_behind : (styles : List Style) (text : List ℕ) (total : Bool) (rest : List ℕ) → IsCutSo total rest text
    → SaysPrice styles text (price styles text)
says_behind styles text total rest c =
    let reads = price_behind styles total rest text c in
    elim (says_amount styles rest) [
      | writes place units e w ↦ says_formed styles text total rest w.parts place w.style c w.declared w.its_style
          w.amount
      | malformed e none ↦ is_no_price (reads ∙ no_form_parts styles total rest e none) (λ other amount p parts f.
          let cut = cut_so other amount text p (amount_begins f.mark amount parts f.amount) in
          none parts (subst (λ (a : List ℕ). HasForm styles a parts) (sym cut.rest ∙ c.rest) f))
      | unknown e w ↦ is_unknown (reads ∙ unknown_parts styles total rest e w)
          (record { total = total; amount = rest; marked = prices_cut total rest text c; undeclared = w })
      | further e w ↦ says_formed styles text total rest w.parts w.place w.style c w.declared w.its_style w.amount
      | great e w ↦ says_formed styles text total rest w.parts w.place w.style c w.declared w.its_style w.amount
    ]

-- The answer is one of the four.
pub says_price : (styles : List Style) (text : List ℕ) → SaysPrice styles text (price styles text)
unfolding price
says_price styles text =
    elim (cases_Bool (slice_index text 0 == 64)) [
      | inr wrong ↦ is_no_price (rw wrong refl)
          (λ total amount p parts f. both_ways (slice_index text 0 == 64) wrong (prices_begin total amount text p))
      | inl right ↦ says_behind styles text (slice_index (drop 1 text) 0 == 64) (behind_mark text)
          (record { begins = right; sort = refl; rest = refl })
    ]

-- and what a text is gives the answer
costs_back : (styles : List Style) (text : List ℕ) (p : Price) → WritesPrice styles text p → price styles text ≡ Ok p
costs_back styles text p w =
    let cut = cut_so (is_total p) w.amount text w.marked (amount_begins w.style.mark w.amount w.parts w.form) in
    price_behind styles (is_total p) w.amount text cut ∙
    (formed styles (is_total p) w.amount w.parts (cost_unit p).0 w.style w.declared w.its_style w.form ∙ cost_back
    w.style w.parts p w.value)

costless_back : (styles : List Style) (text : List ℕ) → HasNoCost styles text → price styles text ≡ Err Cost
costless_back styles text w = reads ∙ go (cost_at w.total w.style w.place w.parts) refl
  where
    reads : price styles text ≡ cost_at w.total w.style w.place w.parts
    reads =
        let cut = cut_so w.total w.amount text w.marked (amount_begins w.style.mark w.amount w.parts w.form) in
        price_behind styles w.total w.amount text cut ∙ formed styles w.total w.amount w.parts w.place w.style
        w.declared w.its_style w.form

    go : (r : Result Price Cause) → cost_at w.total w.style w.place w.parts ≡ r
        → cost_at w.total w.style w.place w.parts ≡ Err Cost
    go (Ok p) e = let read = cost_read w.total w.style w.place w.parts p e in absurd (w.no_cost p read.1 read.0)
    go (Err cause) e = cost_fault w.total w.style w.place w.parts cause e

undeclared_back : (styles : List Style) (text : List ℕ) → NamesUndeclaredCost styles text
    → price styles text ≡ Err UnknownCommodity
undeclared_back styles text w =
    let u = w.undeclared in
    let cut = cut_so w.total w.amount text w.marked (amount_begins u.form.mark w.amount u.parts u.form.amount) in
    price_behind styles w.total w.amount text cut ∙ unknown_parts styles w.total w.amount
    (unknown_back styles w.amount u) u

formless_back : (styles : List Style) (text : List ℕ) → HasNoPriceForm styles text → price styles text ≡ Err Amount
formless_back styles text none =
    elim (says_price styles text) [
      | is_priced p e w ↦ absurd (none (is_total p) w.amount w.marked w.parts
          (declared_form styles w.amount w.parts (cost_unit p).0 w.style w.declared w.its_style w.form))
      | is_no_price e w ↦ e
      | is_unknown e w ↦ absurd (none w.total w.amount w.marked w.undeclared.parts w.undeclared.form)
      | is_no_cost e w ↦ absurd (none w.total w.amount w.marked w.parts
          (declared_form styles w.amount w.parts w.place w.style w.declared w.its_style w.form))
    ]

same_price : (r : Result Price Cause) (x y : Price) → r ≡ Ok x → r ≡ Ok y → x ≡ y
same_price r x y h k = cc

same_fault : (r : Result Price Cause) (x y : Cause) → r ≡ Err x → r ≡ Err y → x ≡ y
same_fault r x y h k = cc

not_both : (r : Result Price Cause) (x : Price) (y : Cause) → r ≡ Ok x → r ≡ Err y → ⊥
not_both r x y h k = cc

says : (styles : List Style) (text : List ℕ) (r : Result Price Cause) → r ≡ price styles text → SaysPrice styles text r
says styles text r e = subst (SaysPrice styles text) (sym e) (says_price styles text)

pub price_reads_iff : (styles : List Style) (text : List ℕ) (r : Result Price Cause) → r ≡ price styles text
    → (p : Price) → (r ≡ Ok p) ↔ WritesPrice styles text p
price_reads_iff styles text r e p = (λ h. to (says styles text r e) h, λ w. e ∙ costs_back styles text p w)
  where
    to : SaysPrice styles text r → r ≡ Ok p → WritesPrice styles text p
    to (is_priced o k w) h = subst (WritesPrice styles text) (same_price r o p k h) w
    to (is_no_price k w) h = absurd (not_both r p Amount h k)
    to (is_unknown k w) h = absurd (not_both r p UnknownCommodity h k)
    to (is_no_cost k w) h = absurd (not_both r p Cost h k)

pub price_form_iff : (styles : List Style) (text : List ℕ) (r : Result Price Cause) → r ≡ price styles text
    → (r ≡ Err Amount) ↔ HasNoPriceForm styles text
price_form_iff styles text r e = (λ h. to (says styles text r e) h, λ w. e ∙ formless_back styles text w)
  where
    to : SaysPrice styles text r → r ≡ Err Amount → HasNoPriceForm styles text
    to (is_priced o k w) h = absurd (not_both r o Amount k h)
    to (is_no_price k w) h = w
    to (is_unknown k w) h = absurd (let s = same_fault r Amount UnknownCommodity h k in cc)
    to (is_no_cost k w) h = absurd (let s = same_fault r Amount Cost h k in cc)

pub price_unknown_iff : (styles : List Style) (text : List ℕ) (r : Result Price Cause) → r ≡ price styles text
    → (r ≡ Err UnknownCommodity) ↔ NamesUndeclaredCost styles text
price_unknown_iff styles text r e = (λ h. to (says styles text r e) h, λ w. e ∙ undeclared_back styles text w)
  where
    to : SaysPrice styles text r → r ≡ Err UnknownCommodity → NamesUndeclaredCost styles text
    to (is_priced o k w) h = absurd (not_both r o UnknownCommodity k h)
    to (is_no_price k w) h = absurd (let s = same_fault r UnknownCommodity Amount h k in cc)
    to (is_unknown k w) h = w
    to (is_no_cost k w) h = absurd (let s = same_fault r UnknownCommodity Cost h k in cc)

pub price_cost_iff : (styles : List Style) (text : List ℕ) (r : Result Price Cause) → r ≡ price styles text
    → (r ≡ Err Cost) ↔ HasNoCost styles text
price_cost_iff styles text r e = (λ h. to (says styles text r e) h, λ w. e ∙ costless_back styles text w)
  where
    to : SaysPrice styles text r → r ≡ Err Cost → HasNoCost styles text
    to (is_priced o k w) h = absurd (not_both r o Cost k h)
    to (is_no_price k w) h = absurd (let s = same_fault r Cost Amount h k in cc)
    to (is_unknown k w) h = absurd (let s = same_fault r Cost UnknownCommodity h k in cc)
    to (is_no_cost k w) h = w

pub one_price_cause : (styles : List Style) (text : List ℕ) (r : Result Price Cause) → r ≡ price styles text
    → IfErr r (λ cause. (cause ≡ Amount) ⊎ (cause ≡ UnknownCommodity) ⊎ (cause ≡ Cost))
one_price_cause styles text r e = go (says styles text r e)
  where
    go : SaysPrice styles text r → IfErr r (λ cause. (cause ≡ Amount) ⊎ (cause ≡ UnknownCommodity) ⊎ (cause ≡ Cost))
    go (is_priced o k w) = rw k tt
    go (is_no_price k w) = rw k (inl refl)
    go (is_unknown k w) = rw k (inr (inl refl))
    go (is_no_cost k w) = rw k (inr (inr refl))
