-- What is answered to a text, in the words of the grammar.
use Rattle.std.proofs.Common.{◌≡◌, ◌↔◌, ◌⊎◌, ◌<◌, ℕ, zero, suc, ℤ, List, [], ◌∷◌, true, false, ◌||◌, length, arith}
use Rattle.std.proofs.Common.{refl, ap, ◌∙◌, sym, subst, Option, Some, None, Result, Ok, Err, IfErr, inl, inr, nat_lt}
use Rattle.std.proofs.lemmas.Bool.{cases_Bool, lt-ltb, le-ltb, ltb-true, ltb-false, or_left, or_right, or_cases}
use Rattle.std.proofs.lemmas.Bool.{or_parts, both_ways}
use Rattle.std.proofs.lemmas.List.Quantifiers.{position-Some}
use Rattle.std.specs.Prelude.{slice_get}
use Rattle.std.specs.Str.{bytes_eq}
use Rattle.money_core.specs.declared.mark.Mark.{Mark}
use Rattle.money_core.specs.declared.mark.Mark.TheVariants.{Point, Comma}
use Rattle.money_core.specs.declared.style.Style.{Style}
use Rattle.money_core.specs.declared.unit.Unit.{Unit as Commodity}
use Rattle.money_core.specs.declared.cause.Cause.{Cause}
use Rattle.money_core.specs.declared.cause.Cause.TheVariants.{Amount, UnknownCommodity, Decimals}
use Rattle.money_core.specs.Number.{is_number, fraction_part, fits_decimals, quantity}
use Rattle.money_core.specs.Amount.{Parts, IsAmount, limit, with_sign, place_of, WritesAmount, HasForm, HasNoForm}
use Rattle.money_core.specs.Amount.{NamesUndeclared, HasFurtherDecimals, IsOverLimit}
use Rattle.money_core.specs.Cutting.{amount_parts}
use Rattle.money_core.specs.Reading.{quantity_in, with_unit, undeclared, amount_in, amount_at, amount_of_parts, amount}
use Rattle.money_core.proofs.GrammarLemmas.{amount_cut, cut_amount}

-- the five answers, each with what the text is then
pub data Says (styles : List Style) (text : List ℕ) (r : Result (Commodity × ℤ) Cause) : Type 0 where
  writes : (place : ℕ) (units : ℤ) → r ≡ Ok (record { 0 = place }, units) → WritesAmount styles text place units
      → Says styles text r
  malformed : r ≡ Err Amount → HasNoForm styles text → Says styles text r
  unknown : r ≡ Err UnknownCommodity → NamesUndeclared styles text → Says styles text r
  further : r ≡ Err Decimals → HasFurtherDecimals styles text → Says styles text r
  great : r ≡ Err Amount → IsOverLimit styles text → Says styles text r

-- a text has one form
one_form : (mark : Mark) (text : List ℕ) (parts other : Parts) → amount_parts text ≡ Some parts
    → IsAmount mark text other → is_number mark parts.number ≡ true
one_form mark text parts other e a =
    let same : other ≡ parts = let k = amount_cut mark text other a in cc in
    subst (λ (p : Parts). is_number mark p.number ≡ true) same a.number

-- a place that was found holds a style
found_inside : (styles : List Style) (i : ℕ) → i < length styles → slice_get styles i ≡ None → ⊥
found_inside [] i h e = omega arith
found_inside (x ∷ xs) zero h e = cc
found_inside (x ∷ xs) (suc i) h e = found_inside xs i (omega arith) e

place_held : (styles : List Style) (symbol : List ℕ) (place : ℕ) → place_of styles symbol ≡ Some place
    → slice_get styles place ≡ None → ⊥
place_held [] symbol place h k = cc
place_held (x ∷ xs) symbol place h k =
    found_inside (x ∷ xs) place (position-Some (λ style. bytes_eq style.symbol symbol) (x ∷ xs) place x h).0 k

says_of_style : (styles : List Style) (text : List ℕ) (parts : Parts) (place : ℕ) (style : Style)
    → amount_parts text ≡ Some parts → place_of styles parts.symbol ≡ Some place → slice_get styles place ≡ Some style
    → Says styles text (with_unit place (quantity_in style parts.sign parts.number))
unfolding quantity_in
says_of_style styles text parts place style e at its =
    let n = quantity style.mark style.decimals parts.number in
    elim (cases_Bool (is_number style.mark parts.number)) [
      | inr wrong ↦ rw wrong (malformed refl
          (λ other f. both_ways (is_number style.mark parts.number) wrong (no_other other f)))
      | inl form ↦
          let amount = cut_amount style.mark text parts e form in
          elim (cases_Bool (fits_decimals style.decimals (fraction_part style.mark parts.number))) [
            | inr more ↦ rw (form, more) (further refl
                (record {
                  parts = parts;
                  place = place;
                  style = style;
                  declared = at;
                  its_style = its;
                  amount = amount;
                  further = more;
                }))
            | inl exact ↦ elim (cases_Bool (nat_lt limit n)) [
              | inl large ↦ rw (form, exact, large)
                  (great refl (record {
                    parts = parts;
                    place = place;
                    style = style;
                    declared = at;
                    its_style = its;
                    amount = amount;
                    exact = exact;
                    great = ltb-true limit n large;
                  }))
              | inr small ↦ rw (form, exact, small)
                  (writes place (with_sign parts.sign n) refl
                  (record {
                    parts = parts;
                    style = style;
                    declared = at;
                    its_style = its;
                    amount = amount;
                    exact = exact;
                    small = ltb-false limit n small;
                    value = refl;
                  }))
            ]
          ]
    ]
  where
    no_other : (other : Parts) → HasForm styles text other → is_number style.mark parts.number ≡ true
    no_other other f =
        let same : other ≡ parts = let k = amount_cut f.mark text other f.amount in cc in
        let declared = ap (λ (p : Parts). place_of styles p.symbol) same ∙ at in
        let mark = f.its_mark place style declared its in
        subst (λ (m : Mark). is_number m parts.number ≡ true) mark (one_form f.mark text parts other e f.amount)

says_of_place : (styles : List Style) (text : List ℕ) (parts : Parts) (place : ℕ) → amount_parts text ≡ Some parts
    → place_of styles parts.symbol ≡ Some place → Says styles text (amount_in parts place (slice_get styles place))
says_of_place styles text parts place e at = go (slice_get styles place) refl
  where
    go : (o : Option Style) → slice_get styles place ≡ o → Says styles text (amount_in parts place o)
    go None k = absurd (place_held styles parts.symbol place at k)
    go (Some style) k = says_of_style styles text parts place style e at k

says_undeclared : (styles : List Style) (text : List ℕ) (parts : Parts) → amount_parts text ≡ Some parts
    → place_of styles parts.symbol ≡ None → Says styles text (Err (undeclared parts.number))
says_undeclared styles text parts e at =
    elim (cases_Bool (is_number Point parts.number || is_number Comma parts.number)) [
      | inl right ↦ rw right (unknown refl
          (elim (or_cases (is_number Point parts.number) (is_number Comma parts.number) right) [
            | inl point ↦ named Point point
            | inr comma ↦ named Comma comma
          ]))
      | inr wrong ↦ rw wrong (malformed refl
          (λ other f. neither f.mark (or_parts (is_number Point parts.number) (is_number Comma parts.number) wrong)
          (one_form f.mark text parts other e f.amount)))
    ]
  where
    named : (mark : Mark) → is_number mark parts.number ≡ true → NamesUndeclared styles text
    named mark n = record {
      parts = parts;
      form = record {
        mark = mark;
        amount = cut_amount mark text parts e n;
        its_mark = λ place style k l.
            absurd (let j : None ≡ Some place = sym at ∙ k in cc);
      };
      undeclared = at;
    }

    neither : (mark : Mark) → (is_number Point parts.number ≡ false) × (is_number Comma parts.number ≡ false)
        → is_number mark parts.number ≡ true → ⊥
    neither Point h k = both_ways (is_number Point parts.number) h.0 k
    neither Comma h k = both_ways (is_number Comma parts.number) h.1 k

-- The answer is one of the five.
pub says_amount : (styles : List Style) (text : List ℕ) → Says styles text (amount styles text)
unfolding amount_of_parts
says_amount styles text = go (amount_parts text) refl
  where
    at : (parts : Parts) (o : Option ℕ) → amount_parts text ≡ Some parts → place_of styles parts.symbol ≡ o
        → Says styles text (amount_at styles parts o)
    at parts None e k = says_undeclared styles text parts e k
    at parts (Some place) e k = says_of_place styles text parts place e k

    go : (o : Option Parts) → amount_parts text ≡ o → Says styles text (amount_of_parts styles o)
    go None e = malformed refl (λ parts f. let k = amount_cut f.mark text parts f.amount in cc)
    go (Some parts) e = at parts (place_of styles parts.symbol) e refl

-- and what a text is gives the answer
writes_back : (styles : List Style) (text : List ℕ) (place : ℕ) (units : ℤ) → WritesAmount styles text place units
    → amount styles text ≡ Ok (record { 0 = place }, units)
unfolding amount_of_parts quantity_in
writes_back styles text place units w =
    let n = quantity w.style.mark w.style.decimals w.parts.number in
    rw (
      amount_cut w.style.mark text w.parts w.amount,
      w.declared,
      w.its_style,
      w.amount.number,
      w.exact,
      le-ltb limit n w.small,
      w.value,
    ) refl

pub unknown_back : (styles : List Style) (text : List ℕ) → NamesUndeclared styles text
    → amount styles text ≡ Err UnknownCommodity
unfolding amount_of_parts
unknown_back styles text w =
    rw (amount_cut w.form.mark text w.parts w.form.amount, w.undeclared, right w.form.mark w.form.amount.number) refl
  where
    right : (mark : Mark) → is_number mark w.parts.number ≡ true
        → (is_number Point w.parts.number || is_number Comma w.parts.number) ≡ true
    right Point h = or_left (is_number Point w.parts.number) (is_number Comma w.parts.number) h
    right Comma h = or_right (is_number Point w.parts.number) (is_number Comma w.parts.number) h

further_back : (styles : List Style) (text : List ℕ) → HasFurtherDecimals styles text
    → amount styles text ≡ Err Decimals
unfolding amount_of_parts quantity_in
further_back styles text w =
    rw (amount_cut w.style.mark text w.parts w.amount, w.declared, w.its_style, w.amount.number, w.further) refl

great_back : (styles : List Style) (text : List ℕ) → IsOverLimit styles text → amount styles text ≡ Err Amount
unfolding amount_of_parts quantity_in
great_back styles text w = rw (
  amount_cut w.style.mark text w.parts w.amount,
  w.declared,
  w.its_style,
  w.amount.number,
  w.exact,
  lt-ltb limit (quantity w.style.mark w.style.decimals w.parts.number) w.great,
) refl

-- an amount of a declared commodity has the form
pub declared_form : (styles : List Style) (text : List ℕ) (parts : Parts) (place : ℕ) (style : Style)
    → place_of styles parts.symbol ≡ Some place → slice_get styles place ≡ Some style → IsAmount style.mark text parts
    → HasForm styles text parts
declared_form styles text parts place style at its a = record {
  mark = style.mark;
  amount = a;
  its_mark = λ i s k l.
      let same : place ≡ i = let j : Some place ≡ Some i = sym at ∙ k in cc in
      let there : Some style ≡ Some s = sym its ∙ (ap (slice_get styles) same ∙ l) in
      let e : style ≡ s = cc in
      ap (λ (t : Style). t.mark) e;
}

malformed_back : (styles : List Style) (text : List ℕ) → HasNoForm styles text → amount styles text ≡ Err Amount
malformed_back styles text none =
    elim (says_amount styles text) [
      | writes place units e w ↦ absurd
          (none w.parts (declared_form styles text w.parts place w.style w.declared w.its_style w.amount))
      | malformed e w ↦ e
      | unknown e w ↦ absurd (none w.parts w.form)
      | further e w ↦ absurd (none w.parts
          (declared_form styles text w.parts w.place w.style w.declared w.its_style w.amount))
      | great e w ↦ e
    ]

same_value : {A E : Type 0} (r : Result A E) (x y : A) → r ≡ Ok x → r ≡ Ok y → x ≡ y
same_value r x y h k = cc

same_fault : {A E : Type 0} (r : Result A E) (x y : E) → r ≡ Err x → r ≡ Err y → x ≡ y
same_fault r x y h k = cc

not_both : {A E : Type 0} (r : Result A E) (x : A) (y : E) → r ≡ Ok x → r ≡ Err y → ⊥
not_both r x y h k = cc

abbrev Answer : Type 0
Answer = Result (Commodity × ℤ) Cause

says_answer : (styles : List Style) (text : List ℕ) (r : Answer) → r ≡ amount styles text → Says styles text r
says_answer styles text r e = subst (Says styles text) (sym e) (says_amount styles text)

pub reads_iff : (styles : List Style) (text : List ℕ) (r : Answer) → r ≡ amount styles text → (place : ℕ) (units : ℤ)
    → (r ≡ Ok (record { 0 = place }, units)) ↔ WritesAmount styles text place units
reads_iff styles text r e place units =
    (λ h. to (says_answer styles text r e) h, λ w. e ∙ writes_back styles text place units w)
  where
    to : Says styles text r → r ≡ Ok (record { 0 = place }, units) → WritesAmount styles text place units
    to (writes p u k w) h =
        let both = same_value r (record { 0 = p }, u) (record { 0 = place }, units) k h in
        let places : p ≡ place = ap (λ (q : Commodity × ℤ). q.0.0) both in
        let values : u ≡ units = ap (λ (q : Commodity × ℤ). q.1) both in
        subst (λ (n : ℕ). WritesAmount styles text n units) places (subst (WritesAmount styles text p) values w)
    to (malformed k w) h = absurd (not_both r _ _ h k)
    to (unknown k w) h = absurd (not_both r _ _ h k)
    to (further k w) h = absurd (not_both r _ _ h k)
    to (great k w) h = absurd (not_both r _ _ h k)

pub malformed_iff : (styles : List Style) (text : List ℕ) (r : Answer) → r ≡ amount styles text
    → (r ≡ Err Amount) ↔ (HasNoForm styles text ⊎ IsOverLimit styles text)
malformed_iff styles text r e = (λ h. to (says_answer styles text r e) h, back)
  where
    to : Says styles text r → r ≡ Err Amount → HasNoForm styles text ⊎ IsOverLimit styles text
    to (writes p u k w) h = absurd (not_both r _ _ k h)
    to (malformed k w) h = inl w
    to (unknown k w) h = absurd (let s = same_fault r Amount UnknownCommodity h k in cc)
    to (further k w) h = absurd (let s = same_fault r Amount Decimals h k in cc)
    to (great k w) h = inr w

    back : HasNoForm styles text ⊎ IsOverLimit styles text → r ≡ Err Amount
    back (inl w) = e ∙ malformed_back styles text w
    back (inr w) = e ∙ great_back styles text w

pub unknown_iff : (styles : List Style) (text : List ℕ) (r : Answer) → r ≡ amount styles text
    → (r ≡ Err UnknownCommodity) ↔ NamesUndeclared styles text
unknown_iff styles text r e = (λ h. to (says_answer styles text r e) h, λ w. e ∙ unknown_back styles text w)
  where
    to : Says styles text r → r ≡ Err UnknownCommodity → NamesUndeclared styles text
    to (writes p u k w) h = absurd (not_both r _ _ k h)
    to (malformed k w) h = absurd (let s = same_fault r UnknownCommodity Amount h k in cc)
    to (unknown k w) h = w
    to (further k w) h = absurd (let s = same_fault r UnknownCommodity Decimals h k in cc)
    to (great k w) h = absurd (let s = same_fault r UnknownCommodity Amount h k in cc)

pub decimals_iff : (styles : List Style) (text : List ℕ) (r : Answer) → r ≡ amount styles text
    → (r ≡ Err Decimals) ↔ HasFurtherDecimals styles text
decimals_iff styles text r e = (λ h. to (says_answer styles text r e) h, λ w. e ∙ further_back styles text w)
  where
    to : Says styles text r → r ≡ Err Decimals → HasFurtherDecimals styles text
    to (writes p u k w) h = absurd (not_both r _ _ k h)
    to (malformed k w) h = absurd (let s = same_fault r Decimals Amount h k in cc)
    to (unknown k w) h = absurd (let s = same_fault r Decimals UnknownCommodity h k in cc)
    to (further k w) h = w
    to (great k w) h = absurd (let s = same_fault r Decimals Amount h k in cc)

pub one_of_causes : (styles : List Style) (text : List ℕ) (r : Answer) → r ≡ amount styles text
    → IfErr r (λ cause. (cause ≡ Amount) ⊎ (cause ≡ UnknownCommodity) ⊎ (cause ≡ Decimals))
one_of_causes styles text r e = go (says_answer styles text r e)
  where
    go : Says styles text r → IfErr r (λ cause. (cause ≡ Amount) ⊎ (cause ≡ UnknownCommodity) ⊎ (cause ≡ Decimals))
    go (writes p u k w) = rw k tt
    go (malformed k w) = rw k (inl refl)
    go (unknown k w) = rw k (inr (inl refl))
    go (further k w) = rw k (inr (inr refl))
    go (great k w) = rw k (inl refl)

-- from an answer that was worked out
pub writes_if : (styles : List Style) (text : List ℕ) (place : ℕ) (units : ℤ)
    → amount styles text ≡ Ok (record { 0 = place }, units) → WritesAmount styles text place units
writes_if styles text place units h = (reads_iff styles text (amount styles text) refl place units).0 h

pub unknown_if : (styles : List Style) (text : List ℕ) → amount styles text ≡ Err UnknownCommodity
    → NamesUndeclared styles text
unknown_if styles text h = (unknown_iff styles text (amount styles text) refl).0 h

pub further_if : (styles : List Style) (text : List ℕ) → amount styles text ≡ Err Decimals
    → HasFurtherDecimals styles text
further_if styles text h = (decimals_iff styles text (amount styles text) refl).0 h
