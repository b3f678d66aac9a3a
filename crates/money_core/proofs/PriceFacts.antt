-- What is known of a price that some text has.
use Rattle.std.proofs.Common.{◌≡◌, ◌≤◌, ◌%◌, ◌==◌, ℕ, true, ◌||◌, not, Option, Some, List, ◌∙◌, ap, sym}
use Rattle.std.specs.Prelude.{nat_le}
use Rattle.std.proofs.lemmas.Bool.{and_parts, leb-true}
use Rattle.money_core.specs.declared.style.Style.{Style}
use Rattle.money_core.specs.declared.unit.Unit.{Unit as Commodity}
use Rattle.money_core.specs.declared.price.Price.TheVariants.{Each}
use Rattle.money_core.specs.declared.price.Price.{Price}
use Rattle.std.specs.List.{slice_get}
use Rattle.money_core.specs.Price.{unit_limit, is_cost, is_price, cost_unit}

-- the parts of the test on a unit cost
pub record EachFacts (style : Style) (digits decimals : ℕ) : Type 0 where
  pub declared : style.decimals ≤ decimals
  pub few : decimals ≤ 12
  pub small : digits ≤ unit_limit
  pub kept : ((decimals == style.decimals) || not (digits % 10 == 0)) ≡ true

pub each_facts : (style : Style) (unit : Commodity) (digits decimals : ℕ)
    → is_cost (Some style) (Each unit digits decimals) ≡ true → EachFacts style digits decimals
each_facts style unit digits decimals h =
    let three = and_parts _ ((decimals == style.decimals) || not (digits % 10 == 0)) h in
    let two = and_parts _ (nat_le digits unit_limit) three.0 in
    let one = and_parts (nat_le style.decimals decimals) (nat_le decimals 12) two.0 in
    record {
      declared = leb-true style.decimals decimals one.0;
      few = leb-true decimals 12 one.1;
      small = leb-true digits unit_limit two.1;
      kept = three.1;
    }

-- the same of a price whose commodity's style is found
pub price_facts : (styles : List Style) (p : Price) (style : Style) (unit : Commodity) (digits decimals : ℕ)
    → is_price styles p ≡ true → p ≡ Each unit digits decimals → slice_get styles (cost_unit p).0 ≡ Some style
    → EachFacts style digits decimals
price_facts styles p style unit digits decimals h e at =
    let one : is_cost (Some style) p ≡ true = ap (λ (o : Option Style). is_cost o p) (sym at) ∙ h in
    each_facts style unit digits decimals (ap (is_cost (Some style)) (sym e) ∙ one)
