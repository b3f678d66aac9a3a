-- how many decimals the product of a posting has
use Rattle.std.proofs.Common.{◌≡◌, ◌∙◌, ◌≤◌, ◌+◌, ℕ, ℤ, List, true, Option, Some, ap, sym, arith}
use Rattle.std.specs.Prelude.{slice_get}
use Rattle.std.specs.List.{list_all}
use Rattle.std.proofs.lemmas.Bool.{and_parts}
use Rattle.money_core.specs.declared.style.Style.{Style}
use Rattle.money_core.specs.declared.unit.Unit.{Unit as Commodity}
use Rattle.money_core.specs.declared.price.Price.{Price}
use Rattle.money_core.specs.declared.price.Price.TheVariants.{Each}
use Rattle.money_core.specs.Price.{cost_unit, is_price}
use Rattle.money_core.specs.Style.{AreStyles}
use Rattle.money_core.proofs.PriceFacts.{price_facts}
use Rattle.money_core.proofs.StyleLemmas.{style_facts}
use Rattle.journal_format.specs.declared.posting.Posting.{Posting}
use Rattle.journal_format.specs.Printable.{is_posting, is_value, is_claim_or_none, is_price_or_none, is_remark_text}

price_holds : (styles : List Style) (x : Posting) (a : Commodity × ℤ) (p : Price) → is_posting styles x ≡ true
    → x.amount ≡ Some a → x.price ≡ Some p → is_price styles p ≡ true
price_holds styles x a p h amount price =
    let value = (and_parts _ (is_value styles x.amount x.price x.claim)
    (and_parts _ (list_all is_remark_text x.comments) h).0).1 in
    let with_price = sym (ap (λ (o : Option Price). is_value styles (Some a) o x.claim) price)
    ∙ sym (ap (λ (o : Option (Commodity × ℤ)). is_value styles o x.price x.claim) amount) ∙ value in
    (and_parts _ (is_price_or_none styles (Some p)) (and_parts _ (is_claim_or_none styles x.claim) with_price).0).1

pub few_places : (styles : List Style) (x : Posting) (unit : Commodity) (q : ℤ) (p : Price) (cost : Commodity)
    (digits decimals : ℕ) (own style : Style) → AreStyles styles → is_posting styles x ≡ true
    → x.amount ≡ Some (unit, q) → x.price ≡ Some p → p ≡ Each cost digits decimals
    → slice_get styles unit.0 ≡ Some own → slice_get styles cost.0 ≡ Some style → own.decimals + decimals ≤ 18
few_places styles x unit q p cost digits decimals own style are h amount price each at its =
    let few = (style_facts styles unit.0 own are at).few in
    let found = ap (λ (y : Price). slice_get styles (cost_unit y).0) each ∙ its in
    let facts = price_facts styles p style cost digits decimals (price_holds styles x (unit, q) p h amount price) each
    found in
    omega (arith, few, facts.few)
