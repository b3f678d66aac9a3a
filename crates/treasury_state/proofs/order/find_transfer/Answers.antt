use Rattle.std.proofs.Common.{◌≡◌, ◌∙◌, ap, sym, cond, true, false, Bool, Some, None, List, ℕ}
use Rattle.std.specs.Str.{bytes_eq}
use Rattle.treasury_state.proofs.SearchLemmas.{picked_is_find}
use Rattle.treasury_state.proofs.order.find_transfer.Goals as goal

pub returns-in_default : goal.returns-in_default
returns-in_default c =
    picked_is_find c.args.id.now c.args.transfers.now None c.place_of.result c.requires c.place_of.ensures.value
    c.in_default.ensures.lookup.0 c.in_default.ensures.lookup.1

pub returns-then-eq : goal.returns-then-eq
returns-then-eq c =
    let id = c.args.id.now in
    let t = c.in-Some.transfer.now in
    let test : bytes_eq t.id id ≡ true =
    ap (λ (x : List ℕ). bytes_eq x id) (sym c.as_str.ensures) ∙ (sym c.eq.ensures ∙ c.if-eq.true) in
    sym (ap (λ (b : Bool). cond b (Some t) None) test)
    ∙ picked_is_find id c.args.transfers.now (Some c.in-Some.transfer)
    c.place_of.result c.requires c.place_of.ensures.value c.in-Some.ensures.lookup.0 c.in-Some.ensures.lookup.1

pub returns-else-eq : goal.returns-else-eq
returns-else-eq c =
    let id = c.args.id.now in
    let t = c.in-Some.transfer.now in
    let test : bytes_eq t.id id ≡ false =
    ap (λ (x : List ℕ). bytes_eq x id) (sym c.as_str.ensures) ∙ (sym c.eq.ensures ∙ c.if-eq.false) in
    sym (ap (λ (b : Bool). cond b (Some t) None) test)
    ∙ picked_is_find id c.args.transfers.now (Some c.in-Some.transfer)
    c.place_of.result c.requires c.place_of.ensures.value c.in-Some.ensures.lookup.0 c.in-Some.ensures.lookup.1
