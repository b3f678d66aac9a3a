use Rattle.std.proofs.Common.{◌≡◌, ◌<◌, ◌+◌, ◌-◌, ◌∙◌, ap, sym, arith, pos, ℤ, not, Bool, false, length}
use Rattle.std.proofs.Common.{int_eq, ℕ, rules, w64, to_z}
use Rattle.std.proofs.lemmas.Int.{to_z-of_z}
use Rattle.money_core.specs.declared.unit.Unit.{Unit as Commodity}
use Rattle.journal_balance.specs.Legs.{commodities, declared_commodities}
use Rattle.journal_balance.proofs.SumLemmas.{commodities_next}
use Rattle.treasury_core.specs.Closing.{through}
use Rattle.treasury_notes.specs.OpenYear.{has_balance}
use Rattle.treasury_notes.proofs.OpenYearLemmas.{passed_by_none}
use Rattle.treasury_notes.proofs.open_year.has_balance.Goals as goal

pub units-preserved : goal.units-preserved
units-preserved g c =
    let book = g.L.Ledger.book c.args.ledger.now in
    let n = c.units.number in
    let m = length c.args.styles.now in
    let unit : Commodity = record { 0 = n } in
    let known : n < m = omega (arith, c.units-test.true, c.len-number-end.ensures.count) in
    let test : Commodity → Bool =
    λ (u : Commodity). not (int_eq (through book c.args.day c.args.account.now u) (pos 0)) in
    let zero : c.balance.result ≡ pos 0 =
    sym (to_z-of_z w64 c.balance.result (search rules)) ∙ ap (λ (k : ℕ). to_z w64 k) c.if-balance-ne0.false in
    let fails : test unit ≡ false = ap (λ (z : ℤ). not (int_eq z (pos 0))) (sym c.balance.ensures ∙ zero) in
    passed_by_none test unit (commodities n (m - n)) (commodities (n + 1) (m - (n + 1)))
    (has_balance book c.args.day (declared_commodities c.args.styles.now) c.args.account.now)
    (commodities_next n m known) fails c.units.invariant
