use Rattle.std.proofs.Common.{◌≡◌, ◌≤◌, ◌<◌, ◌++◌, ◌-ℤ◌, pos, ℤ, None, length, ◌∙◌, ap, arith, rules, FitsSigned, w64}
use Rattle.std.proofs.Common.{to_z, of_z}
use Rattle.std.proofs.lemmas.Int.{ints, to_z-of_z}
use Rattle.money_core.specs.declared.unit.Unit.{Unit as Commodity}
use Rattle.book_core.specs.Balance.{value}
use Rattle.journal_balance.specs.Legs.{declared_commodities}
use Rattle.journal_balance.specs.Plain.{written_legs}
use Rattle.treasury_core.specs.Closing.{nonzero_posting}
use Rattle.treasury_core.proofs.ClosingSums.{abs_value, spread}
use Rattle.treasury_core.proofs.ClosingLoops.{next_unit, last_unit}
use Rattle.treasury_core.proofs.closing.gaining_account.Goals as goal

pub overflow_sub-lost : goal.overflow_sub-lost
overflow_sub-lost c =
    let unit : Commodity = record { 0 = c.units.number } in
    let fits : FitsSigned w64 c.sum_in-lost.result = search rules in
    let back = to_z-of_z w64 c.sum_in-lost.result fits in
    let one = abs_value unit (written_legs c.args.closed.now) in
    let small = c.requires unit in
    let is = c.sum_in-lost.ensures in
    omega (arith, ints, back, one, small, is)

pub units-preserved : goal.units-preserved
units-preserved c =
    let unit : Commodity = record { 0 = c.units.number } in
    let closed = c.args.closed.now in
    let fits : FitsSigned w64 c.sum_in-lost.result = search rules in
    let back = to_z-of_z w64 c.sum_in-lost.result fits in
    let one = abs_value unit (written_legs closed) in
    let small = c.requires unit in
    let is = c.sum_in-lost.ensures in
    let fine : FitsSigned w64 (pos 0 -ℤ to_z w64 (of_z w64 c.sum_in-lost.result)) =
    omega (arith, ints, back, one, small, is) in
    let same = to_z-of_z w64 (pos 0 -ℤ to_z w64 (of_z w64 c.sum_in-lost.result)) fine ∙ ap (λ (q : ℤ). pos 0 -ℤ q)
    (back ∙ is) in
    let pushed : c.push_posting.new.postings
    ≡ c.units.postings ++ nonzero_posting c.args.into.now unit (pos 0 -ℤ value unit (written_legs closed)) None =
    c.in_ok-push_posting.ensures.ok ∙ ap (λ (q : ℤ). c.units.postings ++ nonzero_posting c.args.into.now unit q None)
    same in
    let known : c.units.number < length c.args.styles.now =
    omega (arith, c.units-test.true, c.len-number-end.ensures.count) in
    next_unit (λ (u : Commodity). nonzero_posting c.args.into.now u (pos 0 -ℤ value u (written_legs closed)) None)
    c.units.postings c.push_posting.new.postings
    (spread c.args.into.now (λ (u : Commodity). pos 0 -ℤ value u (written_legs closed)) (λ (u : Commodity). None)
    (declared_commodities c.args.styles.now)) c.units.number (length c.args.styles.now) known c.units.invariant pushed

pub returns-clause-value : goal.returns-clause-value
returns-clause-value c =
    let closed = c.args.closed.now in
    let past : length c.args.styles.now ≤ c.units.number =
    omega (arith, c.units-test.false, c.len-number-end.ensures.count) in
    last_unit (λ (u : Commodity). nonzero_posting c.args.into.now u (pos 0 -ℤ value u (written_legs closed)) None)
    c.units.postings
    (spread c.args.into.now (λ (u : Commodity). pos 0 -ℤ value u (written_legs closed)) (λ (u : Commodity). None)
    (declared_commodities c.args.styles.now)) c.units.number (length c.args.styles.now) past c.units.invariant
