use Rattle.std.proofs.Common.{◌≡◌, ◌∙◌, List, sym, subst, true, rules}
use Rattle.money_core.specs.declared.style.Style.{Style}
use Rattle.money_core.specs.Style.{is_style, AreStyles}
use Rattle.treasury_state.specs.Rows.{unit_row}
use Rattle.treasury_rows.proofs.DraftLemmas.{exit_on_error, IsFront, front_start, front_next, front_fault, front_end}
use Rattle.treasury_rows.proofs.DraftLemmas.{pushed_length}
use Rattle.treasury_rows.proofs.UnitRowLemmas.{style_middle, new_fault}
use Rattle.treasury_rows.proofs.drafting.unit_rows.read_styles.Goals as goal

pub unit-init : goal.unit-init
unit-init c = record {
  count = search rules;
  front = subst (λ (ss : List Style). IsFront unit_row AreStyles 0 c.args.rows.now 0 0 ss)
      (sym c.empty-styles.ensures) (front_start unit_row AreStyles 0 c.args.rows.now);
}

pub returns-in_err-style : goal.returns-in_err-style
returns-in_err-style c =
    let i = c.unit.row-index in
    exit_on_error _ _ c.from_residual.result _ c.from_residual.ensures.1
    (front_fault unit_row AreStyles (λ (s : Style). is_style s ≡ true) 0 c.args.rows.now i i c.len.result
    c.unit.styles c.row-item.result _ c.unit-test.true c.row-item.is
    (c.len.ensures.count ∙ c.unit.invariant.count) (λ xs rest y. style_middle c.unit.styles xs rest y)
    c.unit.invariant.front c.in_err-style.ensures.reads)

pub returns-in_err-declare_next : goal.returns-in_err-declare_next
returns-in_err-declare_next c =
    let i = c.unit.row-index in
    exit_on_error _ _ c.from_residual-in_err-declare_next.result _ c.from_residual-in_err-declare_next.ensures.1
    (new_fault c.args.rows.now i i c.len.result c.unit.styles c.row-item.result c.in_ok-style.style _
    c.unit-test.true c.row-item.is
    (c.len.ensures.count ∙ c.unit.invariant.count) c.in_ok-style.ensures.reads c.unit.invariant.front
    c.in_err-declare_next.ensures.err)

pub unit-preserved : goal.unit-preserved
unit-preserved c =
    let i = c.unit.row-index in
    record {
      count =
          pushed_length c.unit.styles _ c.in_ok-style.style i c.in_ok-declare_next.ensures.ok c.unit.invariant.count;
      front = front_next unit_row AreStyles (λ (s : Style). is_style s ≡ true) 0 c.args.rows.now i i c.len.result
          c.unit.styles _ c.row-item.result c.in_ok-style.style c.unit-test.true c.row-item.is
          (c.len.ensures.count ∙ c.unit.invariant.count) c.in_ok-declare_next.ensures.ok
          (λ xs rest y. style_middle c.unit.styles xs rest y) c.in_ok-style.ensures.reads c.unit.invariant.front;
    }

pub returns : goal.returns
returns c = front_end unit_row AreStyles 0 c.args.rows.now c.unit.row-index c.unit.row-index c.unit.styles
    c.unit-test.false c.unit.invariant.front
