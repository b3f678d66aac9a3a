use Rattle.std.proofs.Common.{◌≡◌, ◌∙◌, ℕ, List, refl, sym, subst, map}
use Rattle.treasury_state.specs.declared.transfer.Part.{Part}
use Rattle.treasury_state.specs.Good.{IsShort}
use Rattle.treasury_state.specs.Rows.{part_row}
use Rattle.treasury_state.proofs.RestLemmas.{numbered}
use Rattle.treasury_state.proofs.TransferRowLemmas.{numbered_const}
use Rattle.treasury_rows.specs.Drafted.{HaveShortDays}
use Rattle.treasury_rows.proofs.DraftLemmas.{exit_on_error, fault_of, IsFront, front_start, front_next, front_fault}
use Rattle.treasury_rows.proofs.DraftLemmas.{front_end}
use Rattle.treasury_rows.proofs.DraftLemmas.{all_middle}
use Rattle.treasury_rows.proofs.drafting.transfer_rows.read_parts.Goals as goal

pub part-init : goal.part-init
part-init c =
    let id = c.args.id.now in
    subst (λ (ps : List Part). IsFront (λ (k : ℕ). part_row id) HaveShortDays 0 c.args.rows.now 0 0 ps)
    (sym c.empty-list.ensures)
    (front_start (λ (k : ℕ). part_row id) HaveShortDays 0 c.args.rows.now)

pub returns-in_err-part : goal.returns-in_err-part
returns-in_err-part c =
    let id = c.args.id.now in
    let g : ℕ → Part → _ = λ k. part_row id in
    let i = c.part.row-index in
    exit_on_error _ _ c.from_residual.result _ c.from_residual.ensures.1
    (fault_of (λ (ps : List Part). HaveShortDays ps × (map (part_row id) ps ≡ c.args.rows.now))
    (λ (ps : List Part). HaveShortDays ps × (numbered g 0 ps ≡ c.args.rows.now)) _
    (λ ps p. (ps, (p.0, numbered_const (part_row id) 0 ps ∙ p.1)))
    (front_fault g HaveShortDays (λ (p : Part). IsShort p.day) 0 c.args.rows.now i i i c.part.list c.row-item.result _
    c.part-test.true c.row-item.is refl
    (λ xs rest y. all_middle (λ (p : Part). IsShort p.day) c.part.list xs rest y) c.part.invariant
    c.in_err-part.ensures))

pub part-preserved : goal.part-preserved
part-preserved c =
    let id = c.args.id.now in
    let i = c.part.row-index in
    front_next (λ (k : ℕ). part_row id) HaveShortDays (λ (p : Part). IsShort p.day) 0 c.args.rows.now i i i c.part.list
    _ c.row-item.result c.in_ok-part.part c.part-test.true c.row-item.is refl
    c.in_ok-push.ensures.ok (λ xs rest y. all_middle (λ (p : Part). IsShort p.day) c.part.list xs rest y)
    c.in_ok-part.ensures c.part.invariant

pub returns : goal.returns
returns c =
    let id = c.args.id.now in
    λ ps p. front_end (λ (k : ℕ). part_row id) HaveShortDays 0 c.args.rows.now c.part.row-index c.part.row-index
    c.part.list c.part-test.false c.part.invariant ps
    (p.0, numbered_const (part_row id) 0 ps ∙ p.1)
