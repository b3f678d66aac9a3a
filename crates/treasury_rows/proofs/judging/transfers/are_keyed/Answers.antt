use Rattle.std.proofs.Common.{◌≡◌, ◌-◌, ◌≤◌, ◌∙◌, sym, refl, drop, length, arith, length-drop, true}
use Rattle.treasury_state.specs.Room.{is_key_before}
use Rattle.treasury_rows.proofs.JudgingLemmas.{keys_ascend_next, one_key_ascends}
use Rattle.treasury_rows.proofs.judging.transfers.are_keyed.Goals as goal

pub loop-i-preserved : goal.loop-i-preserved
loop-i-preserved c =
    let ts = c.args.parts.now in
    let a = c.index-parts-i.result in
    let b = c.index-parts-i-in-loop-i.result in
    let before : is_key_before b.key a ≡ true = sym c.is_key_before.ensures ∙ c.if-not-is_key_before.false in
    keys_ascend_next ts c.loop-i.i a b (omega arith) (omega arith) c.index-parts-i.is c.index-parts-i-in-loop-i.is
    before c.loop-i.invariant

pub returns : goal.returns
returns c =
    let ts = c.args.parts.now in
    let last = drop (c.loop-i.i - 1) ts in
    let one : length last ≤ 1 = omega (arith, length-drop (c.loop-i.i - 1) ts) in
    ((λ h. c.loop-i.invariant.0 (one_key_ascends last one)), (λ h. refl))
