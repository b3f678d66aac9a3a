use Rattle.std.proofs.Common.{◌≡◌, ◌-◌, ◌≤◌, ◌∙◌, sym, refl, drop, length, arith, length-drop, true}
use Rattle.treasury_state.specs.Room.{is_before}
use Rattle.treasury_rows.proofs.JudgingLemmas.{ascends_next, one_ascends}
use Rattle.treasury_rows.proofs.judging.transfers.are_ascending.Goals as goal

pub loop-i-preserved : goal.loop-i-preserved
loop-i-preserved c =
    let ts = c.args.transfers.now in
    let a = c.index-transfers-i.result in
    let b = c.index-transfers-i-in-loop-i.result in
    let before : is_before b.id a ≡ true = sym c.is_before.ensures ∙ c.if-not-is_before.false in
    ascends_next ts c.loop-i.i a b (omega arith) (omega arith) c.index-transfers-i.is c.index-transfers-i-in-loop-i.is
    before c.loop-i.invariant

pub returns : goal.returns
returns c =
    let ts = c.args.transfers.now in
    let last = drop (c.loop-i.i - 1) ts in
    let one : length last ≤ 1 = omega (arith, length-drop (c.loop-i.i - 1) ts) in
    ((λ h. c.loop-i.invariant.0 (one_ascends last one)), (λ h. refl))
