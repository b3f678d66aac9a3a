use Rattle.std.proofs.Common.{arith}
use Rattle.sqlite.specs.State.{HasCleanDisk}
use Rattle.sqlite.specs.Held.{state}
use Rattle.std.proofs.lemmas.Result.{on_ok_weaker}
use Rattle.treasury_tables.proofs.CreateLemmas.{makes_state}
use Rattle.treasury_tables.proofs.create.create_state.Goals as goal

pub returns-clause-makes : goal.returns-clause-makes
returns-clause-makes g c clean =
    let a = state g.S.Store c.args.tx.now.conn.now in
    let b = state g.S.Store c.create_unit.new.tx.conn.now in
    let m = state g.S.Store c.create_branch.new.tx.conn.now in
    let d = state g.S.Store c.create_entry.new.tx.conn.now in
    let e = state g.S.Store c.create_leg.new.tx.conn.now in
    let f = state g.S.Store c.create_claim.new.tx.conn.now in
    let h = state g.S.Store c.create_transfer.new.tx.conn.now in
    let i = state g.S.Store c.create_receipt.new.tx.conn.now in
    let clean_h : HasCleanDisk h = omega (arith, c.create_receipt.ensures.creates.survives.clean, clean) in
    let clean_f : HasCleanDisk f = omega (arith, c.create_transfer.ensures.creates.survives.clean, clean_h) in
    let clean_e : HasCleanDisk e = omega (arith, c.create_claim.ensures.creates.survives.clean, clean_f) in
    let clean_d : HasCleanDisk d = omega (arith, c.create_leg.ensures.creates.survives.clean, clean_e) in
    let clean_m : HasCleanDisk m = omega (arith, c.create_entry.ensures.creates.survives.clean, clean_d) in
    let clean_b : HasCleanDisk b = omega (arith, c.create_branch.ensures.creates.survives.clean, clean_m) in
    on_ok_weaker c.create_receipt.result
    (λ seven none. makes_state a.now b.now m.now d.now e.now f.now h.now i.now none
    (c.in_ok-create_unit.ensures.creates.makes clean_b) (c.in_ok-create_branch.ensures.creates.makes clean_m)
    (c.in_ok-create_entry.ensures.creates.makes clean_d)
    (c.in_ok-create_leg.ensures.creates.makes clean_e) (c.in_ok-create_claim.ensures.creates.makes clean_f)
    (c.in_ok-create_transfer.ensures.creates.makes clean_h) seven)
    (c.create_receipt.ensures.creates.makes clean)
