use Rattle.std.proofs.Common.{◌≡◌, sym, subst, subst₂, rules, w64, to_z, of_z, List, ℕ, ℤ}
use Rattle.std.proofs.lemmas.Int.{to_z-of_z}
use Rattle.treasury_tables.specs.declared.change.Change.{Change}
use Rattle.treasury_tables.specs.Rows.{tables_changed, tables_with_lock, tables_with_receipt}
use Rattle.treasury_tables.specs.Kept.{Writes}
use Rattle.treasury_tables.proofs.write.put.Goals as goal

pub returns-in-Unit-clause-writes : goal.returns-in-Unit-clause-writes
returns-in-Unit-clause-writes g c =
    subst (λ (x : Change).
    Writes g.S.Store c.args.tx.now.conn.now c.put_unit.new.tx.conn.now c.put_unit.result (tables_changed x))
    (sym c.in-Unit.is)
    c.put_unit.ensures.writes

pub returns-in-Branch-clause-writes : goal.returns-in-Branch-clause-writes
returns-in-Branch-clause-writes g c =
    subst (λ (x : Change).
    Writes g.S.Store c.args.tx.now.conn.now c.put_branch.new.tx.conn.now c.put_branch.result (tables_changed x))
    (sym c.in-Branch.is) c.put_branch.ensures.writes

pub returns-in-Entry-clause-writes : goal.returns-in-Entry-clause-writes
returns-in-Entry-clause-writes g c =
    subst (λ (x : Change).
    Writes g.S.Store c.args.tx.now.conn.now c.put_entry.new.tx.conn.now c.put_entry.result (tables_changed x))
    (sym c.in-Entry.is) c.put_entry.ensures.writes

pub returns-in-Leg-clause-writes : goal.returns-in-Leg-clause-writes
returns-in-Leg-clause-writes g c =
    subst (λ (x : Change).
    Writes g.S.Store c.args.tx.now.conn.now c.put_leg.new.tx.conn.now c.put_leg.result (tables_changed x))
    (sym c.in-Leg.is)
    c.put_leg.ensures.writes

pub returns-in-Claim-clause-writes : goal.returns-in-Claim-clause-writes
returns-in-Claim-clause-writes g c =
    subst (λ (x : Change).
    Writes g.S.Store c.args.tx.now.conn.now c.put_claim.new.tx.conn.now c.put_claim.result (tables_changed x))
    (sym c.in-Claim.is) c.put_claim.ensures.writes

pub returns-in-Transfer-clause-writes : goal.returns-in-Transfer-clause-writes
returns-in-Transfer-clause-writes g c =
    subst (λ (x : Change).
    Writes g.S.Store c.args.tx.now.conn.now c.put_transfer.new.tx.conn.now c.put_transfer.result (tables_changed x))
    (sym c.in-Transfer.is) c.put_transfer.ensures.writes

pub returns-in-Lock-clause-writes : goal.returns-in-Lock-clause-writes
returns-in-Lock-clause-writes g c =
    let branch : to_z w64 (of_z w64 c.in-Lock.branch) ≡ c.in-Lock.branch =
    to_z-of_z w64 c.in-Lock.branch (search rules) in
    let day : to_z w64 (of_z w64 c.in-Lock.day) ≡ c.in-Lock.day = to_z-of_z w64 c.in-Lock.day (search rules) in
    subst (λ (x : Change). Writes g.S.Store c.args.tx.now.conn.now c.set_lock.new.tx.conn.now c.set_lock.result
    (tables_changed x)) (sym c.in-Lock.is)
    (subst₂ (λ (n d : ℤ). Writes g.S.Store c.args.tx.now.conn.now c.set_lock.new.tx.conn.now c.set_lock.result
    (tables_with_lock n d)) branch day c.set_lock.ensures.writes)

pub returns-in-Receipt-clause-writes : goal.returns-in-Receipt-clause-writes
returns-in-Receipt-clause-writes g c =
    let day : to_z w64 (of_z w64 c.in-Receipt.day) ≡ c.in-Receipt.day = to_z-of_z w64 c.in-Receipt.day (search rules) in
    subst (λ (x : Change). Writes g.S.Store c.args.tx.now.conn.now c.set_receipt.new.tx.conn.now c.set_receipt.result
    (tables_changed x)) (sym c.in-Receipt.is)
    (subst₂ (λ (id payee : List ℕ).
    Writes g.S.Store c.args.tx.now.conn.now c.set_receipt.new.tx.conn.now c.set_receipt.result
    (tables_with_receipt id c.in-Receipt.day payee)) c.as_str.ensures c.as_str-in-Receipt.ensures
    (subst (λ (d : ℤ). Writes g.S.Store c.args.tx.now.conn.now c.set_receipt.new.tx.conn.now c.set_receipt.result
    (tables_with_receipt c.as_str.result.now d c.as_str-in-Receipt.result.now)) day c.set_receipt.ensures.writes))

pub returns-in-Part-clause-writes : goal.returns-in-Part-clause-writes
returns-in-Part-clause-writes g c =
    subst (λ (x : Change).
    Writes g.S.Store c.args.tx.now.conn.now c.put_part.new.tx.conn.now c.put_part.result (tables_changed x))
    (sym c.in-Part.is)
    c.put_part.ensures.writes
