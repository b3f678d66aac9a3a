use Rattle.std.proofs.Common.{◌∙◌, sym, arith}
use Rattle.sqlite.specs.Held.{state}
use Rattle.treasury_tables.proofs.Texts.{first_unit_rows_is, first_branch_rows_is, first_entry_rows_is}
use Rattle.treasury_tables.proofs.Texts.{first_leg_rows_is}
use Rattle.treasury_tables.proofs.Texts.{first_claim_rows_is, first_transfer_rows_is}
use Rattle.treasury_tables.proofs.LoadLemmas.{first_units_are, first_branches_are, first_entries_are, first_legs_are}
use Rattle.treasury_tables.proofs.LoadLemmas.{first_claims_are, first_transfers_are}
use Rattle.treasury_tables.proofs.QueriesLemmas.{then_reads, then_has_read, reads_if_read, still_held}
use Rattle.treasury_tables.proofs.first_version.first_parts.Goals as goal
use Rattle.treasury_tables.specs.Kept.{IsFaithful}

pub first_rows-requires : goal.first_rows-requires
first_rows-requires g c = first_unit_rows_is.2

pub first_rows-requires-2 : goal.first_rows-requires-2
first_rows-requires-2 g c = first_branch_rows_is.2

pub first_rows-requires-3 : goal.first_rows-requires-3
first_rows-requires-3 g c = first_entry_rows_is.2

pub first_rows-requires-4 : goal.first_rows-requires-4
first_rows-requires-4 g c = first_leg_rows_is.2

pub first_rows-requires-5 : goal.first_rows-requires-5
first_rows-requires-5 g c = first_claim_rows_is.2

pub first_rows-requires-6 : goal.first_rows-requires-6
first_rows-requires-6 g c = first_transfer_rows_is.2

pub returns-in_err-branches-clause-reads : goal.returns-in_err-branches-clause-reads
returns-in_err-branches-clause-reads g c =
    let past1 = c.in_ok-units.ensures.has in
    then_reads past1 c.in_err-branches.ensures.reads

pub returns-in_err-entries-clause-reads : goal.returns-in_err-entries-clause-reads
returns-in_err-entries-clause-reads g c =
    let past1 = c.in_ok-units.ensures.has in
    let past2 = then_has_read past1 c.in_ok-branches.ensures.has in
    then_reads past2 c.in_err-entries.ensures.reads

pub returns-in_err-legs-clause-reads : goal.returns-in_err-legs-clause-reads
returns-in_err-legs-clause-reads g c =
    let past1 = c.in_ok-units.ensures.has in
    let past2 = then_has_read past1 c.in_ok-branches.ensures.has in
    let past3 = then_has_read past2 c.in_ok-entries.ensures.has in
    then_reads past3 c.in_err-legs.ensures.reads

pub returns-in_err-claims-clause-reads : goal.returns-in_err-claims-clause-reads
returns-in_err-claims-clause-reads g c =
    let past1 = c.in_ok-units.ensures.has in
    let past2 = then_has_read past1 c.in_ok-branches.ensures.has in
    let past3 = then_has_read past2 c.in_ok-entries.ensures.has in
    let past4 = then_has_read past3 c.in_ok-legs.ensures.has in
    then_reads past4 c.in_err-claims.ensures.reads

pub returns-in_err-transfers-clause-reads : goal.returns-in_err-transfers-clause-reads
returns-in_err-transfers-clause-reads g c =
    let past1 = c.in_ok-units.ensures.has in
    let past2 = then_has_read past1 c.in_ok-branches.ensures.has in
    let past3 = then_has_read past2 c.in_ok-entries.ensures.has in
    let past4 = then_has_read past3 c.in_ok-legs.ensures.has in
    let past5 = then_has_read past4 c.in_ok-claims.ensures.has in
    then_reads past5 c.in_err-transfers.ensures.reads

pub returns-clause-reads : goal.returns-clause-reads
returns-clause-reads g c =
    let past1 = c.in_ok-units.ensures.has in
    let past2 = then_has_read past1 c.in_ok-branches.ensures.has in
    let past3 = then_has_read past2 c.in_ok-entries.ensures.has in
    let past4 = then_has_read past3 c.in_ok-legs.ensures.has in
    let past5 = then_has_read past4 c.in_ok-claims.ensures.has in
    let past6 = then_has_read past5 c.in_ok-transfers.ensures.has in
    reads_if_read past6

pub returns-clause-parts : goal.returns-clause-parts
returns-clause-parts g c clean t up holds =
    let clean6 : IsFaithful g.S.Store c.first_rows-6.new.conn = clean in
    let clean5 : IsFaithful g.S.Store c.first_rows-5.new.conn =
    omega (arith, c.in_ok-transfers.ensures.reads.survives.clean, clean6) in
    let clean4 : IsFaithful g.S.Store c.first_rows-4.new.conn =
    omega (arith, c.in_ok-claims.ensures.reads.survives.clean, clean5) in
    let clean3 : IsFaithful g.S.Store c.first_rows-3.new.conn =
    omega (arith, c.in_ok-legs.ensures.reads.survives.clean, clean4) in
    let clean2 : IsFaithful g.S.Store c.first_rows-2.new.conn =
    omega (arith, c.in_ok-entries.ensures.reads.survives.clean, clean3) in
    let clean1 : IsFaithful g.S.Store c.first_rows.new.conn =
    omega (arith, c.in_ok-branches.ensures.reads.survives.clean, clean2) in
    let past1 = c.in_ok-units.ensures.has in
    let past2 = then_has_read past1 c.in_ok-branches.ensures.has in
    let past3 = then_has_read past2 c.in_ok-entries.ensures.has in
    let past4 = then_has_read past3 c.in_ok-legs.ensures.has in
    let past5 = then_has_read past4 c.in_ok-claims.ensures.has in
    let k1 = c.in_ok-units.ensures.shown clean1 in
    let k2 = c.in_ok-branches.ensures.shown clean2 in
    let k3 = c.in_ok-entries.ensures.shown clean3 in
    let k4 = c.in_ok-legs.ensures.shown clean4 in
    let k5 = c.in_ok-claims.ensures.shown clean5 in
    let k6 = c.in_ok-transfers.ensures.shown clean6 in
    let units = k1.2 t.units (first_units_are (state g.S.Store c.args.conn.now)
    (state g.S.Store c.first_rows.new.conn) t k1.0 holds up.units k1.1) in
    let branches = k2.2 t.branches (first_branches_are (state g.S.Store c.first_rows.new.conn)
    (state g.S.Store c.first_rows-2.new.conn) t k2.0 (still_held t past1 clean1 holds) up.branches k2.1) in
    let entries = k3.2 t.entries (first_entries_are (state g.S.Store c.first_rows-2.new.conn)
    (state g.S.Store c.first_rows-3.new.conn) t k3.0 (still_held t past2 clean2 holds) up.entries k3.1) in
    let legs = k4.2 t.legs (first_legs_are (state g.S.Store c.first_rows-3.new.conn)
    (state g.S.Store c.first_rows-4.new.conn) t k4.0 (still_held t past3 clean3 holds) up.legs k4.1) in
    let claims = k5.2 t.claims (first_claims_are (state g.S.Store c.first_rows-4.new.conn)
    (state g.S.Store c.first_rows-5.new.conn) t k5.0 (still_held t past4 clean4 holds) up.claims k5.1) in
    let transfers = k6.2 t.transfers (first_transfers_are (state g.S.Store c.first_rows-5.new.conn)
    (state g.S.Store c.first_rows-6.new.conn) t k6.0 (still_held t past5 clean5 holds) up.transfers k6.1) in
    let receipts = c.from_vec.ensures ∙ (c.new.ensures.items ∙ sym holds.receipts) in
    λ i. record {
      units = units i;
      branches = branches i;
      entries = entries i;
      legs = legs i;
      claims = claims i;
      transfers = transfers i;
      receipts = receipts i;
    }
