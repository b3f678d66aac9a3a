use Rattle.std.proofs.Common.{map, arith, IsPermutation}
use Rattle.sqlite.specs.Effect.{Database}
use Rattle.treasury_tables.specs.Kept.{IsFaithful}
use Rattle.treasury_tables.specs.Rows.{values_of_branch, values_of_entry, values_of_leg, values_of_claim}
use Rattle.treasury_tables.specs.Rows.{values_of_transfer, values_of_part}
use Rattle.treasury_tables.specs.Rows.{shown_branch, shown_entry, shown_leg, shown_claim, shown_transfer, shown_part}
use Rattle.treasury_tables.proofs.QueriesLemmas.{same_error, queries_are_quiet, quiet_more, quiet_error, quiet_ok}
use Rattle.treasury_tables.proofs.QueriesLemmas.{seen_before}
use Rattle.treasury_tables.proofs.load.load_parts.Goals as goal

pub returns-in_err-units-clause-queries : goal.returns-in_err-units-clause-queries
returns-in_err-units-clause-queries g c =
    same_error _ c.from_residual.result c.from_residual.ensures.1 c.in_err-units.ensures.queries

pub returns-in_err-branches-clause-queries : goal.returns-in_err-branches-clause-queries
returns-in_err-branches-clause-queries g c =
    let past1 = queries_are_quiet c.in_ok-units.ensures.queries c.in_ok-units.ensures.same in
    quiet_error _ c.from_residual-in_err-branches.result c.from_residual-in_err-branches.ensures.1 past1
    c.in_err-branches.ensures.queries

pub returns-in_err-entries-clause-queries : goal.returns-in_err-entries-clause-queries
returns-in_err-entries-clause-queries g c =
    let past1 = queries_are_quiet c.in_ok-units.ensures.queries c.in_ok-units.ensures.same in
    let past2 = quiet_more past1 c.in_ok-branches.ensures.queries c.in_ok-branches.ensures.same in
    quiet_error _ c.from_residual-in_err-entries.result c.from_residual-in_err-entries.ensures.1 past2
    c.in_err-entries.ensures.queries

pub returns-in_err-legs-clause-queries : goal.returns-in_err-legs-clause-queries
returns-in_err-legs-clause-queries g c =
    let past1 = queries_are_quiet c.in_ok-units.ensures.queries c.in_ok-units.ensures.same in
    let past2 = quiet_more past1 c.in_ok-branches.ensures.queries c.in_ok-branches.ensures.same in
    let past3 = quiet_more past2 c.in_ok-entries.ensures.queries c.in_ok-entries.ensures.same in
    quiet_error _ c.from_residual-in_err-legs.result c.from_residual-in_err-legs.ensures.1 past3
    c.in_err-legs.ensures.queries

pub returns-in_err-claims-clause-queries : goal.returns-in_err-claims-clause-queries
returns-in_err-claims-clause-queries g c =
    let past1 = queries_are_quiet c.in_ok-units.ensures.queries c.in_ok-units.ensures.same in
    let past2 = quiet_more past1 c.in_ok-branches.ensures.queries c.in_ok-branches.ensures.same in
    let past3 = quiet_more past2 c.in_ok-entries.ensures.queries c.in_ok-entries.ensures.same in
    let past4 = quiet_more past3 c.in_ok-legs.ensures.queries c.in_ok-legs.ensures.same in
    quiet_error _ c.from_residual-in_err-claims.result c.from_residual-in_err-claims.ensures.1 past4
    c.in_err-claims.ensures.queries

pub returns-in_err-transfers-clause-queries : goal.returns-in_err-transfers-clause-queries
returns-in_err-transfers-clause-queries g c =
    let past1 = queries_are_quiet c.in_ok-units.ensures.queries c.in_ok-units.ensures.same in
    let past2 = quiet_more past1 c.in_ok-branches.ensures.queries c.in_ok-branches.ensures.same in
    let past3 = quiet_more past2 c.in_ok-entries.ensures.queries c.in_ok-entries.ensures.same in
    let past4 = quiet_more past3 c.in_ok-legs.ensures.queries c.in_ok-legs.ensures.same in
    let past5 = quiet_more past4 c.in_ok-claims.ensures.queries c.in_ok-claims.ensures.same in
    quiet_error _ c.from_residual-in_err-transfers.result c.from_residual-in_err-transfers.ensures.1 past5
    c.in_err-transfers.ensures.queries

pub returns-in_err-receipts-clause-queries : goal.returns-in_err-receipts-clause-queries
returns-in_err-receipts-clause-queries g c =
    let past1 = queries_are_quiet c.in_ok-units.ensures.queries c.in_ok-units.ensures.same in
    let past2 = quiet_more past1 c.in_ok-branches.ensures.queries c.in_ok-branches.ensures.same in
    let past3 = quiet_more past2 c.in_ok-entries.ensures.queries c.in_ok-entries.ensures.same in
    let past4 = quiet_more past3 c.in_ok-legs.ensures.queries c.in_ok-legs.ensures.same in
    let past5 = quiet_more past4 c.in_ok-claims.ensures.queries c.in_ok-claims.ensures.same in
    let past6 = quiet_more past5 c.in_ok-transfers.ensures.queries c.in_ok-transfers.ensures.same in
    quiet_error _ c.from_residual-in_err-receipts.result c.from_residual-in_err-receipts.ensures.1 past6
    c.in_err-receipts.ensures.queries

pub returns-clause-queries : goal.returns-clause-queries
returns-clause-queries g c =
    let past1 = queries_are_quiet c.in_ok-units.ensures.queries c.in_ok-units.ensures.same in
    let past2 = quiet_more past1 c.in_ok-branches.ensures.queries c.in_ok-branches.ensures.same in
    let past3 = quiet_more past2 c.in_ok-entries.ensures.queries c.in_ok-entries.ensures.same in
    let past4 = quiet_more past3 c.in_ok-legs.ensures.queries c.in_ok-legs.ensures.same in
    let past5 = quiet_more past4 c.in_ok-claims.ensures.queries c.in_ok-claims.ensures.same in
    let past6 = quiet_more past5 c.in_ok-transfers.ensures.queries c.in_ok-transfers.ensures.same in
    let past7 = quiet_more past6 c.in_ok-receipts.ensures.queries c.in_ok-receipts.ensures.same in
    quiet_ok past7

pub returns-clause-shown : goal.returns-clause-shown
returns-clause-shown g c clean has =
    let clean6 : IsFaithful g.S.Store c.load_transfers.new.conn =
    omega (arith, c.in_ok-receipts.ensures.queries.survives.clean, clean) in
    let clean5 : IsFaithful g.S.Store c.load_claims.new.conn =
    omega (arith, c.in_ok-transfers.ensures.queries.survives.clean, clean6) in
    let clean4 : IsFaithful g.S.Store c.load_legs.new.conn =
    omega (arith, c.in_ok-claims.ensures.queries.survives.clean, clean5) in
    let clean3 : IsFaithful g.S.Store c.load_entries.new.conn =
    omega (arith, c.in_ok-legs.ensures.queries.survives.clean, clean4) in
    let clean2 : IsFaithful g.S.Store c.load_branches.new.conn =
    omega (arith, c.in_ok-entries.ensures.queries.survives.clean, clean3) in
    let clean1 : IsFaithful g.S.Store c.load_units.new.conn =
    omega (arith, c.in_ok-branches.ensures.queries.survives.clean, clean2) in
    let past1 = queries_are_quiet c.in_ok-units.ensures.queries c.in_ok-units.ensures.same in
    let past2 = quiet_more past1 c.in_ok-branches.ensures.queries c.in_ok-branches.ensures.same in
    let past3 = quiet_more past2 c.in_ok-entries.ensures.queries c.in_ok-entries.ensures.same in
    let past4 = quiet_more past3 c.in_ok-legs.ensures.queries c.in_ok-legs.ensures.same in
    let past5 = quiet_more past4 c.in_ok-claims.ensures.queries c.in_ok-claims.ensures.same in
    let past6 = quiet_more past5 c.in_ok-transfers.ensures.queries c.in_ok-transfers.ensures.same in
    record {
      schema = has;
      units = c.in_ok-units.ensures.shown clean1 has;
      branches = seen_before c.load_branches.new.conn
          (λ (d : Database). IsPermutation (map values_of_branch c.in_ok-branches.branches)
          (map shown_branch (d.trees 3)))
          past1 c.in_ok-branches.ensures.queries.survives c.in_ok-branches.ensures.shown clean2 has;
      entries = seen_before c.load_entries.new.conn
          (λ (d : Database). IsPermutation (map values_of_entry c.in_ok-entries.entries) (map shown_entry (d.trees 5)))
          past2 c.in_ok-entries.ensures.queries.survives c.in_ok-entries.ensures.shown clean3 has;
      legs = seen_before c.load_legs.new.conn
          (λ (d : Database). IsPermutation (map values_of_leg c.in_ok-legs.legs) (map shown_leg (d.trees 8))) past3
          c.in_ok-legs.ensures.queries.survives c.in_ok-legs.ensures.shown clean4 has;
      claims = seen_before c.load_claims.new.conn
          (λ (d : Database). IsPermutation (map values_of_claim c.in_ok-claims.claims) (map shown_claim (d.trees 10)))
          past4 c.in_ok-claims.ensures.queries.survives c.in_ok-claims.ensures.shown clean5 has;
      transfers = seen_before c.load_transfers.new.conn
          (λ (d : Database).
          IsPermutation (map values_of_transfer c.in_ok-transfers.transfers) (map shown_transfer (d.trees 12))) past5
          c.in_ok-transfers.ensures.queries.survives c.in_ok-transfers.ensures.shown clean6 has;
      receipts = seen_before c.load_receipts.new.conn
          (λ (d : Database). IsPermutation (map values_of_part c.in_ok-receipts.receipts) (map shown_part (d.trees 14)))
          past6 c.in_ok-receipts.ensures.queries.survives c.in_ok-receipts.ensures.shown clean has;
    }
