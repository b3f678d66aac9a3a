use Rattle.std.proofs.Common.{◌≡◌, ◌∙◌, ap, sym, subst, List, ◌≤ℤ◌, pos, FitsSigned, w64, to_z-of_z, rules}
use Rattle.std.specs.List.{AllByRecursion}
use Rattle.treasury_state.specs.declared.transfer.Transfer.{Transfer}
use Rattle.treasury_state.specs.Transfer.{open_amount}
use Rattle.treasury_state.specs.Fair.{IsFair}
use Rattle.treasury_state.proofs.WayLemmas.{open_sum_low}
use Rattle.treasury_state.proofs.FairLemmas.{all_fair, names_good, adds_up_named}
use Rattle.treasury_state.proofs.OpenLemmas.{open_small, open_amount_unknown}
use Rattle.treasury_state.proofs.transit.open_amount.Goals as goal

pub open_between-requires-clause-fair : goal.open_between-requires-clause-fair
open_between-requires-clause-fair g c =
    let s = c.args.state.now in
    subst (AllByRecursion IsFair) (sym c.transfers.ensures)
    (all_fair s.branches s.transfers (names_good s c.is_good.ensures) c.is_good.ensures.transfers)

pub open_between-requires-clause-small : goal.open_between-requires-clause-small
open_between-requires-clause-small g c =
    subst (λ (ts : List Transfer). open_amount ts c.args.from.now c.args.to.now c.args.unit c.args.day
    ≤ℤ pos 20000000000000000) (sym c.transfers.ensures)
    (open_small c.args.state.now c.args.from.now c.args.to.now c.args.unit c.args.day c.is_good.ensures)

pub returns-clause-low : goal.returns-clause-low
returns-clause-low g c =
    let s = c.args.state.now in
    let low : pos 0 ≤ℤ open_amount c.transfers.result.now c.args.from.now c.args.to.now c.args.unit c.args.day =
    subst (λ (ts : List Transfer). pos 0 ≤ℤ open_amount ts c.args.from.now c.args.to.now c.args.unit c.args.day)
    (sym c.transfers.ensures)
    (open_sum_low s.transfers c.args.from.now c.args.to.now c.args.unit c.args.day
    (all_fair s.branches s.transfers (names_good s c.is_good.ensures) c.is_good.ensures.transfers)) in
    let fits : FitsSigned w64 c.open_between.result = search rules in
    subst (λ z. pos 0 ≤ℤ z) (sym (to_z-of_z fits ∙ c.open_between.ensures)) low

pub returns-clause-adds_up : goal.returns-clause-adds_up
returns-clause-adds_up g c here there apart =
    adds_up_named c.args.state.now c.args.from.now c.args.to.now c.is_good.ensures here there apart

pub returns-clause-unknown : goal.returns-clause-unknown
returns-clause-unknown g c none =
    let s = c.args.state.now in
    let zero : open_amount c.transfers.result.now c.args.from.now c.args.to.now c.args.unit c.args.day ≡ pos 0 =
    ap (λ (ts : List Transfer). open_amount ts c.args.from.now c.args.to.now c.args.unit c.args.day) c.transfers.ensures
    ∙ open_amount_unknown s.transfers s.branches c.args.from.now c.args.to.now c.args.unit c.args.day
    c.is_good.ensures.transfers none in
    let fits : FitsSigned w64 c.open_between.result = search rules in
    to_z-of_z fits ∙ (c.open_between.ensures ∙ zero)
