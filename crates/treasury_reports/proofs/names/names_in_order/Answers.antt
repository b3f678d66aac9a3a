use Rattle.std.proofs.Common.{◌≤◌, ◌++◌, ◌∷◌, ◌∙◌, [], List, ℕ, length, take, arith, ap, sym}
use Rattle.std.proofs.lemmas.List.{take_all}
use Rattle.book_core.specs.Accounts.{ordered_names}
use Rattle.treasury_state.specs.Seen.{branches_of}
use Rattle.treasury_state.specs.Federation.{names_of}
use Rattle.treasury_reports.proofs.NameLemmas.{none_in_order, names_more, one_more, all_in_order}
use Rattle.treasury_reports.proofs.names.names_in_order.Goals as goal

pub branches-init : goal.branches-init
branches-init g c = none_in_order c.new-names.result.items c.new-names.ensures.items

pub branches-preserved : goal.branches-preserved
branches-preserved g c =
    let all = names_of (branches_of (take c.branches.branch-index c.args.branches.now)) in
    one_more c.branches.names.items c.put_name.new.names.items all _ c.in_ok-name.name c.branches.invariant
    c.in_ok-put_name.ensures.sorted c.in_ok-put_name.ensures.exact
    (names_more c.args.branches.now c.branches.branch-index c.branch-item.result c.branches-test.true c.branch-item.is ∙
    ap (λ (name : List ℕ). all ++ name ∷ []) (sym c.in_ok-name.ensures.equal))

pub returns-clause-value : goal.returns-clause-value
returns-clause-value g c =
    let past : length c.args.branches.now ≤ c.branches.branch-index = omega arith in
    all_in_order c.branches.names.items _ c.branches.invariant ∙ ap (λ xs. ordered_names (names_of (branches_of xs)))
    (take_all c.branches.branch-index c.args.branches.now past)
