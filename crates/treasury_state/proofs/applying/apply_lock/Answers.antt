use Rattle.std.proofs.Common.{ap, sym, ◌∙◌, refl, arith}
use Rattle.treasury_state.specs.Joined.{with_lock}
use Rattle.treasury_state.specs.Seen.{branches_of}
use Rattle.treasury_state.specs.Federation.{name_place}
use Rattle.treasury_state.proofs.PlaceLemmas.{past_branches, branch_set}
use Rattle.treasury_state.proofs.applying.apply_lock.Goals as goal

pub returns-then-place-len-clause-after : goal.returns-then-place-len-clause-after
returns-then-place-len-clause-after g c =
    branch_set (with_lock c.args.day) c.args.name.now c.args.branches.now.items c.place_of-place.result
    c.index_mut-branch.result.now _ (omega arith)
    (c.place_of-place.ensures ∙ ap (λ xs. name_place (branches_of xs) c.args.name.now) c.deref.ensures.value)
    c.index_mut-branch.ensures.value refl

pub returns-else-place-len-clause-after : goal.returns-else-place-len-clause-after
returns-else-place-len-clause-after g c =
    sym (past_branches (with_lock c.args.day) c.args.name.now c.args.branches.now.items c.place_of-place.result
    (c.place_of-place.ensures ∙ ap (λ xs. name_place (branches_of xs) c.args.name.now) c.deref.ensures.value)
    (omega arith))
