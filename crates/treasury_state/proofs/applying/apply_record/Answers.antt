use Rattle.std.proofs.Common.{◌∷◌, [], ap, sym, ◌∙◌, arith}
use Rattle.std.proofs.lemmas.Result.{on_ok_weaker}
use Rattle.treasury_state.specs.Joined.{with_records}
use Rattle.treasury_state.specs.Seen.{branch_of, branches_of}
use Rattle.treasury_state.specs.Room.{FitsLedger}
use Rattle.treasury_state.specs.Federation.{name_place}
use Rattle.treasury_state.proofs.PlaceLemmas.{past_branches, branch_set, changed_holds}
use Rattle.treasury_state.proofs.BackLemmas.{room_fit, room_within}
use Rattle.treasury_state.proofs.applying.apply_record.Goals as goal

pub returns-then-place-len-clause-ok : goal.returns-then-place-len-clause-ok
returns-then-place-len-clause-ok g c =
    sym (past_branches (with_records (c.args.row ∷ [])) c.args.name.now c.args.branches.now.items
    c.place_of-place.result
    (c.place_of-place.ensures ∙ ap (λ xs. name_place (branches_of xs) c.args.name.now) c.deref.ensures.value)
    (omega arith))

pub add_record-requires-clause-fit : goal.add_record-requires-clause-fit
add_record-requires-clause-fit g c =
    room_fit (branch_of c.index_mut-branch.result.now) c.args.row
    (changed_holds FitsLedger (with_records (c.args.row ∷ [])) c.args.name.now c.args.branches.now.items
    c.place_of-place.result c.index_mut-branch.result.now (omega arith)
    (c.place_of-place.ensures ∙ ap (λ xs. name_place (branches_of xs) c.args.name.now) c.deref.ensures.value)
    c.index_mut-branch.ensures.value c.requires.room)

pub add_record-requires-clause-room : goal.add_record-requires-clause-room
add_record-requires-clause-room g c =
    room_within (branch_of c.index_mut-branch.result.now) c.args.row
    (changed_holds FitsLedger (with_records (c.args.row ∷ [])) c.args.name.now c.args.branches.now.items
    c.place_of-place.result c.index_mut-branch.result.now (omega arith)
    (c.place_of-place.ensures ∙ ap (λ xs. name_place (branches_of xs) c.args.name.now) c.deref.ensures.value)
    c.index_mut-branch.ensures.value c.requires.room)

pub returns-clause-ok : goal.returns-clause-ok
returns-clause-ok g c =
    on_ok_weaker c.add_record.result
    (λ e. branch_set (with_records (c.args.row ∷ [])) c.args.name.now c.args.branches.now.items c.place_of-place.result
    c.index_mut-branch.result.now _ (omega arith)
    (c.place_of-place.ensures ∙ ap (λ xs. name_place (branches_of xs) c.args.name.now) c.deref.ensures.value)
    c.index_mut-branch.ensures.value e)
    c.add_record.ensures.ok
