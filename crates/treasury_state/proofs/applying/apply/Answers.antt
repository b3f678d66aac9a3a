use Rattle.std.proofs.Common.{◌≡◌, [], ap, sym, ◌∙◌, subst, List}
use Rattle.treasury_state.specs.declared.transfer.Transfer.{Transfer}
use Rattle.treasury_state.specs.Joined.{joined, joined_one}
use Rattle.treasury_state.specs.Good.{IsGoodState}
use Rattle.treasury_state.specs.Seen.{federation_of}
use Rattle.treasury_state.specs.Room.{IsRoomy}
use Rattle.treasury_state.proofs.BackLemmas.{room_back, good_room, no_more}
use Rattle.treasury_state.proofs.applying.apply.Goals as goal

pub apply_one-requires-clause-room : goal.apply_one-requires-clause-room
apply_one-requires-clause-room g c =
    let s = federation_of c.additions.styles c.additions.branches.items c.additions.transfers.items in
    let x = c.in-Some.addition in
    let rest = c.next.new.self.rest.items in
    let same : joined (joined_one s x) rest ≡ joined c.args.state c.args.delta =
    sym (ap (joined s) c.in-Some.ensures.steps.0) ∙ c.additions.invariant.same in
    room_back rest (joined_one s x) (subst IsRoomy (sym same) (good_room (joined c.args.state c.args.delta) c.requires))

pub apply_one-requires-clause-order : goal.apply_one-requires-clause-order
apply_one-requires-clause-order g c =
    let s = federation_of c.additions.styles c.additions.branches.items c.additions.transfers.items in
    (room_back c.additions.addition-iterator.rest.items s
    (subst IsRoomy (sym c.additions.invariant.same) (good_room (joined c.args.state c.args.delta) c.requires))).ids

pub invariant_of-result : goal.invariant_of-result
invariant_of-result g c =
    let s = federation_of c.additions.styles c.additions.branches.items c.additions.transfers.items in
    let none : c.additions.addition-iterator.rest.items ≡ [] =
    no_more c.additions.addition-iterator.rest.items
    (sym c.additions.addition-iterator.rest.ok.0 ∙ c.in-None.ensures.steps.0) in
    let same : s ≡ joined c.args.state c.args.delta = sym (ap (joined s) none) ∙ c.additions.invariant.same in (
      record {
        kept = c.additions.invariant.kept;
        good = subst (λ (ts : List Transfer).
            IsGoodState (federation_of c.additions.styles c.additions.branches.items ts)) (sym c.from_vec.ensures)
            (subst IsGoodState (sym same) c.requires);
      },
      c.additions.invariant.places,
    )
