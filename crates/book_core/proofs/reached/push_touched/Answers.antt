use Rattle.std.proofs.Common.{List, [], ◌∷◌, subst, sym}
use Rattle.std.specs.Prelude.{Contains}
use Rattle.std.proofs.lemmas.List.{take_all}
use Rattle.std.proofs.lemmas.List.Elements.{Contains-push, Contains-append_left}
use Rattle.day_sums.specs.declared.spots.Spot.{Spot}
use Rattle.book_core.specs.declared.place.Place.{Place}
use Rattle.book_core.specs.Gathered.{HasReached}
use Rattle.book_core.proofs.TouchedLemmas.{reached_more, has_more}
use Rattle.book_core.proofs.reached.push_touched.Goals as goal
use Rattle.book_core.proofs.reached.push_touched.Goals.{then-touched_at+in_ok-push, else-touched_at}

pub returns-in_err-push-clause-kept : goal.returns-in_err-push-clause-kept
returns-in_err-push-clause-kept c p h =
    subst (λ (ps : List Place). Contains ps p) (sym c.in_err-push.ensures.items) (c.loop-spot.invariant.kept p h)

pub loop-spot-preserved : goal.loop-spot-preserved
loop-spot-preserved c =
    let b = c.args.old.now in
    let e = c.args.new.now in
    let i = c.loop-spot.spot-index in
    let p = c.place_of-place.result in
    let old = c.loop-spot.places.items in
    elim c.if-touched_at.branch [
      | then-touched_at+in_ok-push w ↦
          let grown = w.in_ok-push.ensures.items in
          let kept : (q : Place) → Contains old q
          → Contains w.push.new.self.items q = λ q h.
          subst (λ (ps : List Place). Contains ps q) (sym grown) (Contains-append_left old (p ∷ []) q h) in
          rw w.places-is
          (record {
            only = reached_more b e old w.push.new.self.items p grown (c.touched_at.ensures.some w.if-touched_at.true)
                c.loop-spot.invariant.only;
            kept = λ q h. kept q (c.loop-spot.invariant.kept q h);
            all = has_more b e c.args.spots.now i _ p old w.push.new.self.items c.touched_at.result
                c.loop-spot-test.true c.place_of-place.ensures kept
                (λ t. subst (λ (ps : List Place). Contains ps p) (sym grown) (Contains-push old p))
                c.touched_at.ensures.all c.loop-spot.invariant.all;
          })
      | else-touched_at w ↦
          rw w.places-is
          (record {
            only = c.loop-spot.invariant.only;
            kept = c.loop-spot.invariant.kept;
            all = has_more b e c.args.spots.now i _ p old old c.touched_at.result c.loop-spot-test.true
                c.place_of-place.ensures (λ q h. h) (λ t. absurd (let f = w.if-touched_at.false in cc))
                c.touched_at.ensures.all c.loop-spot.invariant.all;
          })
    ]

pub returns-clause-all : goal.returns-clause-all
returns-clause-all c = subst (λ (ss : List Spot). HasReached c.args.old.now c.args.new.now ss c.loop-spot.places.items)
    (take_all c.loop-spot.spot-index c.args.spots.now c.loop-spot-test.false) c.loop-spot.invariant.all
