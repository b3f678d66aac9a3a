use Rattle.book_core.specs.Claim.{reach_of}
use Rattle.book_core.proofs.TouchedLemmas.{either_reach}
use Rattle.book_core.proofs.reached.touched_places.Goals as goal

pub returns-clause-all : goal.returns-clause-all
returns-clause-all c x h t = either_reach (reach_of x.claim.kind)
    (λ e. c.push_reached-2.ensures.kept x.place (c.in_ok-push_reached.ensures.all x h e t))
    (λ e. c.in_ok-push_reached-2.ensures.all x h e t)
