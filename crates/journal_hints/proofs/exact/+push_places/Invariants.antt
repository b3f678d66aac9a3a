use Rattle.journal_hints.proofs.exact.+push_places.Given as goal

abbrev pub decreases-push_places : goal.decreases-push_places
decreases-push_places l = l.count
