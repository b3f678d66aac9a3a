use Rattle.std.proofs.Common.{◌≡◌, ◌++◌, ℤ, drop}
use Rattle.import_notes.specs.DayPlaces.{kept_on}
use Rattle.import_notes.specs.Edited.{places_on}
use Rattle.import_notes.proofs.edited.days_of.Given as goal

-- those so far, and those of the rest
abbrev pub invariant-loop-place : goal.invariant-loop-place
invariant-loop-place l =
    (day : ℤ) → kept_on l.days day ++ places_on day l.place (drop l.place l.held) ≡ places_on day 0 l.held
