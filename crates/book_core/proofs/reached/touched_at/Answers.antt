use Rattle.std.proofs.Common.{arith, ap, sym, ◌∙◌}
use Rattle.std.proofs.lemmas.Int.{ints}
use Rattle.book_core.specs.declared.place.Place.{Place}
use Rattle.book_core.proofs.ExamineLemmas.{number_entries}
use Rattle.book_core.proofs.TouchedLemmas.{touched_some, touched_there, day_there}
use Rattle.book_core.proofs.reached.touched_at.Goals as goal

pub returns-then-place-eq0-clause-all : goal.returns-then-place-eq0-clause-all
returns-then-place-eq0-clause-all c x h s t =
    absurd (omega (arith, (number_entries 1 c.args.old.now x h).0, ap (λ (p : Place). p.entry) s, c.if-place-eq0.true))

pub returns-then-place-old-clause-all : goal.returns-then-place-old-clause-all
returns-then-place-old-clause-all c x h s t =
    absurd (omega (arith, (number_entries 1 c.args.old.now x h).1, ap (λ (p : Place). p.entry) s, c.if-place-old.true))

pub returns-then-entry-place-clause-all : goal.returns-then-entry-place-clause-all
returns-then-entry-place-clause-all c x h s t =
    let zero = c.if-place-eq0.false in
    let same = day_there c.args.old.now c.args.place c.index-old-place.result x (omega arith)
    (omega (arith, c.if-place-old.false)) c.index-old-place.is h s in
    absurd (grind (arith, ints, same, c.if-entry-place.true))

pub returns-clause-some : goal.returns-clause-some
returns-clause-some c h =
    let zero = c.if-place-eq0.false in
    touched_some c.args.old.now c.args.new.now c.args.place c.index-old-place.result (omega arith)
    (omega (arith, c.if-place-old.false)) c.index-old-place.is (grind (arith, ints, c.if-entry-place.false))
    (sym c.touched_on.ensures ∙ h)

pub returns-clause-all : goal.returns-clause-all
returns-clause-all c x h s t =
    let zero = c.if-place-eq0.false in
    c.touched_on.ensures ∙ touched_there c.args.old.now c.args.new.now c.args.place c.index-old-place.result x
    (omega arith) (omega (arith, c.if-place-old.false)) c.index-old-place.is h s t
