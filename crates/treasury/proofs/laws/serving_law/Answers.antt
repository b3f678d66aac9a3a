use Rattle.std.proofs.Common.{false, subst}
use Rattle.std.proofs.Math.Logic.{∥∥₁_map}
use Rattle.treasury_files.specs.declared.left.Left.{Left}
use Rattle.treasury_files.specs.Left.{MayBe, MayComeBack}
use Rattle.treasury.proofs.FileLemmas.{shows_of, found_closed}
use Rattle.treasury.proofs.laws.serving_law.Goals as goal

pub returns-clause-headline : goal.returns-clause-headline
returns-clause-headline g c start left served f holds clean =
    let shown = shows_of _ start served.opened f holds (served.found clean) (served.serves clean) in
    let answered = served.answers clean f shown in (
      answered.0,
      answered.1,
      c.calls_law.ensures.headline (record { now = f; failed = false }) served.calls answered.0 holds.good answered.1,
      λ next may. found_closed _ start left next answered.0.now (served.closed, served.is_left, answered.2) may,
    )

pub returns-clause-left_open : goal.returns-clause-left_open
returns-clause-left_open g c start left served f holds clean =
    let shown = shows_of _ start served.opened f holds (served.found clean) (served.serves clean) in
    let answered = served.answers clean f shown in (
      answered.0,
      answered.1,
      c.calls_law.ensures.headline (record { now = f; failed = false }) served.calls answered.0 holds.good answered.1,
      λ still next may. answered.2 still next (subst (λ (l : Left _ _). MayBe _ start l next) served.is_left may),
      λ next may. ∥∥₁_map (served.finds clean next (subst (λ (l : Left _ _). MayBe _ start l next) served.is_left may))
          (λ found. (found.0, found.2, answered.3 found.0 found.1)),
    )

pub returns-clause-left_shut : goal.returns-clause-left_shut
returns-clause-left_shut g c start left served f holds clean =
    let shown = shows_of _ start served.opened f holds (served.found clean) (served.serves clean) in
    let answered = served.answers clean f shown in (
      answered.0,
      answered.1,
      c.calls_law.ensures.headline (record { now = f; failed = false }) served.calls answered.0 holds.good answered.1,
      λ trees may. answered.2 trees (subst (λ (l : Left _ _). MayComeBack _ l trees) served.is_left may),
    )
