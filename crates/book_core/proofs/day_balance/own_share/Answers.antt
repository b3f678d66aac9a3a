use Rattle.std.proofs.Common.{◌≡◌, ◌∙◌, ◌+◌, ◌-◌, ◌<◌, ◌≤◌, ◌⊎◌, Bool, true, false, length, refl, sym, arith, inl, inr}
use Rattle.std.proofs.Common.{rules, w64}
use Rattle.std.specs.Prelude.{not}
use Rattle.std.proofs.lemmas.Int.{to_z-of_z}
use Rattle.book_core.specs.Query.{takes_in}
use Rattle.book_core.proofs.DayPlaceLemmas.{own_none, own_away, own_there, moved_entry}
use Rattle.book_core.proofs.day_balance.own_share.Goals as goal

pub returns-then-place-eq0 : goal.returns-then-place-eq0
returns-then-place-eq0 c =
    sym (own_none (takes_in c.args.query.now) c.args.place 1 c.args.entries.now (outside c.then-place-eq0.either))
  where
    outside : (c.args.place.entry ≡ 0)
        ⊎ ((c.args.place.entry ≡ 0 → ⊥) × (length c.args.entries.now < c.args.place.entry))
        → (c.args.place.entry < 1) ⊎ (1 + length c.args.entries.now ≤ c.args.place.entry)
    outside (inl h) = inl (omega arith)
    outside (inr h) = let k = h.1 in inr (omega arith)

opposite : (s t : Bool) → s ≡ not t → s ≡ true → t ≡ false
opposite s true e f = absurd (cc)
opposite s false e f = refl

same : (s t : Bool) → s ≡ not t → s ≡ false → t ≡ true
same s true e f = refl
same s false e f = absurd (cc)

pub returns-then-ne : goal.returns-then-ne
returns-then-ne c =
    let h = c.if-place-entries.false in
    let k = c.if-place-eq0.false in
    sym (own_away (takes_in c.args.query.now) c.args.place c.args.entries.now (c.args.place.entry - 1)
    c.index-entries-place.result (omega arith) c.index-entries-place.is (omega arith)
    (opposite c.ne.result _ c.ne.ensures c.if-ne.true))

pub sum_legs-requires : goal.sum_legs-requires
sum_legs-requires c = omega (
  arith,
  c.requires c.args.query.now.unit,
  moved_entry c.args.query.now.unit c.args.entries.now (c.args.place.entry - 1) c.index-entries-place.result
      (let h = c.if-place-entries.false in let k = c.if-place-eq0.false in omega arith) c.index-entries-place.is,
)

pub returns : goal.returns
returns c =
    let h = c.if-place-entries.false in
    let k = c.if-place-eq0.false in
    to_z-of_z w64 c.sum_legs.result (search rules) ∙ c.sum_legs.ensures
    ∙ sym (own_there (takes_in c.args.query.now) c.args.place c.args.entries.now (c.args.place.entry - 1)
    c.index-entries-place.result (omega arith) c.index-entries-place.is (omega arith)
    (same c.ne.result _ c.ne.ensures c.if-ne.false))
