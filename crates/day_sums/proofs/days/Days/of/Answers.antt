use Rattle.std.proofs.Common.{◌≡◌, ◌∙◌, ◌∷◌, [], ℤ, List, ap, sym, subst, pos, rules, w64}
use Rattle.std.proofs.lemmas.Int.{to_z-of_z}
use Rattle.day_sums.specs.declared.points.Point.{Point}
use Rattle.day_sums.specs.Blocks.{Spread, one_day}
use Rattle.day_sums.specs.Row.{Kept, one, SameRow}
use Rattle.day_sums.proofs.BlockLemmas.{point, one_point, one_part}
use Rattle.day_sums.proofs.RowLemmas.{same_none}
use Rattle.day_sums.proofs.days.Days.of.Goals as goal

one_spread_as : (s : Spread) (a b z q : ℤ) → s ≡ one_day a z → a ≡ b → z ≡ q → s ≡ one_day b q
one_spread_as s a b z q e f g = e ∙ ap (λ (x : ℤ). one_day x z) f ∙ ap (one_day b) g

abbrev kept : Spread → List (ℤ × List Point) → Kept
kept s es = (s, es)

both : (s t : Spread) (es fs : List (ℤ × List Point)) → s ≡ t → es ≡ fs → kept s es ≡ kept t fs
both s t es fs e f = ap (λ (x : Spread). kept x es) e ∙ ap (kept t) f

pub returns-clause-same : goal.returns-clause-same
returns-clause-same c =
    let day = to_z-of_z w64 c.number_of-at.result (search rules) ∙ c.number_of-at.ensures.value in
    let number = to_z-of_z w64 c.wide.result (search rules) ∙ c.wide.ensures.value in
    let qty = to_z-of_z w64 c.args.qty (search rules) in
    subst (SameRow (one c.args.day c.args.number c.args.qty))
    (sym (both _ (one_day c.args.day.0 c.args.qty) _ ((c.args.day.0, point (pos c.args.number) c.args.qty ∷ []) ∷ [])
    (one_spread_as _ _ _ _ _ c.in_ok-days.ensures.value day qty)
    (one_part _ _ _ _ _ _ c.in_ok-insert.ensures.entries c.new-numbers.ensures.empty day
    (one_point _ _ _ _ _ c.in_ok-own.ensures.value number qty))))
    (same_none (one c.args.day c.args.number c.args.qty))
