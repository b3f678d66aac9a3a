use Rattle.std.proofs.Common.{◌≡◌, ◌∙◌, ◌+ℤ◌, ap, sym, subst, arith, ℤ, negsuc, pos, ◌-ℤ◌, rules, w64, to_z, of_z}
use Rattle.std.proofs.Common.{FitsSigned}
use Rattle.std.proofs.lemmas.Int.{ints, to_z-of_z}
use Rattle.day_sums.specs.Points.{IsUpTo, point_sum}
use Rattle.day_sums.specs.Blocks.{Spread, points_at, block_of, day_sum}
use Rattle.day_sums.proofs.blocks.Blocks.sum_through.Goals as goal

-- a number of fewer bits, less one
less_one : (at : ℤ) → IsUpTo 4503599627370496 at
    → to_z w64 (of_z w64 (to_z w64 (of_z w64 at) -ℤ pos 1)) ≡ at +ℤ negsuc 0
less_one at small =
    let l = small.low in
    let h = small.high in
    ap (λ (z : ℤ). to_z w64 (of_z w64 (z -ℤ pos 1))) (to_z-of_z w64 at (omega (arith, ints))) ∙ to_z-of_z w64
    (at -ℤ pos 1) (omega (arith, ints))

-- both parts
parts : (c : goal.After-sum_in-own)
    → c.sum_through-before.result +ℤ c.sum_in-own.result ≡ day_sum c.args.self.now c.args.day
parts c =
    let s : Spread = (c.self.inside.tops, c.self.inside.parts.entries) in
    let day = to_z-of_z w64 c.args.day (search rules) in
    let block = c.block_at-block.ensures.value ∙ ap block_of day in
    let before = c.sum_through-before.ensures ∙ ap (point_sum (pos 0) c.self.inside.tops)
    (less_one c.block_at-block.result c.block_at-block.ensures.wide ∙ ap (λ (k : ℤ). k +ℤ negsuc 0) block) in
    let own = c.sum_in-own.ensures ∙ ap
    (point_sum (pos 0) (points_at c.self.inside.parts.entries (to_z w64 (of_z w64 c.block_at-block.result)))) day ∙ ap
    (λ (k : ℤ). point_sum (pos 0) (points_at c.self.inside.parts.entries k) c.args.day)
    (to_z-of_z w64 c.block_at-block.result (search rules) ∙ block) in
    ap (λ (z : ℤ). z +ℤ c.sum_in-own.result) before
    ∙ ap (λ (z : ℤ). point_sum (pos 0) s.0 (block_of c.args.day +ℤ negsuc 0) +ℤ z) own
    ∙ ap (λ (x : Spread). day_sum x c.args.day) c.self.view_is

fits : (c : goal.After-sum_in-own) → FitsSigned w64 (c.sum_through-before.result +ℤ c.sum_in-own.result)
fits c = subst (FitsSigned w64)
    (sym (parts c ∙ ap (λ (x : Spread). day_sum x c.args.day) (sym c.self.view_is))) (c.self.invariant.fits c.args.day)

-- each is a machine integer
same : (c : goal.After-sum_in-own)
    → to_z w64 (of_z w64 c.sum_through-before.result) +ℤ to_z w64 (of_z w64 c.sum_in-own.result)
    ≡ c.sum_through-before.result +ℤ c.sum_in-own.result
same c = ap (λ (z : ℤ). z +ℤ to_z w64 (of_z w64 c.sum_in-own.result))
    (to_z-of_z w64 c.sum_through-before.result (search rules)) ∙ ap (λ (z : ℤ). c.sum_through-before.result +ℤ z)
    (to_z-of_z w64 c.sum_in-own.result (search rules))

pub overflow_add-result : goal.overflow_add-result
overflow_add-result c = subst (FitsSigned w64) (sym (same c)) (fits c)

pub returns : goal.returns
returns c = ap (λ (z : ℤ). to_z w64 (of_z w64 z)) (same c) ∙ to_z-of_z w64 _ (fits c) ∙ parts c
