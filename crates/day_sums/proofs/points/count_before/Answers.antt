use Rattle.std.proofs.Common.{◌≡◌, sym, ap, ◌∙◌, pos, w64, ℤ, negsuc, ◌+ℤ◌, arith, to_z, of_z, ◌-ℤ◌}
use Rattle.std.specs.List.{prefix_len}
use Rattle.std.proofs.lemmas.Int.{to_z-of_z, ints}
use Rattle.day_sums.specs.Points.{is_through, IsUpTo}
use Rattle.day_sums.proofs.SearchLemmas.{same_prefix}
use Rattle.day_sums.proofs.points.count_before.Goals as goal

-- a number of fewer bits, less one
less_one : (at : ℤ) → IsUpTo 4294967296 at → to_z w64 (of_z w64 (to_z w64 (of_z w64 at) -ℤ pos 1)) ≡ at +ℤ negsuc 0
less_one at small =
    let l = small.low in
    let h = small.high in
    ap (λ (z : ℤ). to_z w64 (of_z w64 (z -ℤ pos 1))) (to_z-of_z w64 at (omega (arith, ints))) ∙ to_z-of_z w64
    (at -ℤ pos 1) (omega (arith, ints))

pub returns-clause-value : goal.returns-clause-value
returns-clause-value c =
    c.count_through.ensures.value
    ∙ ap (λ (a : ℤ). prefix_len (is_through a) c.args.points.now) (less_one c.args.at c.requires.small)
    ∙ sym (same_prefix c.args.points.now c.args.at)
