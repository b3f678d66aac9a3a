use Rattle.std.proofs.Common.{◌≡◌, ℕ, ◌<◌, ◌++◌, take, drop, length, get_or, arith, sym, ap, ◌∙◌, ℤ, ◌+ℤ◌, List, rules}
use Rattle.std.proofs.Common.{to_z, of_z, w64, FitsSigned, set, add-one, subst}
use Rattle.std.proofs.lemmas.Int.{ints, to_z-of_z}
use Rattle.day_sums.specs.declared.points.Point.{Point}
use Rattle.day_sums.specs.Points.{blank_point, raised_from, more, IsUpTo}
use Rattle.std.specs.List.{AllByRecursion}
use Rattle.day_sums.proofs.RaiseLemmas.{raise_step, raise_here}
use Rattle.day_sums.proofs.SearchLemmas.{all_at}
use Rattle.day_sums.proofs.points.raise_from.Goals as goal

fits_sum : (a q : ℤ) → IsUpTo 40000000000000000 a → IsUpTo 10000000000000000 q → FitsSigned w64 (a +ℤ q)
fits_sum a q h k = let w = h.low in let x = h.high in let y = k.low in let z = k.high in omega (arith, ints)

small_here : (now ps : List Point) (k i : ℕ) (q : ℤ) → now ≡ take i (raised_from k q ps) ++ drop i ps → i < length ps
    → AllByRecursion (λ (p : Point). IsUpTo 40000000000000000 p.sum) ps
    → IsUpTo 40000000000000000 (get_or now i blank_point).sum
small_here now ps k i q e h small =
    subst (λ (x : Point). IsUpTo 40000000000000000 x.sum)
    (sym (ap (λ (qs : List Point). get_or qs i blank_point) e ∙ raise_here k i q ps blank_point h))
    (all_at (λ (p : Point). IsUpTo 40000000000000000 p.sum) ps i blank_point small h)

pub overflow_add-point : goal.overflow_add-point
overflow_add-point c =
    let q = to_z w64 (of_z w64 c.args.qty) in
    let x = get_or c.loop-i.points c.loop-i.i blank_point in
    let old : to_z w64 (of_z w64 x.sum) ≡ x.sum = to_z-of_z w64 x.sum (search rules) in
    let qty : to_z w64 (of_z w64 c.args.qty) ≡ c.args.qty = to_z-of_z w64 c.args.qty (search rules) in
    subst (λ (z : ℤ). FitsSigned w64 (z +ℤ q)) (sym old)
    (subst (λ (z : ℤ). FitsSigned w64 (x.sum +ℤ z)) (sym qty)
    (fits_sum x.sum c.args.qty (small_here c.loop-i.points c.args.points.now c.args.start c.loop-i.i q
    c.loop-i.invariant c.loop-i-test.true c.requires.sums) c.requires.qty))

pub loop-i-preserved : goal.loop-i-preserved
loop-i-preserved c =
    let ps = c.args.points.now in
    let i = c.loop-i.i in
    let q = to_z w64 (of_z w64 c.args.qty) in
    let k = c.args.start in
    let x = get_or c.loop-i.points i blank_point in
    let old : to_z w64 (of_z w64 x.sum) ≡ x.sum = to_z-of_z w64 x.sum (search rules) in
    let qty : to_z w64 (of_z w64 c.args.qty) ≡ c.args.qty = to_z-of_z w64 c.args.qty (search rules) in
    let fits : FitsSigned w64 (to_z w64 (of_z w64 x.sum) +ℤ q) =
    subst (λ (z : ℤ). FitsSigned w64 (z +ℤ q)) (sym old)
    (subst (λ (z : ℤ). FitsSigned w64 (x.sum +ℤ z)) (sym qty)
    (fits_sum x.sum c.args.qty (small_here c.loop-i.points ps k i q c.loop-i.invariant c.loop-i-test.true
    c.requires.sums) c.requires.qty)) in
    let here : x ≡ get_or ps i blank_point =
    ap (λ (qs : List Point). get_or qs i blank_point) c.loop-i.invariant ∙ raise_here k i q ps blank_point
    c.loop-i-test.true in
    let now : to_z w64 (of_z w64 (to_z w64 (of_z w64 x.sum) +ℤ q)) ≡ x.sum +ℤ q =
    to_z-of_z w64 (to_z w64 (of_z w64 x.sum) +ℤ q) fits ∙ ap (λ (z : ℤ). z +ℤ q) old in
    ap (λ (z : ℤ). set c.loop-i.points i ((let y : Point = record { at = x.at; sum = z } in y))) now
    ∙ ap (λ (y : Point). set c.loop-i.points i (more q y)) here
    ∙ ap (λ (qs : List Point). set qs i (more q (get_or ps i blank_point))) c.loop-i.invariant
    ∙ raise_step k i q ps blank_point (omega arith) c.loop-i-test.true
    ∙ ap (λ (j : ℕ). take j (raised_from k q ps) ++ drop j ps) (sym (add-one i))
