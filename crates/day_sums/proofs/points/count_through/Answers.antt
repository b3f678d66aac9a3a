use Rattle.std.proofs.Common.{◌≡◌, ◌/◌, ℕ, ◌≤◌, ◌-◌, ◌+◌, get_or, arith, sym, ap, ◌∙◌, rules, w64, to_z, of_z, ℤ}
use Rattle.std.specs.List.{prefix_len}
use Rattle.std.proofs.lemmas.List.Sums.{prefix_len_is}
use Rattle.std.proofs.lemmas.Int.{to_z-of_z, ints}
use Rattle.day_sums.proofs.SearchLemmas.{parted_through}
use Rattle.day_sums.specs.Points.{is_through, blank_point}
use Rattle.day_sums.proofs.points.count_through.Goals as goal

pub returns-clause-value : goal.returns-clause-value
returns-clause-value c =
    let i = c.halves.invariant in
    let a = to_z w64 (of_z w64 c.args.at) in
    let e : c.halves.low ≡ c.halves.high = omega arith in
    sym (prefix_len_is (is_through a) c.args.points.now c.halves.low blank_point (omega arith) i.passes
    (λ l. ap (λ (k : ℕ). is_through a (get_or c.args.points.now k blank_point)) e ∙ i.stops (omega arith)))
    ∙ ap (λ (b : ℤ). prefix_len (is_through b) c.args.points.now) (to_z-of_z w64 c.args.at (search rules))

pub halves-preserved-then-points-middle : goal.halves-preserved-then-points-middle
halves-preserved-then-points-middle c =
    let i = c.halves.invariant in
    record {
      order = omega arith;
      bound = i.bound;
      passes = λ k h. parted_through c.args.points.now _ c.requires k _ blank_point
          (let g : k ≤ c.halves.low + (c.halves.high - c.halves.low) / 2 = omega arith in g) (omega arith)
          (grind (arith, ints, c.if-points-middle.true));
      stops = i.stops;
    }
