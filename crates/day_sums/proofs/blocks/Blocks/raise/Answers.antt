use Rattle.std.proofs.Common.{◌≡◌, ◌∙◌, ◌&&◌, Bool, true, false, ap, sym, subst, ℤ, rules, w64, to_z, of_z}
use Rattle.std.proofs.lemmas.Int.{to_z-of_z}
use Rattle.day_sums.specs.Points.{IsUpTo, has_point}
use Rattle.day_sums.specs.Blocks.{Spread, points_at, block_of, day_sum, has_day, IsSpread, RaisedDays}
use Rattle.day_sums.proofs.BlockLemmas.{small_tops, small_parts, raised_blocks}
use Rattle.day_sums.proofs.blocks.Blocks.raise.Goals as goal

small_view : (s v : Spread) → s ≡ v → ((d : ℤ) → IsUpTo 10000000000000000 (day_sum v d)) → (d : ℤ)
    → IsUpTo 10000000000000000 (day_sum s d)
small_view s v e small d = subst (λ (x : Spread). IsUpTo 10000000000000000 (day_sum x d)) (sym e) (small d)

pub raise-requires-clause-sums : goal.raise-requires-clause-sums
raise-requires-clause-sums c = small_tops (c.self.inside.tops, c.self.inside.parts.entries) c.self.invariant
    (small_view _ _ c.self.view_is c.requires.sums)

pub raise_in-requires-clause-sums : goal.raise_in-requires-clause-sums
raise_in-requires-clause-sums c = small_parts (c.self.inside.tops, c.self.inside.parts.entries) c.self.invariant
    (small_view _ _ c.self.view_is c.requires.sums) _

-- an open day has its point in its block
own_open : (d : ℤ) (s : Spread) → has_day d s ≡ true → has_point d (points_at s.1 (block_of d)) ≡ true
own_open d s h = part (has_point (block_of d) s.0) (has_point d (points_at s.1 (block_of d))) h
  where
    part : (t u : Bool) → (t && u) ≡ true → u ≡ true
    part true u e = e
    part false u e = absurd (cc)

pub raise_in-requires-clause-open : goal.raise_in-requires-clause-open
raise_in-requires-clause-open c =
    let es = c.self.inside.parts.entries in
    let day = to_z-of_z w64 c.args.day (search rules) in
    let block = to_z-of_z w64 c.block_at-block.result (search rules) ∙ c.block_at-block.ensures.value
    ∙ ap block_of day in
    ap (λ (z : ℤ). has_point z (points_at es (to_z w64 (of_z w64 c.block_at-block.result)))) day
    ∙ ap (λ (k : ℤ). has_point c.args.day (points_at es k)) block
    ∙ own_open c.args.day (c.self.inside.tops, es)
    (ap (has_day c.args.day) c.self.view_is ∙ c.requires.open)

both : (c : goal.After-raise_in)
    → (let s : Spread = (c.raise.new.self, c.raise_in.new.parts.entries) in IsSpread s
    × RaisedDays c.args.day c.args.qty (c.self.inside.tops, c.self.inside.parts.entries) s)
both c =
    let r : Spread = (c.self.inside.tops, c.self.inside.parts.entries) in
    let s : Spread = (c.raise.new.self, c.raise_in.new.parts.entries) in
    raised_blocks r s c.args.day c.args.qty _ _ _
    (to_z-of_z w64 c.block_at-block.result (search rules) ∙ c.block_at-block.ensures.value ∙ ap block_of
    (to_z-of_z w64 c.args.day (search rules)))
    (to_z-of_z w64 c.args.day (search rules))
    (to_z-of_z w64 c.args.qty (search rules))
    c.raise.ensures c.raise_in.ensures.own c.raise_in.ensures.others
    (small_view _ _ c.self.view_is c.requires.sums) c.requires.qty c.self.invariant

pub invariant_of-self : goal.invariant_of-self
invariant_of-self c = (both c).0

pub returns : goal.returns
returns c = subst
    (λ (r : Spread). RaisedDays c.args.day c.args.qty r (c.raise.new.self, c.raise_in.new.parts.entries))
    c.self.view_is (both c).1
