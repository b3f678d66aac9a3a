use Rattle.std.proofs.Common.{◌∙◌, ap, sym, rules, w64}
use Rattle.std.proofs.lemmas.Int.{to_z-of_z}
use Rattle.day_sums.specs.Blocks.{block_of}
use Rattle.day_sums.proofs.BlockLemmas.{one_spread, one_point, one_part, spread_as}
use Rattle.day_sums.proofs.blocks.Blocks.one.Goals as goal

pub invariant_of-result : goal.invariant_of-result
invariant_of-result c =
    let day = to_z-of_z w64 c.args.day (search rules) in
    let qty = to_z-of_z w64 c.args.qty (search rules) in
    let block = to_z-of_z w64 c.block_at-block.result (search rules) ∙ c.block_at-block.ensures.value
    ∙ ap block_of day in
    spread_as _ _ _ _ (sym (one_point _ _ _ _ _ c.in_ok-tops.ensures.value block qty))
    (sym (one_part _ _ _ _ _ _ c.in_ok-insert.ensures.entries c.new-parts.ensures.empty block
    (one_point _ _ _ _ _ c.in_ok-own.ensures.value day qty)))
    (one_spread c.args.day c.args.qty (search rules))
