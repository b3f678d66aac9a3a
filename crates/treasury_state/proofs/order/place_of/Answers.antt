use Rattle.std.proofs.Common.{rules, of_calls, sym}
use Rattle.std.proofs.lemmas.Fn.{always_returns_same}
use Rattle.treasury_state.specs.Room.{is_before}
use Rattle.treasury_state.proofs.SearchLemmas.{partitioned_by_id, prefix_at}
use Rattle.treasury_state.proofs.order.place_of.Goals as goal

pub returns-clause-value : goal.returns-clause-value
returns-clause-value c =
    let id = c.args.id.now in
    let ts = c.args.transfers.now in
    let point = c.partition_point.ensures.partitioned (is_before id)
    (always_returns_same _ _ _ (λ a r f k. search (rules, of_calls))) (partitioned_by_id id ts c.requires) in
    sym (prefix_at id ts c.partition_point.result c.partition_point.ensures.bound point)
