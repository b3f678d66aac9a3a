use Rattle.std.proofs.Common.{◌≡◌, List, ℕ, Some, None, take, drop, ◌+◌, ap, ◌∙◌, sym, subst}
use Rattle.treasury_api.specs.RunEnd.{AnswersWhole}
use Rattle.treasury_api.proofs.LineLemmas.{IsFeedPlace, first_feed, cut_at_feed, behind_feed}
use Rattle.treasury_api.proofs.RunLemmas.{whole_part, fed_further, fed_stops}
use Rattle.treasury_api.proofs.lines.run.feed.Goals as goal

pub end_line-requires-clause-more : goal.end_line-requires-clause-more
end_line-requires-clause-more g c =
    let at : IsFeedPlace (Some c.in-Some.place) c.feeding.rest.now =
    first_feed c.feeding.rest.now (Some c.in-Some.place) (sym c.in-Some.ensures) in
    rw c.split_at.ensures.front at.1

pub feeding-preserved : goal.feeding-preserved
feeding-preserved g c =
    let so_far = c.feeding.invariant in
    let rest = c.feeding.rest.now in
    let at : IsFeedPlace (Some c.in-Some.place) rest = first_feed rest (Some c.in-Some.place) (sym c.in-Some.ensures) in
    let behind : c.split_at-in-feeding.result.1.now ≡ drop (c.in-Some.place + 1) rest =
    c.split_at-in-feeding.ensures.back ∙ ap (drop 1) c.split_at.ensures.back ∙ behind_feed rest c.in-Some.place in
    rw behind
    (fed_further g.M.Machine.step _ _ _ _ _ _ so_far.0 c.feeding.line.items (take c.in-Some.place rest)
    (drop (c.in-Some.place + 1) rest) rest _ _ so_far.1.0
    (rw c.split_at.ensures.front at c.in-Ok.ensures) (cut_at_feed rest c.in-Some.place at.0 at.2) so_far.1.1)

pub returns-in-Err : goal.returns-in-Err
returns-in-Err g c =
    let so_far = c.feeding.invariant in
    let rest = c.feeding.rest.now in
    let at : IsFeedPlace (Some c.in-Some.place) rest = first_feed rest (Some c.in-Some.place) (sym c.in-Some.ensures) in
    fed_stops c.in-Err.cause g.M.Machine.step _ _ _ _ _ _ so_far.0 c.feeding.line.items (take c.in-Some.place rest)
    (drop (c.in-Some.place + 1) rest) rest _ so_far.1.0
    (rw c.split_at.ensures.front at c.in-Err.ensures) (cut_at_feed rest c.in-Some.place at.0 at.2) so_far.1.1

pub returns-in-Ok-extend_from_slice : goal.returns-in-Ok-extend_from_slice
returns-in-Ok-extend_from_slice g c =
    let so_far = c.feeding.invariant in
    let plain : IsFeedPlace None c.feeding.rest.now = first_feed c.feeding.rest.now None (sym c.in-None.ensures) in
    let whole = whole_part g.M.Machine.step _ _ _ _ so_far.0 c.feeding.line.items c.feeding.rest.now
    c.extend_from_slice.new.self.items so_far.1.0 plain c.in-Ok-extend_from_slice.ensures.items in
    let P : List ℕ → Type 0 = λ seen.
    AnswersWhole g.M.Machine.step (g.W.Write.contents c.args.writer.now) (g.W.Write.contents c.feeding.writer)
    c.args.machine.now seen c.extend_from_slice.new.self.items c.feeding.machine in
    subst P (sym so_far.1.1) whole
