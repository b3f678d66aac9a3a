use Rattle.std.proofs.Common.{◌≡◌, ◌+◌, ◌∙◌, length, arith, ap, sym, List}
use Rattle.std.proofs.lemmas.List.{take_all}
use Rattle.std.proofs.lemmas.List.Folds.{length-flat_map-take}
use Rattle.std.proofs.lemmas.List.Sums.{AllPass-from_list_all}
use Rattle.journal_format.specs.declared.posting.Posting.{Posting}
use Rattle.journal_format.specs.Printable.{is_posting}
use Rattle.journal_format.specs.PrintedParts.{posting_part, postings_part}
use Rattle.journal_format.proofs.RoomLemmas.{room_none, room_some, room_found, room_missed, parts_next}
use Rattle.journal_format.proofs.printable.room_behind_postings.Goals as goal

pub room_behind_posting-requires : goal.room_behind_posting-requires
room_behind_posting-requires c =
    let good = AllPass-from_list_all (is_posting c.args.styles.now) c.args.postings.now c.requires
    c.postings.posting-index c.posting-item.result c.postings-test.true in
    ap (is_posting c.args.styles.now) c.posting-item.is ∙ good

pub returns-in-None : goal.returns-in-None
returns-in-None c =
    let f = posting_part c.args.styles.now in
    let xs = c.args.postings.now in
    let x = c.posting-item.result in
    let over = room_missed c.postings.left (length (f x)) (sym c.room_behind_posting.ensures ∙ c.in-None.is) in
    let all = length-flat_map-take f xs c.postings.posting-index x c.postings-test.true in
    let same = ap (λ (p : Posting). length (f p)) c.posting-item.is in
    sym (room_none c.args.room (length (postings_part c.args.styles.now xs))
    (omega (arith, c.postings.invariant, over, all, same)))

pub postings-preserved : goal.postings-preserved
postings-preserved c =
    let f = posting_part c.args.styles.now in
    let x = c.posting-item.result in
    let found =
    room_found c.postings.left (length (f x)) c.in-Some.rest (sym c.room_behind_posting.ensures ∙ c.in-Some.is) in
    let next = parts_next f c.args.postings.now c.postings.posting-index x c.postings-test.true c.posting-item.is in
    omega (arith, c.postings.invariant, found, next)

pub returns : goal.returns
returns c =
    let xs = c.args.postings.now in
    let styles = c.args.styles.now in
    let whole = take_all c.postings.posting-index xs (omega (arith, c.postings-test.false)) in
    let e : c.postings.left + length (postings_part styles xs) ≡ c.args.room =
    ap (λ (ys : List Posting). c.postings.left + length (postings_part styles ys)) (sym whole) ∙
    c.postings.invariant in
    sym (room_some c.args.room (length (postings_part styles xs)) c.postings.left e)
