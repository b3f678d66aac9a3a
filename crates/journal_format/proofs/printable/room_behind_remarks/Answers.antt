use Rattle.std.proofs.Common.{◌≡◌, ◌+◌, ◌∙◌, ◌∷◌, [], length, arith, ap, append-nil, sym, ℕ, List}
use Rattle.std.proofs.lemmas.List.{take_all}
use Rattle.std.proofs.lemmas.List.Folds.{length-flat_map-take}
use Rattle.journal_format.specs.BodySize.{remarks_size}
use Rattle.journal_format.specs.PrintedParts.{comment_part, comments_part}
use Rattle.journal_format.proofs.RoomLemmas.{room_none, room_some, parts_next}
use Rattle.journal_format.proofs.printable.room_behind_remarks.Goals as goal

remark_is : (text : List ℕ) → remarks_size (text ∷ []) ≡ length (comment_part text)
unfolding remarks_size
remark_is text = ap length (append-nil (comment_part text))

pub returns-then-size-left : goal.returns-then-size-left
returns-then-size-left c =
    let xs = c.args.comments.now in
    let i = c.comments.comment-index in
    let x = c.comment-item.result in
    let size : c.remark_size-size.result ≡ length (comment_part x) =
    c.remark_size-size.ensures.size ∙
    (ap (λ (t : List ℕ). remarks_size (t ∷ [])) (c.as_bytes.ensures.value ∙ c.as_str.ensures) ∙ remark_is x) in
    let next = parts_next comment_part xs i x c.comments-test.true c.comment-item.is in
    let all = length-flat_map-take comment_part xs i x c.comments-test.true in
    let same = ap (λ (t : List ℕ). length (comment_part t)) c.comment-item.is in
    sym (room_none c.args.room (length (comments_part xs))
    (omega (arith, c.comments.invariant, c.if-size-left.true, size, all, same)))

pub comments-preserved : goal.comments-preserved
comments-preserved c =
    let xs = c.args.comments.now in
    let x = c.comment-item.result in
    let size : c.remark_size-size.result ≡ length (comment_part x) =
    c.remark_size-size.ensures.size ∙
    (ap (λ (t : List ℕ). remarks_size (t ∷ [])) (c.as_bytes.ensures.value ∙ c.as_str.ensures) ∙ remark_is x) in
    let next = parts_next comment_part xs c.comments.comment-index x c.comments-test.true c.comment-item.is in
    omega (arith, c.comments.invariant, c.if-size-left.false, size, next)

pub returns : goal.returns
returns c =
    let xs = c.args.comments.now in
    let whole = take_all c.comments.comment-index xs (omega (arith, c.comments-test.false)) in
    let e : c.comments.left + length (comments_part xs) ≡ c.args.room =
    ap (λ (ys : List (List ℕ)). c.comments.left + length (comments_part ys)) (sym whole) ∙ c.comments.invariant in
    sym (room_some c.args.room (length (comments_part xs)) c.comments.left e)
