use Rattle.std.proofs.Common.{◌≡◌, ◌+◌, ◌-◌, ◌∙◌, length, arith, ap, append-nil, sym, ℕ, List, length-append}
use Rattle.money_core.specs.declared.style.Style.{Style}
use Rattle.journal_format.specs.declared.posting.Posting.{Posting}
use Rattle.journal_format.specs.CanonicalText.{posting_line}
use Rattle.journal_format.specs.BodySize.{line_size}
use Rattle.journal_format.specs.PrintedParts.{whole_line, comments_part, posting_part}
use Rattle.journal_format.specs.Room.{room_behind}
use Rattle.journal_format.proofs.RoomLemmas.{room_none, room_twice}
use Rattle.journal_format.proofs.printable.room_behind_posting.Goals as goal

line_is : (styles : List Style) (p : Posting) → line_size styles p ≡ length (whole_line (posting_line styles p))
unfolding line_size
line_is styles p = ap length (append-nil (whole_line (posting_line styles p)))

pub returns-then-size-room : goal.returns-then-size-room
returns-then-size-room c =
    let styles = c.args.styles.now in
    let p = c.args.posting.now in
    let both = length-append (whole_line (posting_line styles p)) (comments_part p.comments) in
    sym (room_none c.args.room (length (posting_part styles p))
    (omega (arith, c.if-size-room.true, c.line_size-size.ensures.size, line_is styles p, both)))

pub returns : goal.returns
returns c =
    let styles = c.args.styles.now in
    let p = c.args.posting.now in
    let both = length-append (whole_line (posting_line styles p)) (comments_part p.comments) in
    let size = c.line_size-size.result in
    let n = length (whole_line (posting_line styles p)) in
    let same : size ≡ n = c.line_size-size.ensures.size ∙ line_is styles p in
    c.room_behind_remarks.ensures
    ∙ (ap (λ (xs : List (List ℕ)). room_behind (c.args.room - size) (length (comments_part xs))) c.items.ensures
    ∙ (room_twice c.args.room size (length (comments_part p.comments)) (omega (arith, c.if-size-room.false))
    ∙ ap (λ (k : ℕ). room_behind c.args.room k)
    (ap (λ (k : ℕ). k + length (comments_part p.comments)) same ∙ sym both)))
