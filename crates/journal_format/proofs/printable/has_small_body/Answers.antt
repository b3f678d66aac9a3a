use Rattle.std.proofs.Common.{◌≡◌, ◌+◌, ◌-◌, ◌∙◌, length, arith, ap, sym, ℕ, List, length-append, nat_le}
use Rattle.std.specs.Prelude.{is_some}
use Rattle.std.proofs.lemmas.Bool.{lt-leb}
use Rattle.money_core.specs.declared.style.Style.{Style}
use Rattle.journal_format.specs.declared.posting.Posting.{Posting}
use Rattle.journal_format.specs.declared.txn.Txn.{Txn}
use Rattle.journal_format.specs.CanonicalText.{body_text}
use Rattle.journal_format.specs.Room.{room_behind}
use Rattle.journal_format.specs.PrintedParts.{header_part, comments_part, postings_part, comments_and_postings_part}
use Rattle.journal_format.proofs.PrintingLemmas.{body_parts}
use Rattle.journal_format.proofs.RoomLemmas.{room_found, room_missed, room_is, sum_fits}
use Rattle.journal_format.proofs.printable.has_small_body.Goals as goal

body_length : (styles : List Style) (t : Txn)
    → length (header_part t) + (length (comments_part t.comments) + length (postings_part styles t.postings))
    ≡ length (body_text styles t)
body_length styles t =
    sym (length-append (header_part t) (comments_and_postings_part styles t)
    ∙ ap (λ (k : ℕ). length (header_part t) + k)
    (length-append (comments_part t.comments) (postings_part styles t.postings)))
    ∙ ap length (body_parts styles t)

pub returns-in-Some : goal.returns-in-Some
returns-in-Some c =
    let styles = c.args.styles.now in
    let t = c.args.txn.now in
    let h = length (header_part t) in
    let n = length (comments_part t.comments) in
    let p = length (postings_part styles t.postings) in
    let size : c.header_size.result ≡ h = c.header_size.ensures.size in
    let comments : c.room_behind_remarks.result ≡ room_behind (1_000_000 - c.header_size.result) n =
    c.room_behind_remarks.ensures ∙ ap
    (λ (xs : List (List ℕ)). room_behind (1_000_000 - c.header_size.result) (length (comments_part xs)))
    c.items.ensures in
    let found = room_found (1_000_000 - c.header_size.result) n c.in-Some.room (sym comments ∙ c.in-Some.is) in
    let postings : c.room_behind_postings.result ≡ room_behind c.in-Some.room p =
    c.room_behind_postings.ensures ∙ ap
    (λ (xs : List Posting). room_behind c.in-Some.room (length (postings_part styles xs))) c.items-in-Some.ensures
    in
    let fits = sum_fits h n p 1_000_000 c.in-Some.room (omega (arith, size, c.header_size.ensures.bound))
    (omega (arith, size, found)) in
    c.is_some.ensures ∙ (ap is_some postings ∙
    (room_is c.in-Some.room p ∙ (fits ∙ ap (λ (k : ℕ). nat_le k 1_000_000) (body_length styles t))))

pub returns-in-None : goal.returns-in-None
returns-in-None c =
    let styles = c.args.styles.now in
    let t = c.args.txn.now in
    let n = length (comments_part t.comments) in
    let size : c.header_size.result ≡ length (header_part t) = c.header_size.ensures.size in
    let comments : c.room_behind_remarks.result ≡ room_behind (1_000_000 - c.header_size.result) n =
    c.room_behind_remarks.ensures ∙ ap
    (λ (xs : List (List ℕ)). room_behind (1_000_000 - c.header_size.result) (length (comments_part xs)))
    c.items.ensures in
    let over = room_missed (1_000_000 - c.header_size.result) n (sym comments ∙ c.in-None.is) in
    sym (lt-leb (length (body_text styles t)) 1_000_000
    (omega (arith, over, size, c.header_size.ensures.bound, body_length styles t)))
