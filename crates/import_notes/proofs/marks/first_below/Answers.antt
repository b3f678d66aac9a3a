use Rattle.std.proofs.Common.{◌∙◌, ◌+◌, ap, sym, drop, find, List}
use Rattle.journal_format.specs.declared.posting.Posting.{Posting}
use Rattle.money_core.proofs.ListLemmas.{drop_at}
use Rattle.import_notes.specs.Marks.{names_mark, comments_below}
use Rattle.import_notes.proofs.MarkLemmas.{found_first, found_later}
use Rattle.import_notes.proofs.marks.first_below.Goals as goal

pub returns-in-Some : goal.returns-in-Some
returns-in-Some c =
    let ps = c.args.postings.now in
    let i = c.loop-posting.posting-index in
    let p = c.posting-item.result in
    sym (found_first names_mark p.comments (comments_below (drop (i + 1) ps)) c.in-Some.comment.now
    (sym (c.in-Some.ensures ∙ ap (find names_mark) c.items.ensures)))
    ∙ sym (ap (λ (qs : List Posting). find names_mark (comments_below qs))
    (drop_at ps i p c.loop-posting-test.true c.posting-item.is)) ∙ c.loop-posting.invariant

pub loop-posting-preserved : goal.loop-posting-preserved
loop-posting-preserved c =
    let ps = c.args.postings.now in
    let i = c.loop-posting.posting-index in
    let p = c.posting-item.result in
    sym (found_later names_mark p.comments (comments_below (drop (i + 1) ps))
    (sym (c.in-None.ensures ∙ ap (find names_mark) c.items.ensures)))
    ∙ sym (ap (λ (qs : List Posting). find names_mark (comments_below qs))
    (drop_at ps i p c.loop-posting-test.true c.posting-item.is)) ∙ c.loop-posting.invariant
