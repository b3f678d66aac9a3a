use Rattle.std.proofs.Common.{◌∙◌, ap, sym, find, List}
use Rattle.journal_format.specs.declared.posting.Posting.{Posting}
use Rattle.import_notes.specs.Marks.{names_mark, comments_below}
use Rattle.import_notes.proofs.MarkLemmas.{found_first, found_later}
use Rattle.import_notes.proofs.marks.unmarked_comment.Goals as goal

pub returns-in-Some : goal.returns-in-Some
returns-in-Some c =
    let t = c.args.row.now.txn in
    sym (found_first names_mark t.comments (comments_below t.postings) c.in-Some.comment.now
    (sym (c.in-Some.ensures ∙ ap (find names_mark) c.items.ensures)))

pub returns-in-None : goal.returns-in-None
returns-in-None c =
    let t = c.args.row.now.txn in
    c.first_below.ensures ∙ ap (λ (ps : List Posting). find names_mark (comments_below ps)) c.items-in-None.ensures
    ∙ sym (found_later names_mark t.comments (comments_below t.postings)
    (sym (c.in-None.ensures ∙ ap (find names_mark) c.items.ensures)))
