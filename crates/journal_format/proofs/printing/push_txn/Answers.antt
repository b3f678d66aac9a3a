use Rattle.std.proofs.Common.{◌++◌, ◌∙◌, append_assoc}
use Rattle.money_core.proofs.PrintedLemmas.{appended_twice}
use Rattle.journal_format.specs.PrintedParts.{header_part, mark_part, comments_and_postings_part}
use Rattle.journal_format.proofs.PrintingLemmas.{ok_behind, txn_parts}
use Rattle.journal_format.proofs.printing.push_txn.Goals as goal

pub returns-clause-ok : goal.returns-clause-ok
returns-clause-ok c =
    let t = c.args.txn.now in
    let styles = c.args.styles.now in
    let front = appended_twice c.args.out.now.items c.push_header.new.out.items c.push_mark.new.out.items
    (header_part t) (mark_part t.mark) c.in_ok-push_header.ensures.ok c.in_ok-push_mark.ensures.ok in
    ok_behind c.push_rest.result c.args.out.now.items c.push_mark.new.out.items c.push_rest.new.out.items
    (header_part t ++ mark_part t.mark) (comments_and_postings_part styles t) _
    front (append_assoc (header_part t) (mark_part t.mark) (comments_and_postings_part styles t) ∙ txn_parts styles t)
    c.push_rest.ensures.ok
