use Rattle.journal_format.specs.PrintedParts.{header_part, comments_and_postings_part}
use Rattle.journal_format.proofs.PrintingLemmas.{ok_behind, body_parts}
use Rattle.journal_format.proofs.printing.push_body.Goals as goal

pub returns-clause-ok : goal.returns-clause-ok
returns-clause-ok c =
    let t = c.args.txn.now in
    let styles = c.args.styles.now in
    ok_behind c.push_rest.result c.args.out.now.items c.push_header.new.out.items c.push_rest.new.out.items
    (header_part t) (comments_and_postings_part styles t) _
    c.in_ok-push_header.ensures.ok (body_parts styles t) c.push_rest.ensures.ok
