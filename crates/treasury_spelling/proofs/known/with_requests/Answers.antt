use Rattle.treasury_spelling.specs.Known.{request_shape}
use Rattle.treasury_spelling.proofs.KnownLemmas.{leaf_added, shapes_rest}
use Rattle.treasury_spelling.proofs.known.with_requests.Goals as goal

pub loop-page-preserved : goal.loop-page-preserved
loop-page-preserved c =
    shapes_rest (λ page. request_shape page.word) c.args.pages.now c.loop-page.page-index _ _ _ _
    c.loop-page-test.true
    (leaf_added _ c.loop-page.command c.in_ok-request_word.field-0 c.in_ok-command.command c.in_ok-request_word.ensures
    c.in_ok-command.ensures)
    c.loop-page.invariant
