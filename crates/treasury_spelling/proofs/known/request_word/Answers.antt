use Rattle.std.proofs.Common.{map, true, false, []}
use Rattle.treasury_requests.specs.Words.{word_name, needed, further}
use Rattle.treasury_spelling.specs.Known.{argument, placed_shape}
use Rattle.treasury_spelling.proofs.KnownLemmas.{leaf_with}
use Rattle.treasury_spelling.proofs.known.request_word.Goals as goal

pub returns : goal.returns
returns c =
    let w = c.args.page.now.word in
    leaf_with (placed_shape (word_name w) []) (map (argument w true) (needed w)) (map (argument w false) (further w))
    c.in_ok-command.command c.in_ok-command-2.command c.with_keys-2.result
    (rw (← c.row-row.ensures.name) c.in_ok-command.ensures)
    (rw (← c.row-row.ensures.needed) c.in_ok-command-2.ensures.app)
    c.in_ok-command-2.ensures.local
    (rw (← c.row-row.ensures.further) c.with_keys-2.ensures.app) c.with_keys-2.ensures.local
