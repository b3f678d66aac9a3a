use Rattle.std.proofs.Common.{rules, ◌==◌}
use Rattle.std.proofs.lemmas.Iterator.Splits.{YieldsList-from_slice_split}
use Rattle.std.proofs.lemmas.Iterator.Search.{any_from_yields_List}
use borrow.Author.Tests.{tests}
use Rattle.http_request.specs.Accept.{is_nought}
use Rattle.http_request.proofs.accept.has_nought.Goals as goal

pub returns : goal.returns
returns c =
    any_from_yields_List is_nought _ _ c.any.result c.any.ensures.ran
    (YieldsList-from_slice_split _ (λ b. b == 59) c.args.parameters.now c.split.ensures.rest c.split.ensures.done
    c.split.ensures.closure (λ x b q k. search (rules, tests)))
    (λ x b q k. search (rules, tests))
