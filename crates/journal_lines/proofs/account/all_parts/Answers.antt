use Rattle.std.proofs.Common.{rules, ◌==◌}
use Rattle.journal_lines.specs.AccountName.{is_part}
use Rattle.std.proofs.lemmas.Iterator.Splits.{YieldsList-from_slice_split}
use Rattle.std.proofs.lemmas.Iterator.Search.{all_from_yields_List}
use borrow.Author.Tests.{tests}
use Rattle.journal_lines.proofs.account.all_parts.Goals as goal

pub returns : goal.returns
returns c =
    all_from_yields_List is_part _ _ c.all.result c.all.ensures.ran
    (YieldsList-from_slice_split _ (λ b. b == 58) c.args.name.now c.split.ensures.rest c.split.ensures.done
    c.split.ensures.closure (λ x b q k. search (rules, tests)))
    (λ x b q k. search (rules, tests))
