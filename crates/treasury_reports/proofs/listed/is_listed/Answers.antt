use Rattle.std.proofs.Common.{ap, ◌∙◌}
use Rattle.book_core.specs.Account.{is_inside}
use Rattle.treasury_reports.proofs.RegisterLemmas.{inside_test}
use Rattle.treasury_reports.proofs.listed.is_listed.Goals as goal

pub returns : goal.returns
returns c = inside_test c.args.account.now c.as_str.result.now c.is_inside.result c.is_inside.ensures ∙ ap
    (is_inside c.args.account.now) c.as_str.ensures
