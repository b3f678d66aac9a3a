use Rattle.std.proofs.Common.{◌<◌, [], length, arith, ◌∙◌}
use Rattle.std.proofs.lemmas.List.{get_or_default}
use Rattle.book_core.proofs.AccountListLemmas.{found_at, Contains-found}
use Rattle.treasury_reports.proofs.names.has_name.Goals as goal

pub returns-then-at-names : goal.returns-then-at-names
returns-then-at-names c =
    let place = found_at c.args.names.now c.args.name.now c.count_before-at.result c.requires
    c.count_before-at.ensures.before c.count_before-at.ensures.after in
    ((λ h. absurd (cc)), (λ h. absurd (omega (arith, (place h).0))))

pub returns : goal.returns
returns c =
    let names = c.args.names.now in
    let at = c.count_before-at.result in
    let here : at < length names = omega arith in
    Contains-found names c.args.name.now at c.as_str.result.now c.eq.result c.requires c.count_before-at.ensures.before
    c.count_before-at.ensures.after here
    (c.as_str.ensures ∙ c.index-names-at.is ∙ get_or_default names at c.index-names-at.result [] here) c.eq.ensures
