use Rattle.std.proofs.Common.{rules}
use Rattle.treasury_reports.proofs.SortLemmas.{by_day_from_sort}
use Rattle.treasury_reports.proofs.listed.sort_by_day.Goals as goal

pub returns-clause-ok : goal.returns-clause-ok
returns-clause-ok c =
    by_day_from_sort c.args.all.now.items c.sort_by_key.new.self.items c.in_ok-sort_by_key.ensures.sorted
    c.in_ok-sort_by_key.ensures.stable (λ a r q k. search rules)
