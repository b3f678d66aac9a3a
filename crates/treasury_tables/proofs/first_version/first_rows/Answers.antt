use Rattle.std.proofs.Common.{◌∙◌}
use Rattle.treasury_tables.proofs.QueriedLemmas.{ok_then}
use Rattle.treasury_tables.proofs.LoadLemmas.{any_ok}
use Rattle.treasury_tables.proofs.first_version.first_rows.Goals as goal

pub returns-clause-shown : goal.returns-clause-shown
returns-clause-shown g c clean =
    ok_then c.read_all.result _ _
    (λ xs h. (
      c.in_ok-rows.rows.items,
      c.in_ok-rows.ensures.shown clean,
      λ ys e. h ys (c.deref.ensures.value ∙ e),
    )) c.read_all.ensures.same

pub returns-clause-has : goal.returns-clause-has
returns-clause-has g c = any_ok c.read_all.result _ c.in_ok-rows.ensures.has
