use Rattle.std.proofs.Common.{refl, inr}
use Rattle.treasury_rows.proofs.UnitRowLemmas.{same_not_new, err_not_new}
use Rattle.treasury_rows.proofs.drafting.unit_rows.declare_next.Goals as goal

pub returns-in-Ok-Same-clause-err : goal.returns-in-Ok-Same-clause-err
returns-in-Ok-Same-clause-err c =
    inr (refl, same_not_new c.args.styles.now c.args.style _ _ c.in-Ok-Same.field-0-is c.in-Ok-Same.ensures.answer)

pub returns-in-Err-clause-err : goal.returns-in-Err-clause-err
returns-in-Err-clause-err c = err_not_new c.args.styles.now c.args.style _ _ c.damage.ensures c.in-Err.ensures.answer
