use Rattle.std.proofs.Common.{◌∙◌, sym, arith}
use Rattle.treasury_reasons.proofs.NumberedLemmas.{numbered_first, numbered_behind}
use Rattle.treasury_reasons.proofs.numbered.entry_at.Goals as goal

pub returns-then-number-records : goal.returns-then-number-records
returns-then-number-records c =
    c.record_at.ensures
    ∙ sym (numbered_first c.args.records.now c.args.new.now c.args.number c.if-number-records.true)

pub returns-else-number-records : goal.returns-else-number-records
returns-else-number-records c =
    c.record_at-else-number-records.ensures
    ∙ sym (numbered_behind c.args.records.now c.args.new.now c.args.number _ (omega (arith, c.if-number-records.false))
    (omega (arith, c.if-number-records.false)))
