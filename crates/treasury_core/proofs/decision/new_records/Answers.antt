use Rattle.std.proofs.Common.{[], sym, subst, ◌∙◌, arith, List}
use Rattle.std.specs.List.{AllByRecursion}
use Rattle.book_core.specs.GoodBook.{IsFit}
use Rattle.treasury_state.specs.declared.record.Record.{Record}
use Rattle.treasury_state.specs.Federation.{entries}
use Rattle.treasury_state.specs.Good.{IsGoodRecord}
use Rattle.treasury_state.proofs.RecordLemmas.{fit_records}
use Rattle.treasury_core.proofs.FileLemmas.{records_good, all-new}
use Rattle.treasury_core.proofs.decision.new_records.Goals as goal

pub new_of-requires-clause-rows : goal.new_of-requires-clause-rows
new_of-requires-clause-rows g c =
    let file = c.requires.file in
    subst (AllByRecursion (IsGoodRecord c.args.styles.now)) (sym c.in-Ok.ensures.value)
    (records_good c.args.styles.now [] c.args.file.now (omega (arith, file.few)) file.printable)

pub check-requires-clause-fit : goal.check-requires-clause-fit
check-requires-clause-fit g c =
    let styles = c.args.styles.now in
    subst (λ (rs : List Record). AllByRecursion IsFit (entries rs))
    (sym (c.items.ensures ∙ c.in-Ok-new_of.ensures.value))
    (fit_records styles _ (all-new (IsGoodRecord styles) c.items-held.result.now c.in-Ok.rows
    (subst (AllByRecursion (IsGoodRecord styles)) (sym c.in-Ok.ensures.value)
    (records_good styles [] c.args.file.now (omega (arith, c.requires.file.few)) c.requires.file.printable))))
