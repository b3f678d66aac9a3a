use Rattle.std.proofs.Common.{[], ◌∙◌, ap, sym, subst, arith}
use Rattle.std.specs.List.{AllByRecursion}
use Rattle.treasury_state.specs.Good.{IsGoodRecord}
use Rattle.treasury_core.specs.Step.{records_in_file}
use Rattle.treasury_core.proofs.FileLemmas.{records_good}
use Rattle.treasury_reasons.proofs.reading.read_rows.Goals as goal

pub returns-clause-good : goal.returns-clause-good
returns-clause-good c =
    let styles = c.args.styles.now in
    subst (AllByRecursion (IsGoodRecord styles))
    (sym (c.in-Ok-records_in_file.ensures.value ∙ ap (records_in_file styles) c.as_slice.ensures.value))
    (records_good styles [] c.in-Ok.file.items (omega (arith, c.in-Ok.file.small)) c.in-Ok.ensures.printable)
