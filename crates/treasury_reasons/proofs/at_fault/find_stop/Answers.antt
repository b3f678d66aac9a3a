use Rattle.std.proofs.Common.{◌∙◌, ap}
use Rattle.treasury_core.specs.Step.{records_in_file, refused_in}
use Rattle.treasury_reasons.specs.Refused.{cause_in}
use Rattle.treasury_reasons.proofs.RefusedLemmas.{none_refused, stops_so}
use Rattle.treasury_reasons.proofs.at_fault.find_stop.Goals as goal

pub returns-in-Ok-clause-found : goal.returns-in-Ok-clause-found
returns-in-Ok-clause-found g c = λ list cause reads refused.
    let styles = c.args.styles.now in
    let b = c.args.branch.now in
    absurd (none_refused _ _ _ c.in-Ok.ensures.taken
    (ap (refused_in styles b.locked b.records) (c.in_ok-read.ensures.value.rows
    ∙ ap (records_in_file styles) (c.in_ok-read.ensures.only list reads))) refused)

pub returns-in_default-clause-found : goal.returns-in_default-clause-found
returns-in_default-clause-found g c = λ list cause reads refused.
    let styles = c.args.styles.now in
    let b = c.args.branch.now in
    let file = c.in_ok-read.ensures.only list reads in
    let rows = c.in_ok-read.ensures.value.rows ∙ ap (records_in_file styles) file in (
      file,
      rows,
      stops_so styles b.locked b.records _ c.in-Err.stop.place c.in-Err.stop.refusal c.cause_in.result cause
          (λ e. c.cause_in.ensures ∙ ap cause_in e) c.in_default.not-OutOfMemory c.in-Err.ensures.err
          c.in-Err.ensures.stops (ap (refused_in styles b.locked b.records) rows ∙ refused),
    )
