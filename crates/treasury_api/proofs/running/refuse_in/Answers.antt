use Rattle.treasury_api.proofs.ServeLemmas.{refused_line, memory_line}
use Rattle.treasury_api.proofs.running.refuse_in.Goals as goal

pub returns-in-Plain : goal.returns-in-Plain
returns-in-Plain c = rw c.in-Plain.is (c.plain.ensures.text, c.plain.ensures.cause)

pub returns-in-Ok : goal.returns-in-Ok
returns-in-Ok c =
    refused_line c.args.styles.now c.args.refusal c.cause_of-cause.result c.new-text.result.items
    c.answer_line.new.out.items c.new-text.ensures.items c.in-Ok.ensures.ok c.cause_of-cause.ensures

pub returns-in-Err : goal.returns-in-Err
returns-in-Err c =
    rw c.plain-in-Err.ensures.cause (memory_line c.args.styles.now c.args.refusal _ c.in_default.not-Plain
    c.plain-in-Err.ensures.text)
