use Rattle.journal_lines.proofs.KindLemmas.{shown_remark}
use Rattle.journal_lines.proofs.line_kind.is_remark.Goals as goal

pub returns-clause-comment : goal.returns-clause-comment
returns-clause-comment c = shown_remark c.args.line.now c.trim_start.result.now c.first_byte.result
    c.trim_start.ensures.value c.first_byte.ensures
