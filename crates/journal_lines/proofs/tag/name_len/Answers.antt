use Rattle.std.proofs.Common.{not}
use Rattle.journal_lines.specs.Tag.{is_tag_byte}
use Rattle.journal_lines.proofs.LineSteps.{none_place}
use Rattle.journal_lines.proofs.tag.name_len.Goals as goal

pub returns-in-None-clause-value : goal.returns-in-None-clause-value
returns-in-None-clause-value c = none_place (λ b. not (is_tag_byte b)) c.args.text.now c.in-None.ensures
