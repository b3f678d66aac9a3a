use Rattle.std.proofs.Common.{◌∙◌, ap}
use Rattle.journal_lines.specs.HeaderReading.{judged_header}
use Rattle.journal_lines.proofs.HeaderReadLemmas.{found_from, only_from, prints_from, utf8_from}
use Rattle.journal_lines.proofs.HeaderFaultLemmas.{long_iff, date_iff, code_iff, one_cause}
use Rattle.journal_lines.proofs.header.read_header.Goals as goal

pub returns-clause-found : goal.returns-clause-found
returns-clause-found c =
    found_from c.args.line.now c.judged_header.result (c.judged_header.ensures ∙ ap judged_header c.cut_header.ensures)

pub returns-clause-only : goal.returns-clause-only
returns-clause-only c =
    only_from c.args.line.now c.judged_header.result (c.judged_header.ensures ∙ ap judged_header c.cut_header.ensures)

pub returns-clause-utf8 : goal.returns-clause-utf8
returns-clause-utf8 c =
    utf8_from c.args.line.now c.judged_header.result (c.judged_header.ensures ∙ ap judged_header c.cut_header.ensures)

pub returns-clause-long : goal.returns-clause-long
returns-clause-long c =
    long_iff c.args.line.now c.judged_header.result (c.judged_header.ensures ∙ ap judged_header c.cut_header.ensures)

pub returns-clause-undated : goal.returns-clause-undated
returns-clause-undated c =
    date_iff c.args.line.now c.judged_header.result (c.judged_header.ensures ∙ ap judged_header c.cut_header.ensures)

pub returns-clause-unclosed : goal.returns-clause-unclosed
returns-clause-unclosed c =
    code_iff c.args.line.now c.judged_header.result (c.judged_header.ensures ∙ ap judged_header c.cut_header.ensures)

pub returns-clause-causes : goal.returns-clause-causes
returns-clause-causes c =
    one_cause c.args.line.now c.judged_header.result (c.judged_header.ensures ∙ ap judged_header c.cut_header.ensures)

pub returns-clause-prints : goal.returns-clause-prints
returns-clause-prints c =
    prints_from c.args.line.now c.judged_header.result (c.judged_header.ensures ∙ ap judged_header c.cut_header.ensures)
