use Rattle.journal_lines.specs.HeaderView.{text_of}
use Rattle.journal_lines.proofs.DateLemmas.{dates_print}
use Rattle.journal_lines.proofs.PrintedLemmas.{headers_read_back}
use Rattle.journal_lines.proofs.Utf8Lemmas.{header_line_utf8}
use Rattle.journal_lines.proofs.printed.print_header.Goals as goal

pub returns-in-Ok-clause-reads : goal.returns-in-Ok-clause-reads
returns-in-Ok-clause-reads c = headers_read_back c.args.day c.args.status (text_of c.args.code) c.args.description.now

pub returns-in-Ok-clause-utf8 : goal.returns-in-Ok-clause-utf8
returns-in-Ok-clause-utf8 c = header_line_utf8 c.args.day c.args.status (text_of c.args.code) c.args.description.now
    (dates_print c.args.day c.requires)

pub returns-in-Err-clause-reads : goal.returns-in-Err-clause-reads
returns-in-Err-clause-reads c = headers_read_back c.args.day c.args.status (text_of c.args.code) c.args.description.now

pub returns-in-Err-clause-utf8 : goal.returns-in-Err-clause-utf8
returns-in-Err-clause-utf8 c = header_line_utf8 c.args.day c.args.status (text_of c.args.code) c.args.description.now
    (dates_print c.args.day c.requires)
