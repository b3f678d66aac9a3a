use Rattle.journal_lines.proofs.PrintedLemmas.{comments_read_back}
use Rattle.journal_lines.proofs.Utf8Lemmas.{comment_line_utf8}
use Rattle.journal_lines.proofs.printed.print_comment.Goals as goal

pub returns-in-Ok-clause-reads : goal.returns-in-Ok-clause-reads
returns-in-Ok-clause-reads c = comments_read_back c.args.text.now

pub returns-in-Ok-clause-utf8 : goal.returns-in-Ok-clause-utf8
returns-in-Ok-clause-utf8 c = comment_line_utf8 c.args.text.now

pub returns-in-Err-clause-reads : goal.returns-in-Err-clause-reads
returns-in-Err-clause-reads c = comments_read_back c.args.text.now

pub returns-in-Err-clause-utf8 : goal.returns-in-Err-clause-utf8
returns-in-Err-clause-utf8 c = comment_line_utf8 c.args.text.now
