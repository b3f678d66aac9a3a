use Rattle.std.proofs.Common.{◌∙◌, arith, length, sym}
use Rattle.std.proofs.lemmas.Bool.{le-ltb}
use Rattle.journal_lines.specs.Comment.{comment_of}
use Rattle.journal_lines.specs.Header.{length_of}
use Rattle.journal_lines.proofs.WithinLemmas.{comment_within}
use Rattle.journal_format.proofs.limit.has_long_comment.Goals as goal

pub returns-else-line-gt-MAX_COMMENT : goal.returns-else-line-gt-MAX_COMMENT
returns-else-line-gt-MAX_COMMENT c =
    let line = c.args.line.now in
    le-ltb 900 (length line) c.if-line-gt-MAX_COMMENT.false ∙ sym
    (le-ltb 900 (length_of (comment_of line)) (omega (arith, comment_within line, c.if-line-gt-MAX_COMMENT.false)))
