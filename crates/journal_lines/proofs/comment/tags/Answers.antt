use Rattle.std.proofs.Common.{sym, subst}
use Rattle.journal_lines.specs.Tag.{comment_parts, AreTagsOf}
use Rattle.journal_lines.proofs.TagLemmas.{are_tags_of}
use Rattle.journal_lines.proofs.comment.tags.Goals as goal

pub returns-clause-rule : goal.returns-clause-rule
returns-clause-rule c = subst (AreTagsOf (comment_parts c.args.comment.now)) (sym c.new.ensures)
    (are_tags_of (comment_parts c.args.comment.now))
