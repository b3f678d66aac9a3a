use Rattle.std.proofs.Common.{◌∙◌, ap, List, ℕ, drop, length}
use Rattle.std.specs.Str.{is_utf8}
use Rattle.journal_lines.specs.Blank.{trim}
use Rattle.journal_format.proofs.DirectiveLemmas.{behind_word_utf8}
use Rattle.journal_format.proofs.directive.behind_word.Goals as goal

pub returns-clause-utf8 : goal.returns-clause-utf8
returns-clause-utf8 c text =
    ap is_utf8 (c.trim.ensures.value ∙ ap trim
    (c.behind.ensures ∙ ap (λ (w : List ℕ). drop (length w) c.args.text.now) c.first_word.ensures.value))
    ∙ behind_word_utf8 c.args.text.now text
