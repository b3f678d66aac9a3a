use Rattle.std.proofs.Common.{◌≡◌}
use Rattle.std.specs.List.{list_any}
use Rattle.journal_lines.specs.Tag.{tags_of}
use Rattle.journal_lines.specs.TagsLeft.{tags_left}
use Rattle.treasury_reports.specs.RegisterReport.{is_asked}
use Rattle.treasury_reports.proofs.asked.comment_has.Given as goal

abbrev pub invariant-tags : goal.invariant-tags
invariant-tags l =
    (goal.iterator-tags).can_next l.name-iterator × (goal.iterator-tags).is_finite l.name-iterator
    × (list_any (is_asked l.asked) (tags_left l.name-iterator) ≡ list_any (is_asked l.asked) (tags_of l.comment))
