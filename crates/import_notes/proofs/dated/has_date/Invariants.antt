use Rattle.std.proofs.Common.{◌≡◌, ℕ, List, bytes_eq, codes}
use Rattle.std.specs.List.{list_any}
use Rattle.journal_lines.specs.TagsLeft.{tags_left}
use Rattle.import_notes.specs.Dated.{has_date}
use Rattle.import_notes.proofs.dated.has_date.Given as goal

-- those that are left have the tag if all have it
abbrev pub invariant-tags : goal.invariant-tags
invariant-tags l =
    (goal.iterator-tags).can_next l.name-iterator × (goal.iterator-tags).is_finite l.name-iterator
    × (list_any (λ (t : List ℕ × List ℕ). bytes_eq t.0 (codes "date")) (tags_left l.name-iterator)
    ≡ has_date l.comment)
