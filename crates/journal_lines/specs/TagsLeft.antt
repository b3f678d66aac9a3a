-- What a run over the tags has yet to give.
use Rattle.std.specs.Prelude.{ℕ, List}
use Rattle.journal_lines.specs.declared.tag.Tags.{Tags}
use Rattle.journal_lines.specs.Tag.{tags_of}

-- the tags that are left
abbrev pub tags_left : Tags → List (List ℕ × List ℕ)
tags_left run = tags_of run.rest.now
