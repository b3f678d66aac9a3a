use Rattle.std.proofs.Common.{◌≡◌, ◌∙◌, ◌∷◌, sym, length, [], List, ℕ, ap, IfSome, subst}
use Rattle.std.proofs.lemmas.Bool.{eqb-true}
use Rattle.std.proofs.lemmas.List.{nil_from_length}
use Rattle.journal_lines.specs.Tag.{tags_of}
use Rattle.journal_lines.proofs.TagLemmas.{part_has_none, part_has_one, no_tags}
use Rattle.journal_lines.proofs.tag.next_tag.Goals as goal

pub loop-part-preserved : goal.loop-part-preserved
loop-part-preserved c =
    sym (part_has_none (λ tag. (tag.0.now, tag.1.now)) c.first_tag-tag.result c.loop-part.rest.now
    c.before-part.result.now c.behind-rest.result.now
    (record { front = c.before-part.ensures; behind = c.behind-rest.ensures }) c.first_tag-tag.ensures
    (sym c.if-is_some.ensures)) ∙ c.loop-part.invariant

pub returns-then-is_some-clause-found : goal.returns-then-is_some-clause-found
returns-then-is_some-clause-found c =
    subst (λ (all : List (List ℕ × List ℕ)).
    IfSome c.first_tag-tag.result (λ tag. all ≡ (tag.0.now, tag.1.now) ∷ tags_of c.behind-rest.result.now))
    c.loop-part.invariant
    (part_has_one (λ tag. (tag.0.now, tag.1.now)) c.first_tag-tag.result c.loop-part.rest.now c.before-part.result.now
    c.behind-rest.result.now
    (record { front = c.before-part.ensures; behind = c.behind-rest.ensures }) c.first_tag-tag.ensures)

pub returns-clause-none : goal.returns-clause-none
returns-clause-none c =
    let ended : c.loop-part.rest.now ≡ [] =
    nil_from_length c.loop-part.rest.now (eqb-true (length c.loop-part.rest.now) 0 (sym c.loop-part-test.ensures))
    in
    let none : tags_of c.loop-part.rest.now ≡ [] = ap tags_of ended ∙ no_tags in
    (sym c.loop-part.invariant ∙ none, none)
