use Rattle.std.proofs.Common.{◌≡◌, ◌<◌, ◌≤◌, ◌∙◌, ◌+◌, ◌-◌, ◌∷◌, ℕ, ap, sym, arith, length, drop, take, get_or}
use Rattle.std.proofs.Common.{add-one, length-drop}
use Rattle.std.proofs.Math.Seq.{drop-cons}
use Rattle.std.proofs.lemmas.List.{take_all}
use Rattle.import_notes.specs.Marks.{begins_mark}
use Rattle.import_notes.proofs.MarkLemmas.{names_left}
use Rattle.import_notes.proofs.marks.names_mark.Goals as goal

pub loop-at-preserved : goal.loop-at-preserved
loop-at-preserved c =
    let text = c.args.comment.now in
    let at = c.loop-at.at in
    let inside : at < length text = omega (arith, c.loop-at-test.true) in
    let left : length (drop at text) ≤ length text - at = grind (arith, length-drop) in
    names_left (drop at text) (drop (at + 1) text) (get_or text at 0)
    (drop-cons text at 0 inside ∙ ap (λ (n : ℕ). get_or text at 0 ∷ drop n text) (sym (add-one at)))
    (sym (ap begins_mark (take_all (length text - at) (drop at text) left))
    ∙ sym c.begins_mark.ensures ∙ c.if-begins_mark.false)
    ∙ c.loop-at.invariant
