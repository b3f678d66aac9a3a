use Rattle.std.proofs.Common.{◌≡◌, ◌∙◌, ◌∷◌, [], ◌++◌, ap, rules, ℤ, List, to_z, of_z}
use Rattle.std.specs.Int.{w64, w128}
use Rattle.std.proofs.lemmas.Int.{to_z-of_z}
use Rattle.std.proofs.lemmas.Result.{on_ok_weaker}
use Rattle.treasury_messages.specs.declared.kind.MessageKind.{MessageKind}
use Rattle.treasury_messages.specs.declared.kind.MessageKind.TheVariants as is
use Rattle.treasury_messages.specs.Said.{Said, says}
use Rattle.treasury_messages.specs.Pieces.{shown_amount}
use Rattle.treasury_reasons.proofs.FailureLemmas.{said_thrice}
use Rattle.treasury_reasons.proofs.failure.say_amounts.Goals as goal

pub returns : goal.returns
returns c =
    let f = c.args.failure.now in
    let line : MessageKind → ℤ → List Said = λ kind q.
    says kind (shown_amount c.args.styles.now f.unit q ∷ []) ∷ [] in
    let old = c.args.out.now.items in
    let one = c.say.new.out.items in
    let two = c.say-2.new.out.items in
    let asserted = to_z-of_z w128 c.from-asserted.result (search rules) ∙ c.from-asserted.ensures
    ∙ to_z-of_z w64 f.asserted (search rules) in
    let found = to_z-of_z w128 c.from-found.result (search rules) ∙ c.from-found.ensures
    ∙ to_z-of_z w64 f.found (search rules) in
    let less = to_z-of_z w128 c.difference-less.result (search rules) ∙ c.difference-less.ensures in
    on_ok_weaker c.say-3.result
    (λ e. said_thrice old one two _ (line is.Asserted f.asserted) (line is.Found f.found) _
    (c.in_ok-say.ensures.ok ∙ ap (λ (q : ℤ). old ++ line is.Asserted q) asserted)
    (c.in_ok-say-2.ensures.ok ∙ ap (λ (q : ℤ). one ++ line is.Found q) found)
    (e ∙ ap (λ (q : ℤ). two ++ line is.Difference q) less))
    c.say-3.ensures.ok
