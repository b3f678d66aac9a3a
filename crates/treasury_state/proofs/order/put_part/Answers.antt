use Rattle.std.proofs.Common.{◌≡◌, ◌∙◌, ap, ℕ, List}
use Rattle.std.specs.Prelude.{insert}
use Rattle.std.specs.List.{prefix_len}
use Rattle.treasury_state.specs.declared.transfer.Part.{Part}
use Rattle.treasury_state.specs.Room.{is_key_before}
use Rattle.treasury_state.proofs.SearchLemmas.{part_put}
use Rattle.treasury_state.proofs.order.put_part.Goals as goal

pub returns-in-Ok-clause-ok : goal.returns-in-Ok-clause-ok
returns-in-Ok-clause-ok c =
    let ps = c.args.parts.now in
    let x = c.args.part in
    let i = c.place_of_key-place.result in
    let place = c.place_of_key-place.ensures.value ∙ ap
    (λ (key : List ℕ). prefix_len (is_key_before key) c.items.result.now) c.as_str.ensures ∙ ap
    (prefix_len (is_key_before x.key)) c.items.ensures in
    c.from_vec.ensures ∙ (c.in-Ok.ensures.items ∙
    (ap (λ (xs : List Part). insert xs i x) (c.into_vec-list.ensures ∙ c.replace.ensures.value) ∙
    (ap (λ (n : ℕ). insert ps n x) place ∙ part_put x ps)))
