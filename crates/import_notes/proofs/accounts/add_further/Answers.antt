use Rattle.std.proofs.Common.{◌≡◌, ◌∙◌, ap, sym, map, take, rules, arith, subst}
use Rattle.std.specs.Prelude.{OnOk}
use Rattle.std.proofs.lemmas.Grind.{common_steps}
use Rattle.std.proofs.lemmas.List.{take-map}
use Rattle.treasury_messages.specs.Said.{Said}
use Rattle.import_notes.specs.BroughtAccounts.{posted_view, most_further}
use Rattle.import_notes.proofs.BroughtLemmas.{further_named}
use Rattle.import_notes.proofs.accounts.add_further.Goals as goal

pub returns : goal.returns
returns c =
    let items = c.args.further.now in
    let few : take c.min.result items ≡ take most_further items =
    first_of (search rules, grind (arith, common_steps)) in
    subst (λ (m : Said). OnOk c.add_left_out.result (c.add_left_out.new.message ≡ m))
    (further_named c.args.message.now c.add_posted.new.message items (take c.min.result items)
    c.in_ok-add_posted.ensures (ap (map posted_view) few ∙ sym (take-map posted_view most_further items)))
    c.add_left_out.ensures
