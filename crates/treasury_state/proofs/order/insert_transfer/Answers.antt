use Rattle.std.proofs.Common.{◌∙◌, ap, ℕ, List}
use Rattle.std.specs.Prelude.{insert}
use Rattle.std.specs.List.{prefix_len}
use Rattle.treasury_state.specs.declared.transfer.Transfer.{Transfer}
use Rattle.treasury_state.specs.Room.{is_before}
use Rattle.treasury_state.proofs.SearchLemmas.{inserted_at}
use Rattle.treasury_state.proofs.order.insert_transfer.Goals as goal
use Rattle.treasury_state.proofs.order.insert_transfer.Goals.{in-Ok, in-Err}

pub returns-clause-ok : goal.returns-clause-ok
returns-clause-ok c =
    let ts = c.args.transfers.now.items in
    let x = c.args.transfer in
    let place = c.place_of-place.ensures.value ∙ ap (λ (id : List ℕ). prefix_len (is_before id) c.deref.result.now)
    c.as_str.ensures ∙ ap (λ (xs : List Transfer). prefix_len (is_before x.id) xs) c.deref.ensures.value in
    elim c.match-insert.branch [
      | in-Ok w ↦ rw w.result-is (w.in-Ok.ensures.items ∙ ap (λ (n : ℕ). insert ts n x) place ∙ inserted_at x ts)
      | in-Err w ↦ rw w.result-is tt
    ]
