use Rattle.std.proofs.Common.{◌≡◌, ◌∙◌, ap, sym, true, false, List, ℕ, arith, set}
use Rattle.std.specs.List.{prefix_len}
use Rattle.std.specs.Str.{bytes_eq}
use Rattle.std.proofs.lemmas.Result.{on_ok_weaker}
use Rattle.treasury_state.specs.declared.transfer.Transfer.{Transfer}
use Rattle.treasury_state.specs.Room.{is_before}
use Rattle.treasury_state.proofs.SearchLemmas.{received_past_end, kept_there, received_there}
use Rattle.treasury_state.proofs.NotLemmas.{not_true, not_false}
use Rattle.treasury_state.proofs.order.receive_transfer.Goals as goal

pub returns-then-place-len : goal.returns-then-place-len
returns-then-place-len c =
    let place = c.place_of-place.ensures.value ∙ ap (λ (ts : List Transfer). prefix_len (is_before c.args.id.now) ts)
    c.deref.ensures.value in
    record {
      ok = received_past_end c.args.id.now c.args.part c.args.transfers.now.items c.place_of-place.result c.requires
          place (omega arith);
      memory = tt;
    }

pub returns-then-ne-clause-ok : goal.returns-then-ne-clause-ok
returns-then-ne-clause-ok c =
    let id = c.args.id.now in
    let place = c.place_of-place.ensures.value ∙ ap (λ (ts : List Transfer). prefix_len (is_before id) ts)
    c.deref.ensures.value in
    let t = c.index_mut-transfer.result.now in
    let test : bytes_eq t.id id ≡ false =
    ap (λ (x : List ℕ). bytes_eq x id) (sym c.as_str.ensures) ∙ not_true c.ne.ensures c.if-ne.true in
    kept_there id c.args.part c.args.transfers.now.items c.place_of-place.result t c.requires place (omega arith)
    c.index_mut-transfer.ensures.value test

pub returns-clause-ok : goal.returns-clause-ok
returns-clause-ok c =
    let id = c.args.id.now in
    let place = c.place_of-place.ensures.value ∙ ap (λ (ts : List Transfer). prefix_len (is_before id) ts)
    c.deref.ensures.value in
    let ts = c.args.transfers.now.items in
    let t = c.index_mut-transfer.result.now in
    let test : bytes_eq t.id id ≡ true =
    ap (λ (x : List ℕ). bytes_eq x id) (sym c.as_str.ensures) ∙ not_false c.ne.ensures c.if-ne.false in
    on_ok_weaker c.add_receipt.result
    (λ e. ap (set ts c.place_of-place.result) e ∙ received_there id c.args.part ts c.place_of-place.result t place
    (omega arith) c.index_mut-transfer.ensures.value test)
    c.add_receipt.ensures.ok
