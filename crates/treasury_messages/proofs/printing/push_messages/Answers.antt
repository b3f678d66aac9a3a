use Rattle.std.proofs.Common.{◌∙◌, ◌++◌, ℕ, List, [], refl, sym, ap, append_assoc, append-nil, arith}
use Rattle.std.proofs.Common.{Result, Ok, Err, OnErr}
use Rattle.treasury_messages.proofs.PrintedLemmas.{first_more, first_all}
use Rattle.treasury_messages.proofs.printing.push_messages.Goals as goal

on_err : {T E : Type 0} (r : Result T E) (P : Type 0) → P → OnErr r P
on_err (Ok v) P h = tt
on_err (Err e) P h = h

pub loop-message-init : goal.loop-message-init
loop-message-init c = ([], refl, sym (append-nil c.args.out.now.items))

pub loop-message-preserved : goal.loop-message-preserved
loop-message-preserved c =
    let before = c.loop-message.invariant in
    let said = c.in_ok-push_message.ensures.ok in (
      before.0 ++ said.0,
      first_more c.args.messages.now c.loop-message.message-index c.message-item.result before.0 said.0 (omega arith)
          c.message-item.is before.1 said.1,
      said.2 ∙ ap (λ (t : List ℕ). t ++ said.0) before.2 ∙ append_assoc c.args.out.now.items before.0 said.0,
    )

pub returns-clause-ok : goal.returns-clause-ok
returns-clause-ok c =
    let before = c.loop-message.invariant in
    (before.0, first_all c.args.messages.now c.loop-message.message-index before.0 (omega arith) before.1, before.2)

pub returns-in_err-push_message-clause-err : goal.returns-in_err-push_message-clause-err
returns-in_err-push_message-clause-err c =
    let before = c.loop-message.invariant in
    on_err c.from_residual.result _
    (before.0, (c.loop-message.message-index, before.1), c.in_err-push_message.ensures.err ∙ before.2)
