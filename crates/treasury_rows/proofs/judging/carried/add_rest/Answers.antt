use Rattle.std.proofs.Common.{◌≡◌, ◌∙◌, ◌++◌, ◌∷◌, [], ap, sym, map, List, Option}
use Rattle.std.proofs.lemmas.Result.{on_ok_weaker}
use Rattle.treasury_state.specs.declared.record.Record.{Record}
use Rattle.treasury_state.specs.declared.transfer.Part.{Part}
use Rattle.treasury_state.specs.declared.transfer.Receipt.{Receipt}
use Rattle.treasury_state.specs.Transfer.{of_rest, receipt_record}
use Rattle.treasury_rows.proofs.PartSizeLemmas.{rest_small}
use Rattle.treasury_rows.proofs.judging.carried.add_rest.Goals as goal

pub receipt_record-requires : goal.receipt_record-requires
receipt_record-requires c = rest_small c.args.transfer.now c.in_ok-part-in-Some.part.qty c.requires.parts
    (ap (λ (p : Part). p.qty) c.in_ok-part-in-Some.ensures.value) c.requires.small

pub returns-in_ok-row-in-Some-clause-ok : goal.returns-in_ok-row-in-Some-clause-ok
returns-in_ok-row-in-Some-clause-ok c =
    let t = c.args.transfer.now in
    let rows = c.args.rows.now in
    on_ok_weaker c.push.result
    (λ e. e ∙ (ap (λ (r : Record). rows ++ r ∷ [])
    (c.in_ok-row-in-Some.ensures.value ∙ ap (receipt_record t) c.in_ok-part-in-Some.ensures.value) ∙ sym
    (ap (λ (o : Option Receipt). rows ++ map (receipt_record t) (of_rest t o)) c.in-Some.is)))
    c.push.ensures.ok
