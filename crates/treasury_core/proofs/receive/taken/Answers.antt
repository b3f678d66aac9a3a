use Rattle.std.proofs.Common.{◌≡◌, ◌⊎◌, ◌++◌, ◌∷◌, [], ◌∙◌, ap, subst, Some}
use Rattle.std.specs.Prelude.{IfErr}
use Rattle.money_core.specs.declared.cause.Cause.TheVariants.{OutOfMemory}
use Rattle.book_core.specs.declared.refusal.Refusal.TheVariants.{Plain}
use Rattle.book_core.specs.GoodBook.{verdict}
use Rattle.treasury_state.specs.declared.record.Record.{Record}
use Rattle.treasury_state.specs.Federation.{entries}
use Rattle.treasury_state.specs.Transfer.{receipt_record}
use Rattle.treasury_core.specs.Step.{receipt_of}
use Rattle.treasury_core.proofs.receive.taken.Goals as goal

pub returns-clause-err : goal.returns-clause-err
returns-clause-err g c =
    let same : c.in-Ok-receipt_record.row
    ≡ receipt_record c.args.transfer.now (receipt_of c.args.transfer.now c.args.receive.now) =
    c.in-Ok-receipt_record.ensures.value ∙ ap (receipt_record c.args.transfer.now) c.in-Ok.ensures.value in
    subst (λ (r : Record). IfErr c.recorded.result
    (λ e. (e ≡ Plain OutOfMemory)
    ⊎ (verdict (g.L.Ledger.book c.args.target.now.ledger ++ entries (r ∷ [])) ≡ Some e))) same
    c.recorded.ensures.err
