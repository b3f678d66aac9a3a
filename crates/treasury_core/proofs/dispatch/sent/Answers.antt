use Rattle.std.proofs.Common.{◌≡◌, ◌⊎◌, ◌++◌, ◌∷◌, [], ◌∙◌, ap, subst, Some}
use Rattle.std.specs.Prelude.{IfErr}
use Rattle.money_core.specs.declared.cause.Cause.TheVariants.{OutOfMemory}
use Rattle.book_core.specs.declared.refusal.Refusal.TheVariants.{Plain}
use Rattle.book_core.specs.GoodBook.{verdict}
use Rattle.treasury_state.specs.declared.record.Record.{Record}
use Rattle.treasury_state.specs.Federation.{entries}
use Rattle.treasury_state.specs.Transfer.{dispatch_record}
use Rattle.treasury_core.specs.Step.{transfer_of}
use Rattle.treasury_core.proofs.dispatch.sent.Goals as goal

pub returns-clause-err : goal.returns-clause-err
returns-clause-err g c =
    let same : c.in-Ok-dispatch_record.row ≡ dispatch_record (transfer_of c.args.dispatch.now) =
    c.in-Ok-dispatch_record.ensures.value ∙ ap dispatch_record c.in-Ok.ensures.value in
    subst (λ (r : Record). IfErr c.recorded.result
    (λ e. (e ≡ Plain OutOfMemory)
    ⊎ (verdict (g.L.Ledger.book c.args.source.now.ledger ++ entries (r ∷ [])) ≡ Some e))) same
    c.recorded.ensures.err
