use Rattle.std.proofs.Common.{◌∙◌, ap, refl, inl, inr, sym, subst, Option}
use Rattle.std.specs.Prelude.{IfSome}
use Rattle.money_core.specs.declared.cause.Fault.{Fault}
use Rattle.journal_format.specs.declared.txn.Txn.{Txn}
use Rattle.journal_format.specs.Printable.{IsPrintable}
use Rattle.journal_hints.specs.LeftOver.{transaction_on}
use Rattle.journal_hints.proofs.LeftOverLemmas.{all_on}
use Rattle.journal_hints.proofs.source.transaction_at.Goals as goal

pub returns-in-Ok-clause-value : goal.returns-in-Ok-clause-value
returns-in-Ok-clause-value c = λ list reads.
    c.on_line.ensures ∙ ap (transaction_on c.args.line) (c.in-Ok.ensures.only list reads)

pub returns-in-Ok-clause-printable : goal.returns-in-Ok-clause-printable
returns-in-Ok-clause-printable c =
    subst (λ (o : Option Txn). IfSome o (IsPrintable c.args.styles.now)) (sym c.on_line.ensures)
    (all_on (IsPrintable c.args.styles.now) c.args.line c.in-Ok.list.items c.in-Ok.ensures.printable)

pub returns-in-Err-clause-err : goal.returns-in-Err-clause-err
returns-in-Err-clause-err c = elim c.in-Err.ensures.fault [
  | inl same ↦ inl (ap (λ (f : Fault). f.cause) same)
  | inr first ↦ inr (c.in-Err.fault, first, refl)
]
