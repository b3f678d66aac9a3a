use Rattle.std.proofs.Common.{◌+◌, drop, ap, sym, ◌∙◌, Option}
use Rattle.std.specs.Option.{option_or}
use Rattle.money_core.specs.declared.cause.Cause.{Cause}
use Rattle.journal_balance.specs.Legs.{cost_fault}
use Rattle.journal_balance.proofs.SumLemmas.{cost_fault-drop}
use Rattle.journal_balance.proofs.value.cost_fault.Goals as goal

pub returns-in-Some : goal.returns-in-Some
returns-in-Some c =
    let rest : Option Cause = cost_fault c.args.styles.now (drop (c.loop-posting.posting-index + 1) c.args.postings.now)
    in
    sym (ap (λ (o : Option Cause). option_or o rest) (sym c.cost_fault_of.ensures ∙ c.in-Some.is))
    ∙ sym (cost_fault-drop c.args.styles.now c.args.postings.now c.loop-posting.posting-index c.posting-item.result
    c.loop-posting-test.true c.posting-item.is)
    ∙ c.loop-posting.invariant
