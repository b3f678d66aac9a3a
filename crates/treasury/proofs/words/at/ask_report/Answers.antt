use Rattle.std.proofs.Common.{ℕ, List, sym, subst}
use Rattle.treasury_client.specs.Reply.{SaysToReport}
use Rattle.treasury.specs.Spoken.{Spoken}
use Rattle.treasury.proofs.words.at.ask_report.Goals as goal

pub returns-in-Ok : goal.returns-in-Ok
returns-in-Ok c =
    subst (λ (said : Spoken). (came : List ℕ) × SaysToReport came said.text said.refused) (sym c.with_reason.ensures)
    c.in-Ok.ensures
