use Rattle.std.proofs.Common.{ℕ, List, sym, subst}
use Rattle.treasury_client.specs.Reply.{SaysToCommand}
use Rattle.treasury.specs.Spoken.{Spoken}
use Rattle.treasury.proofs.words.at.hear_command_at.Goals as goal

pub returns-in-Ok-hear_command_from : goal.returns-in-Ok-hear_command_from
returns-in-Ok-hear_command_from c =
    let heard = c.in-Ok-hear_command_from.ensures.heard in
    subst (λ (said : Spoken). (came : List ℕ) × SaysToCommand came said.text said.refused) (sym c.said_of.ensures)
    (heard.0, heard.2)
