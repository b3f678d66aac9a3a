use Rattle.std.proofs.Common.{◌≡◌, ◌∙◌, true, false, sym}
use Rattle.treasury_client.proofs.BodyLemmas.{not_text}
use Rattle.treasury_client.proofs.journal.as_text.Goals as goal

pub returns-in-Err : goal.returns-in-Err
returns-in-Err c = λ is.
    let clash : true ≡ false = sym is ∙ not_text c.args.journal.now c.in-Err.ensures.cases.0 in absurd cc
