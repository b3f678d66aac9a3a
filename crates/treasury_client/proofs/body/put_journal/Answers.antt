use Rattle.std.proofs.Common.{◌∙◌, ℕ, List, sym, subst}
use Rattle.std.specs.Str.{IsUtf8}
use Rattle.treasury_client.proofs.BodyLemmas.{not_text}
use Rattle.treasury_client.proofs.body.put_journal.Goals as goal

pub returns-in-Err-clause-text : goal.returns-in-Err-clause-text
returns-in-Err-clause-text c = λ _.
    not_text c.args.journal.now
    (λ text. c.in-Err.ensures.cases.0 (subst IsUtf8 (sym c.as_bytes.ensures) text))
