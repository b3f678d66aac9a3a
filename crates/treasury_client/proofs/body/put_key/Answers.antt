use Rattle.std.proofs.Common.{◌∙◌, sym, true≢false}
use Rattle.treasury_client.proofs.BodyLemmas.{journal_is_text}
use Rattle.treasury_client.proofs.body.put_key.Goals as goal

pub returns-in-Some-Journal-clause-text : goal.returns-in-Some-Journal-clause-text
returns-in-Some-Journal-clause-text c = λ refused has.
    let given = c.in-Some-Journal in
    true≢false (sym (journal_is_text c.args.request.now c.args.key given.journal.now
    (rw given.field-0-is at given.ensures.text) ((rw given.field-0-is at given.ensures.form) c.requires) has)
    ∙ c.put_journal.ensures.text refused)
