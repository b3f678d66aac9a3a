use Rattle.std.proofs.Common.{◌≡◌, ◌++◌, ◌∙◌, List, ℕ, OnOk, ap, subst, decimal, length}
use Rattle.money_core.specs.Cause.{cause_number, cause_name}
use Rattle.treasury_messages.specs.Sentence.{sentence_of}
use Rattle.treasury_api.proofs.ObjectLemmas.{refused_as, refused_fits}
use Rattle.treasury_api.proofs.web.object.push_refused.Goals as goal

pub returns-clause-ok : goal.returns-clause-ok
returns-clause-ok c =
    subst (λ (t : List ℕ). OnOk c.push_refusal.result (c.push_refusal.new.out.items ≡ c.args.out.now.items ++ t))
    (refused_as c.args.line.now c.as_bytes-nr.result.now c.as_bytes-name.result.now c.as_bytes-said.result.now
    c.args.told.now c.args.cause c.args.entries
    (c.as_bytes-nr.ensures.value ∙ (c.format.ensures.text ∙ ap decimal c.nr.ensures))
    (c.as_bytes-name.ensures.value ∙ c.name.ensures) (c.as_bytes-said.ensures.value ∙ c.sentence.ensures))
    c.push_refusal.ensures.ok

pub returns-clause-room : goal.returns-clause-room
returns-clause-room c short none fits =
    c.push_refusal.ensures.room
    (refused_fits c.args.line.now c.as_bytes-nr.result.now c.as_bytes-name.result.now c.as_bytes-said.result.now
    c.args.told.now c.args.cause c.args.entries (length c.args.out.now.items) _
    (c.as_bytes-nr.ensures.value ∙ (c.format.ensures.text ∙ ap decimal c.nr.ensures))
    (c.as_bytes-name.ensures.value ∙ c.name.ensures) (c.as_bytes-said.ensures.value ∙ c.sentence.ensures) short none
    c.push_refusal.ensures.digits fits)
