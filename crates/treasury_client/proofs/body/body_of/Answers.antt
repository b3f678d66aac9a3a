use Rattle.std.proofs.Common.{◌∙◌, List, ap}
use Rattle.serde_json.specs.Data.{object}
use Rattle.serde_json.specs.View.{view, members_view}
use Rattle.serde_json.specs.declared.value.Value.{Object}
use Rattle.serde_json.proofs.Views.{Entry, view-Object}
use Rattle.treasury_client.specs.Parts.{with_request, with_terms}
use Rattle.treasury_client.proofs.BodyLemmas.{text_spells}
use Rattle.treasury_client.proofs.body.body_of.Goals as goal

pub returns-in-Ok-to_string-clause-spells : goal.returns-in-Ok-to_string-clause-spells
returns-in-Ok-to_string-clause-spells c = λ sendable.
    text_spells c.args.request.now c.in-Ok-to_string.body (view (Object c.put_terms.new.members)) c.requires sendable
    (view-Object c.put_terms.new.members
    ∙ ap object (c.in-Ok-put_terms.ensures.ok ∙ ap (with_terms c.args.request.now.terms)
    (c.in-Ok.ensures.ok ∙ ap (λ (es : List Entry). with_request c.args.request.now.request (members_view es))
    c.new-members.ensures.empty)))
    c.in-Ok-to_string.ensures.reads_back
