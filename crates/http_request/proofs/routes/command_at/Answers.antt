use Rattle.std.proofs.Common.{ap, sym, ◌∙◌}
use Rattle.http_request.specs.Routes.{command_at}
use Rattle.http_request.proofs.PieceLemmas.{more_pieces}
use Rattle.http_request.proofs.routes.command_at.Goals as goal

pub returns-in_default-Some-clause-value : goal.returns-in_default-Some-clause-value
returns-in_default-Some-clause-value c =
    let cut = rw c.in_default-Some.is-1 at c.cut.ensures in
    rw c.in-Some.is (more_pieces c.cut.result.0.now c.in_default-Some.field-0-1.now ∙ sym (ap command_at cut))
