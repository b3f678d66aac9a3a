use Rattle.std.proofs.Common.{◌∙◌, ap, subst}
use Rattle.sqlite.specs.Held.{Held}
use Rattle.treasury_files.specs.Started.{IsLeftAs}
use Rattle.treasury_files.proofs.file.leave_treasury.Goals as goal

pub returns : goal.returns
returns g c =
    subst (λ (conn : Held _). IsLeftAs conn c.leave.result)
    (c.into_connection-conn.ensures ∙ ap (λ s. s.conn) c.into_store.ensures)
    (record { live = c.schema.ensures.live; by = c.leave.ensures })
