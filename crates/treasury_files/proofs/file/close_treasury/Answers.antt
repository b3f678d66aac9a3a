use Rattle.std.proofs.Common.{◌∙◌, MatchResult, ap, subst}
use Rattle.sqlite.specs.Held.{Held}
use Rattle.treasury_files.specs.Started.{IsClosedAs, IsStillOpen}
use Rattle.treasury_files.proofs.file.close_treasury.Goals as goal

pub returns : goal.returns
returns g c =
    subst (λ (conn : Held _). MatchResult c.close.result (IsClosedAs _ conn) (IsStillOpen _ conn))
    (c.into_connection.ensures ∙ ap (λ s. s.conn) c.into_store.ensures) c.close.ensures
