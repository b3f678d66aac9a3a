use Rattle.std.proofs.Common.{◌≡◌, ◌∷◌, [], subst, map}
use Rattle.sqlite.specs.Order.{column}
use Rattle.sqlite.specs.declared.types.Value.TheVariants.{Int}
use Rattle.sqlite.specs.Held.{state}
use Rattle.treasury_tables.proofs.OpenLemmas.{shown_versions, some_version}
use Rattle.treasury_tables.proofs.open.found_version.Goals as goal

pub returns-in-Ok-clause-version : goal.returns-in-Ok-clause-version
returns-in-Ok-clause-version g c clean =
    some_version c.version_in.result _ (λ version is either.
    (shown_versions ((state g.S.Store c.args.conn.now).now.trees 0) _ (Int version)
    (c.in-Ok.ensures.rows clean either)).0
    (subst (λ items. map (λ r. column r 0) items ≡ Int version ∷ []) c.deref.ensures.value
    ((c.version_in.ensures version).0 is)))
