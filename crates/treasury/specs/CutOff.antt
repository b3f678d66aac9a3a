-- When a run is cut off (own rule; docs/RULES.md, "The program").
use Rattle.std.specs.Prelude.{◌≡◌, ℕ, List, Option, ◌⊎◌}
use Rattle.money_core.specs.declared.cause.Cause.{Cause}
use Rattle.treasury_api.specs.Step.{Standing, at_first}
use Rattle.treasury_api.specs.Kept.{IsCutOffBy}

-- A run over a federation that has nothing yet was cut off, or there was no memory for its words or its tables, and it
-- read and wrote nothing.
abbrev pub IsCutShort : {R W : Type 0} → (R → Option (List ℕ)) → R → R → (W → Option (List ℕ)) → W → W → Type 0
IsCutShort remaining r0 r1 contents w0 w1 = ((r1 ≡ r0) × (w1 ≡ w0))
    ⊎ ((cause : Cause) × (end : Standing) × IsCutOffBy cause remaining r0 r1 contents w0 w1 at_first end)
