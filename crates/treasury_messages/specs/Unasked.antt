-- What is told of bytes that are no request (own rule; docs/RULES.md, "Explanations").
use Rattle.std.specs.Prelude.{◌≡◌, ◌⊎◌, ℕ, List, [], ◌∷◌}
use Rattle.money_core.specs.declared.cause.Cause.TheVariants.{Request as NoRequest}
use Rattle.treasury_messages.specs.Said.{Said}
use Rattle.treasury_messages.specs.Sentence.{sentence_said}
use Rattle.treasury_messages.specs.RequestFaults.{TellsFault}
use Rattle.treasury_messages.specs.Printed.{IsFirstTextOf}

-- the sentence of 44, and which fault they have first
abbrev pub TellsUnasked : List ℕ → List Said → Type 0
TellsUnasked bytes said = (more : List Said) × TellsFault bytes more × (said ≡ sentence_said NoRequest ∷ more)

-- where memory runs out: nothing, or the sentence alone
abbrev pub LacksFault : List Said → Type 0
LacksFault said = (said ≡ []) ⊎ (said ≡ sentence_said NoRequest ∷ [])

-- their lines, or those of the first of them
abbrev pub IsToldUnasked : List ℕ → List ℕ → Type 0
IsToldUnasked bytes text = (said : List Said) × (TellsUnasked bytes said ⊎ LacksFault said) × IsFirstTextOf said text
