-- A sample of three decimals without a group mark, which may have been meant for one (own rule; docs/RULES.md,
-- "Notes").
use Rattle.std.specs.Prelude.{ℕ, ◌==◌, not, ◌&&◌, if◌then◌else◌, List, [], ◌∷◌, Option, Some, None}
use Rattle.money_core.specs.declared.style.Style.{Style}
use Rattle.money_core.specs.Mark.{decimal_byte}
use Rattle.money_core.specs.Sampling.{style_of}
use Rattle.treasury_messages.specs.declared.kind.MessageKind.TheVariants as is
use Rattle.treasury_messages.specs.Said.{Said, says}

-- of a sample of the style: its decimal mark
abbrev pub note_of_style : List ℕ → Option Style → List Said
note_of_style sample None = []
note_of_style sample (Some style) =
    if (style.decimals == 3) && not style.grouped
    then says is.ThreeDecimals (sample ∷ (decimal_byte style.mark ∷ []) ∷ []) ∷ []
    else []

-- of a sample
abbrev pub sample_said : List ℕ → List Said
sample_said sample = note_of_style sample (style_of sample)
