-- What the commodities report lists is declared already.
use Rattle.std.proofs.Common.{◌≡◌, ◌∙◌, ◌==◌, ℕ, Bool, true, false, Some, Result, Ok, Err, ap, refl, sym, arith}
use Rattle.std.specs.Prelude.{if◌then◌else◌, slice_get}
use Rattle.std.proofs.lemmas.Bool.Decides.{nat_tests}
use Rattle.money_core.specs.declared.style.Style.{Style}
use Rattle.money_core.specs.declared.unit.Declared.{Declared}
use Rattle.money_core.specs.declared.unit.Declared.TheVariants.{Same}
use Rattle.money_core.specs.declared.cause.Cause.{Cause}
use Rattle.money_core.specs.declared.cause.Cause.TheVariants.{CommodityExists}
use Rattle.money_core.specs.declared.mark.Mark.{Mark}
use Rattle.money_core.specs.declared.mark.Mark.TheVariants.{Point, Comma}
use Rattle.money_core.specs.Style.{AreStyles, bool_eq, mark_eq, style_eq}
use Rattle.money_core.proofs.SampleLemmas.{spelled_style}
use Rattle.money_core.proofs.StyleLemmas.{declared-held}
use Rattle.money_core.proofs.BytesLemmas.{bytes_eq-refl}
use Rattle.treasury_state.specs.Federation.{Federation}
use Rattle.treasury_core.specs.declared.command.Command.TheVariants as cmd
use Rattle.treasury_core.specs.declared.command.Answer.TheVariants.{Repeated}
use Rattle.treasury_core.specs.Step.{commodity_reply, reply}
use Rattle.treasury_reports.specs.CommoditiesReport.{sample_text, AreSamples}
use Rattle.treasury_api.specs.Asked.{asked_by_sample}
use Rattle.treasury_api.specs.Lists.{AreRepeated}

bool_same : (b : Bool) → bool_eq b b ≡ true
bool_same true = refl
bool_same false = refl

mark_same : (m : Mark) → mark_eq m m ≡ true
mark_same Point = refl
mark_same Comma = refl

number_same : (n : ℕ) → (n == n) ≡ true
number_same n = grind (arith, nat_tests)

style_same : (s : Style) → style_eq s s ≡ true
style_same s =
    rw (
      bytes_eq-refl s.symbol,
      mark_same s.mark,
      number_same s.decimals,
      bool_same s.left,
      bool_same s.spaced,
      bool_same s.grouped,
    ) refl

-- a commodity in the style that it has is a repeat
declared_again : (f : Federation) (i : ℕ) (s : Style) → AreStyles f.styles → slice_get f.styles i ≡ Some s
    → reply f (cmd.Commodity s) ≡ Ok Repeated
unfolding reply
declared_again f i s are at =
    let again : Bool → Result Declared Cause = λ b.
    if b then Ok (Same (record { 0 = i })) else Err CommodityExists in
    ap commodity_reply (declared-held f.styles s s i (are.found i s at) at ∙ ap again (style_same s))

pub samples_repeat : (f : Federation) → AreStyles f.styles → AreSamples f.styles → AreRepeated f
samples_repeat f are samples i s at =
    (sym (ap asked_by_sample (spelled_style (sample_text s) s (samples i s at))), declared_again f i s are at)
