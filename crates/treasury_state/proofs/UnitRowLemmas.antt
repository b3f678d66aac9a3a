-- what the row of a commodity says of its style
use Rattle.std.proofs.Common.{◌≡◌, ℕ, Bool, List, ap, ◌∙◌}
use Rattle.money_core.specs.declared.mark.Mark.{Mark}
use Rattle.money_core.specs.declared.style.Style.{Style}

pub same_style : (s t : Style) → s.symbol ≡ t.symbol → s.left ≡ t.left → s.spaced ≡ t.spaced → s.mark ≡ t.mark
    → s.decimals ≡ t.decimals → s.grouped ≡ t.grouped → s ≡ t
same_style s t a b c d e f =
    ap (λ (x : List ℕ). let y : Style =
    record {
      symbol = x;
      left = s.left;
      spaced = s.spaced;
      mark = s.mark;
      decimals = s.decimals;
      grouped = s.grouped;
    } in y) a
    ∙ ap (λ (x : Bool). let y : Style =
    record {
      symbol = t.symbol;
      left = x;
      spaced = s.spaced;
      mark = s.mark;
      decimals = s.decimals;
      grouped = s.grouped;
    } in y) b
    ∙ ap (λ (x : Bool). let y : Style =
    record {
      symbol = t.symbol;
      left = t.left;
      spaced = x;
      mark = s.mark;
      decimals = s.decimals;
      grouped = s.grouped;
    } in y) c
    ∙ ap (λ (x : Mark). let y : Style =
    record {
      symbol = t.symbol;
      left = t.left;
      spaced = t.spaced;
      mark = x;
      decimals = s.decimals;
      grouped = s.grouped;
    } in y) d
    ∙ ap (λ (x : ℕ). let y : Style =
    record { symbol = t.symbol; left = t.left; spaced = t.spaced; mark = t.mark; decimals = x; grouped = s.grouped }
    in y) e
    ∙ ap (λ (x : Bool). let y : Style =
    record {
      symbol = t.symbol;
      left = t.left;
      spaced = t.spaced;
      mark = t.mark;
      decimals = t.decimals;
      grouped = x;
    } in y) f
