use Rattle.std.proofs.Common.{◌∙◌, ap, sym}
use Rattle.std.specs.Option.{option_copied}
use Rattle.treasury_reports.proofs.SampleLemmas.{symbol_at}
use Rattle.treasury_reports.proofs.commodities.push_commodity.Goals as goal

pub push_style-requires : goal.push_style-requires
push_style-requires c =
    symbol_at c.args.styles.now c.args.unit.0 c.unwrap-style.result.now c.are_styles.ensures
    (sym c.style.ensures ∙ ap (λ o. option_copied o) c.unwrap-style.ensures)
