use Rattle.std.proofs.Common.{◌∙◌, sym, rules}
use Rattle.money_core.specs.declared.style.Style.{Style}
use Rattle.treasury_rows.proofs.DraftLemmas.{exit_on_error}
use Rattle.treasury_rows.proofs.UnitRowLemmas.{decimals_fault, style_only, style_damaged}
use Rattle.treasury_rows.proofs.drafting.unit_rows.read_style.Goals as goal

pub returns-in_err-decimals-clause-reads : goal.returns-in_err-decimals-clause-reads
returns-in_err-decimals-clause-reads c =
    exit_on_error _ _ c.from_residual.result _ c.from_residual.ensures.1
    (decimals_fault c.args.nr c.args.row.now _ (search rules) c.in_err-decimals.ensures)

pub returns-then-not-is_style-clause-reads : goal.returns-then-not-is_style-clause-reads
returns-then-not-is_style-clause-reads c =
    let t : Style = record {
      symbol = c.in_ok-symbol.symbol;
      left = c.in_ok-left.left;
      spaced = c.in_ok-spaced.spaced;
      mark = c.in_ok-mark.mark;
      decimals = c.in_ok-decimals.decimals;
      grouped = c.in_ok-grouped.grouped;
    } in
    style_damaged c.args.nr c.args.row.now t
    (record {
      fit_decimals = search rules;
      fit_grouped = search rules;
      fit_leftside = search rules;
      fit_spaced = search rules;
      symbol = c.in_ok-symbol.ensures.equal;
      decimals = c.in_ok-decimals.ensures;
      mark = λ m e. c.in_ok-mark.ensures m (e ∙ sym c.as_str.ensures);
      grouped = c.in_ok-grouped.ensures.reads;
      left = c.in_ok-left.ensures.reads;
      spaced = c.in_ok-spaced.ensures.reads;
    })
    (sym c.is_style.ensures.test ∙ c.if-not-is_style.true)

pub returns-clause-reads : goal.returns-clause-reads
returns-clause-reads c =
    style_only c.args.nr c.args.row.now _
    (record {
      fit_decimals = search rules;
      fit_grouped = search rules;
      fit_leftside = search rules;
      fit_spaced = search rules;
      symbol = c.in_ok-symbol.ensures.equal;
      decimals = c.in_ok-decimals.ensures;
      mark = λ m e. c.in_ok-mark.ensures m (e ∙ sym c.as_str.ensures);
      grouped = c.in_ok-grouped.ensures.reads;
      left = c.in_ok-left.ensures.reads;
      spaced = c.in_ok-spaced.ensures.reads;
    })
