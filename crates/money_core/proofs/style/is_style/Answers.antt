use Rattle.std.proofs.Common.{◌≡◌, ◌∙◌, sym, refl, true, false, nat_le}
use Rattle.money_core.specs.Symbol.{is_symbol}
use Rattle.money_core.specs.Style.{is_style}
use Rattle.money_core.proofs.StyleSamples.{is_style_iff}
use Rattle.money_core.proofs.style.is_style.Goals as goal

pub returns-then-is_symbol-clause-sample : goal.returns-then-is_symbol-clause-sample
returns-then-is_symbol-clause-sample c =
    let symbol = rw (c.as_bytes.ensures.value, c.as_str.ensures) at c.is_symbol.ensures in
    let is : is_symbol c.args.style.now.symbol ≡ true = sym symbol ∙ c.if-is_symbol.true in
    let same : nat_le c.args.style.now.decimals 6 ≡ is_style c.args.style.now = rw is refl in
    is_style_iff c.args.style.now (nat_le c.args.style.now.decimals 6) same

pub returns-else-is_symbol-clause-sample : goal.returns-else-is_symbol-clause-sample
returns-else-is_symbol-clause-sample c =
    let symbol = rw (c.as_bytes.ensures.value, c.as_str.ensures) at c.is_symbol.ensures in
    let none : is_symbol c.args.style.now.symbol ≡ false = sym symbol ∙ c.if-is_symbol.false in
    let same : false ≡ is_style c.args.style.now = rw none refl in
    is_style_iff c.args.style.now c.is_symbol.result (c.if-is_symbol.false ∙ same)
