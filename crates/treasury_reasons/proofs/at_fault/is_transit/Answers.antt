use Rattle.std.proofs.Common.{◌∙◌, ap}
use Rattle.book_core.specs.Account.{is_inside}
use Rattle.journal_lines.specs.AccountName.{transit}
use Rattle.treasury_state.proofs.TransitLemmas.{reserved_test}
use Rattle.treasury_reasons.proofs.at_fault.is_transit.Goals as goal

pub returns : goal.returns
returns c = reserved_test c.as_bytes.result.now c.is_reserved.result c.is_reserved.ensures ∙ ap (is_inside transit)
    (c.as_bytes.ensures.value ∙ c.as_str.ensures)
