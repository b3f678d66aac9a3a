use Rattle.std.proofs.Common.{◌++◌, ◌∙◌, ap, List, ℕ}
use Rattle.std.specs.Str.{is_utf8}
use Rattle.journal_lines.specs.Date.{printed_date}
use Rattle.treasury_state.proofs.DateLemmas.{date_utf8}
use Rattle.treasury_state.proofs.product.close_mark.Goals as goal

pub text_of-date-requires : goal.text_of-date-requires
text_of-date-requires c = ap is_utf8
    (c.deref.ensures.value ∙
    (c.in_ok-print_date.ensures.ok ∙ ap (λ (xs : List ℕ). xs ++ printed_date c.args.day) c.new-bytes.ensures.items)) ∙
    date_utf8 c.args.day c.requires
