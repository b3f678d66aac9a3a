use Rattle.std.proofs.Common.{◌++◌, ◌∙◌, ℕ, List, ap, sym, subst}
use Rattle.std.specs.Str.{IsUtf8}
use Rattle.journal_lines.specs.Date.{printed_date}
use Rattle.treasury_client.proofs.BodyLemmas.{date_is_text}
use Rattle.treasury_client.proofs.body.put_day.Goals as goal

pub unreachable-requires : goal.unreachable-requires
unreachable-requires c =
    c.in-Err.ensures.cases.0 (subst IsUtf8
    (sym (c.as_slice.ensures.value ∙
    (c.in_ok-print_date.ensures.ok ∙ ap (λ (xs : List ℕ). xs ++ printed_date c.args.day) c.new-date.ensures.items)))
    (date_is_text c.args.day c.requires))
