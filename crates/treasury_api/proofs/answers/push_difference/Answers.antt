use Rattle.std.proofs.Common.{rules, w64}
use Rattle.std.specs.Prelude.{codes}
use Rattle.std.proofs.lemmas.Int.{to_z-of_z}
use Rattle.money_core.specs.AmountText.{printed_in}
use Rattle.treasury_api.proofs.AppendLemmas.{appended_four}
use Rattle.treasury_api.proofs.answers.push_difference.Goals as goal

pub returns-clause-ok : goal.returns-clause-ok
returns-clause-ok c =
    let failure = c.args.failure.now in
    let asserted = to_z-of_z w64 failure.asserted (search rules) in
    let found = to_z-of_z w64 failure.found (search rules) in
    appended_four c.args.line.now.items c.extend_from_slice.new.self.items c.print_amount.new.out.items
    c.extend_from_slice-2.new.self.items c.print_amount-2.new.out.items
    (codes ": asserted ") (printed_in c.args.styles.now failure.unit failure.asserted) (codes ", found ")
    (printed_in c.args.styles.now failure.unit failure.found)
    c.in_ok-extend_from_slice.ensures.items (rw asserted at c.in_ok-print_amount.ensures.ok)
    c.in_ok-extend_from_slice-2.ensures.items (rw found at c.in_ok-print_amount-2.ensures.ok)
