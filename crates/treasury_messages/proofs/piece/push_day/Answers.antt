use Rattle.std.proofs.Common.{◌≡◌, ◌++◌, ◌∙◌, List, ℕ, OnOk, ap, subst}
use Rattle.treasury_messages.proofs.PieceLemmas.{day_written, day_unwritten}
use Rattle.treasury_messages.proofs.piece.push_day.Goals as goal

pub returns-then-is_day_number : goal.returns-then-is_day_number
returns-then-is_day_number c =
    subst (λ (t : List ℕ). OnOk c.print_date.result (c.print_date.new.out.items ≡ c.args.out.now.items ++ t))
    (day_written c.args.day c.is_day_number.result c.is_day_number.ensures c.if-is_day_number.true)
    c.print_date.ensures.ok

pub returns-in_ok-extend_from_slice : goal.returns-in_ok-extend_from_slice
returns-in_ok-extend_from_slice c =
    c.in_ok-extend_from_slice.ensures.items ∙ ap (λ (t : List ℕ). c.args.out.now.items ++ t)
    (day_unwritten c.args.day c.is_day_number.result c.is_day_number.ensures c.if-is_day_number.false)
