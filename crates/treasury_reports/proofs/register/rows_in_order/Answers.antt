use Rattle.std.proofs.Common.{◌∙◌, sym, option_copied, subst, ap}
use Rattle.std.specs.List.{AllByRecursion}
use Rattle.treasury_reports.specs.RegisterReport.{by_day}
use Rattle.treasury_reports.specs.Lent.{IsListable, HaveRoom}
use Rattle.treasury_reports.proofs.RegisterLemmas.{by_day_listable, have_room}
use Rattle.treasury_reports.proofs.register.rows_in_order.Goals as goal

pub rows_of-requires-clause-listable : goal.rows_of-requires-clause-listable
rows_of-requires-clause-listable c =
    let all = c.deref.ensures.value ∙ c.in_ok-sort_by_day.ensures.ok ∙ ap by_day c.in_ok-all.ensures.value in
    subst (AllByRecursion (IsListable c.args.styles.now)) (sym all)
    (by_day_listable c.args.styles.now c.args.account.now (option_copied c.args.tag) c.args.records.now c.requires.good)

pub rows_of-requires-clause-room : goal.rows_of-requires-clause-room
rows_of-requires-clause-room c =
    let all = c.deref.ensures.value ∙ c.in_ok-sort_by_day.ensures.ok ∙ ap by_day c.in_ok-all.ensures.value in
    subst HaveRoom (sym all) (have_room c.args.account.now (option_copied c.args.tag) c.args.records.now
    c.requires.room)
