use Rattle.std.proofs.Common.{◌++◌, ◌∙◌, List, ap, sym}
use Rattle.money_core.proofs.ListLemmas.{drop_at}
use Rattle.book_core.specs.declared.leg.Leg.{Leg}
use Rattle.treasury_reports.specs.RegisterReport.{listed_legs}
use Rattle.treasury_reports.proofs.RegisterLemmas.{legs_more}
use Rattle.treasury_reports.proofs.listed.list_legs.Goals as goal

pub legs-preserved : goal.legs-preserved
legs-preserved c =
    let xs = c.items-leg-items.result.now in
    let at = drop_at xs c.legs.leg-index c.leg-item.result c.legs-test.true c.leg-item.is in
    legs_more c.args.account.now c.args.number c.args.row.now c.leg-item.result _ _ c.legs.all.items
    c.list_leg.new.all.items c.in_ok-list_leg.ensures.ok
    (ap (λ (l : List Leg). c.legs.all.items ++ listed_legs c.args.account.now c.args.number c.args.row.now l) (sym at) ∙
    c.legs.invariant)
