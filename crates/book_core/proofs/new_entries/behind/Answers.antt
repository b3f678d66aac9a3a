use Rattle.book_core.proofs.BehindLemmas.{balance_behind, balance_through_behind}
use Rattle.book_core.proofs.new_entries.behind.Goals as goal

pub returns-in-Through : goal.returns-in-Through
returns-in-Through c =
    let q = c.args.query.now in
    balance_through_behind c.args.count q.reach q.account.now q.unit q.limit c.in-Through.field-0 c.in-Through.is

pub returns-in-At : goal.returns-in-At
returns-in-At c =
    let q = c.args.query.now in
    balance_behind c.args.count q.reach q.account.now q.unit q.limit c.in-At.place c.saturating_sub-entry.result
    c.in-At.is c.saturating_sub-entry.ensures
