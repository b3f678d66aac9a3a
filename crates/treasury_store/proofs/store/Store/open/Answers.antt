use Rattle.std.proofs.Common.{◌≡◌, ◌∙◌, ◌↔◌, Bool, false, IsTrue, sym, rules, true≢false}
use Rattle.treasury_tables.proofs.FailingLemmas.{survives_behind, same_behind}
use Rattle.treasury_store.proofs.LeftLemmas.{leaves_opened, leaves_either_version}
use Rattle.treasury_store.proofs.StoreLemmas.{opened_holds}
use Rattle.treasury_store.proofs.store.Store.open.Goals as goal

pub returns-in-Ok-true-clause-opened : goal.returns-in-Ok-true-clause-opened
returns-in-Ok-true-clause-opened g c =
    opened_holds g.S.Store c.args.conn c.open_tables.new.conn c.in-Ok-true.ensures.first c.in-Ok-true.ensures.same

-- what was not told is not so
not_so : {P : Type 0} (told : Bool) → IsTrue told ↔ P → told ≡ false → P → ⊥
not_so told tells refuted is = true≢false (sym (tells.1 is) ∙ refuted)

pub returns-in-Ok-false-clause-damaged : goal.returns-in-Ok-false-clause-damaged
returns-in-Ok-false-clause-damaged g c why clean =
    let stays = c.in-Ok-false.ensures.untouched clean (search rules) in
    (λ ours. not_so _ (c.in-Ok-false.ensures.there clean ours) (search rules), stays.0, stays.1)

pub returns-in-Ok-true-clause-left : goal.returns-in-Ok-true-clause-left
returns-in-Ok-true-clause-left g c =
    leaves_opened g.S.Store g.met.S.Store.settled c.args.conn c.open_tables.new.conn c.open_tables.ensures.crash

pub returns-in-Ok-false-clause-left : goal.returns-in-Ok-false-clause-left
returns-in-Ok-false-clause-left g c =
    leaves_opened g.S.Store g.met.S.Store.settled c.args.conn c.open_tables.new.conn c.open_tables.ensures.crash

pub returns-in-Ok-true-clause-left_first : goal.returns-in-Ok-true-clause-left_first
returns-in-Ok-true-clause-left_first g c =
    leaves_either_version g.S.Store g.met.S.Store.settled c.args.conn c.open_tables.new.conn c.open_tables.ensures.crash

pub returns-in-Ok-false-clause-left_first : goal.returns-in-Ok-false-clause-left_first
returns-in-Ok-false-clause-left_first g c =
    leaves_either_version g.S.Store g.met.S.Store.settled c.args.conn c.open_tables.new.conn c.open_tables.ensures.crash

-- ---- where an opening fails

pub returns-in-Err-clause-unchanged : goal.returns-in-Err-clause-unchanged
returns-in-Err-clause-unchanged g c undamaged =
    same_behind g.S.Store c.args.conn c.open_tables.new.conn c.cause_of-cause.new.conn c.cause_of-cause.ensures.nothing
    (λ clean is. c.in-Err.ensures.undone clean is c.requires)

pub returns-in-Err-clause-crash : goal.returns-in-Err-clause-crash
returns-in-Err-clause-crash g c =
    survives_behind g.S.Store c.args.conn c.open_tables.new.conn c.cause_of-cause.new.conn
    c.cause_of-cause.ensures.nothing _ c.open_tables.ensures.crash

pub returns-in-Err-clause-left : goal.returns-in-Err-clause-left
returns-in-Err-clause-left g c =
    leaves_opened g.S.Store g.met.S.Store.settled c.args.conn c.cause_of-cause.new.conn
    (returns-in-Err-clause-crash g c)

pub returns-in-Err-clause-left_first : goal.returns-in-Err-clause-left_first
returns-in-Err-clause-left_first g c =
    leaves_either_version g.S.Store g.met.S.Store.settled c.args.conn c.cause_of-cause.new.conn
    (returns-in-Err-clause-crash g c)
