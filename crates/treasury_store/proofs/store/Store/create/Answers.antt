use Rattle.std.proofs.Common.{Some, ap, rules}
use Rattle.treasury_tables.proofs.FailingLemmas.{survives_behind, same_behind}
use Rattle.treasury_store.specs.Numbers.{Numbering}
use Rattle.treasury_store.proofs.StoreLemmas.{empty_good}
use Rattle.treasury_store.proofs.store.Store.create.Goals as goal

pub returns-in-Ok-true-clause-made : goal.returns-in-Ok-true-clause-made
returns-in-Ok-true-clause-made g c empty = record {
  good = empty_good;
  tables = λ clean opened. c.in-Ok-true.ensures.made clean (search rules) empty;
  numbers = ap (λ (m : Numbering). Some m) c.none.ensures;
}

pub returns-in-Err-clause-unchanged : goal.returns-in-Err-clause-unchanged
returns-in-Err-clause-unchanged g c =
    same_behind g.S.Store c.args.conn c.create_tables.new.conn c.cause_of-cause.new.conn
    c.cause_of-cause.ensures.nothing c.in-Err.ensures.unchanged

pub returns-in-Err-clause-crash : goal.returns-in-Err-clause-crash
returns-in-Err-clause-crash g c =
    survives_behind g.S.Store c.args.conn c.create_tables.new.conn c.cause_of-cause.new.conn
    c.cause_of-cause.ensures.nothing _ c.create_tables.ensures.crash
