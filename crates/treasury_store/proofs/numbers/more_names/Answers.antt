use Rattle.treasury_store.proofs.ListLemmas.{more_names}
use Rattle.treasury_store.proofs.numbers.more_names.Goals as goal

pub addition-preserved : goal.addition-preserved
addition-preserved c =
    more_names c.args.names.now c.addition.all c.add_name.new.names c.args.additions.now c.addition.addition-index
    c.addition-item.result c.addition-test.true c.addition-item.is c.addition.invariant c.in_ok-add_name.ensures.ok
