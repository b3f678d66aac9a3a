use Rattle.treasury_store.proofs.ListLemmas.{more_fit, more_styles}
use Rattle.treasury_store.proofs.numbers.more_styles.Goals as goal

pub add_style-requires : goal.add_style-requires
add_style-requires c =
    more_fit c.args.styles.now c.addition.all c.args.additions.now c.addition.addition-index c.addition-item.result
    c.addition-test.true c.addition-item.is c.addition.invariant c.requires

pub addition-preserved : goal.addition-preserved
addition-preserved c =
    more_styles c.args.styles.now c.addition.all c.add_style.new.styles c.args.additions.now c.addition.addition-index
    c.addition-item.result c.addition-test.true c.addition-item.is c.addition.invariant c.in_ok-add_style.ensures.ok
