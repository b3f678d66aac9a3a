use Rattle.json_text.specs.JsonText.{escaped}
use Rattle.json_text.proofs.GrowLemmas.{grows_next, grows_failed}
use Rattle.json_text.proofs.string.grow_all_escaped.Goals as goal

pub bytes-preserved : goal.bytes-preserved
bytes-preserved c =
    grows_next escaped c.args.text.now c.bytes.byte-index 0 c.args.out.now c.bytes.out c.grow_escaped.new.out
    c.bytes-test.true c.bytes.invariant c.in-Ok.ensures

pub returns-in-Err : goal.returns-in-Err
returns-in-Err c =
    grows_failed escaped c.args.text.now c.bytes.byte-index 0 c.args.out.now c.bytes.out c.grow_escaped.new.out
    c.in-Err.error c.bytes-test.true c.bytes.invariant c.in-Err.ensures
