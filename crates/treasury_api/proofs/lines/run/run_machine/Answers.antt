use Rattle.std.proofs.Common.{arith, drop, refl}
use Rattle.std.proofs.lemmas.Grind.{common_steps}
use Rattle.std.proofs.lemmas.List.{take-append-le}
use Rattle.treasury_api.proofs.RunLemmas.{passed_more, run_finished, stopped_last, stopped_later}
use Rattle.treasury_api.proofs.lines.run.run_machine.Goals as goal

pub reading-preserved : goal.reading-preserved
reading-preserved g c =
    let read =
    take-append-le c.in-Ok.count c.read.new.buf (drop c.max-most.result c.reading.chunk) c.in-Ok.ensures.bound.0 in
    passed_more g.M.Machine.step _ _ _ _ _ _ _ _ _ _ _ _ _ c.in-Ok.count _ c.reading.invariant c.in-Ok.ensures.bytes.0
    (grind (arith, common_steps)) (grind (arith, common_steps)) (rw read at c.in-Ok-feed.ensures)

pub returns-in-Err-feed : goal.returns-in-Err-feed
returns-in-Err-feed g c =
    let read =
    take-append-le c.in-Ok.count c.read.new.buf (drop c.max-most.result c.reading.chunk) c.in-Ok.ensures.bound.0 in
    stopped_later c.in-Err-feed.cause g.M.Machine.step _ _ _ _ _ _ _ _ _ _ _ _ c.in-Ok.count _ c.reading.invariant
    c.in-Ok.ensures.bytes.0
    (grind (arith, common_steps)) (grind (arith, common_steps)) (rw read at c.in-Err-feed.ensures)

pub returns-in-Ok-serve_line : goal.returns-in-Ok-serve_line
returns-in-Ok-serve_line g c =
    let read = rw c.in-Ok-eq0.field-0-test at c.in-Ok-eq0.ensures.bytes in
    run_finished g.M.Machine.step _ _ _ _ _ _ _ _ _ _ _ _ c.reading.invariant read.0
    (read.1 refl (grind (arith, common_steps)))
    (rw c.as_slice.ensures.value at c.in-Ok-serve_line.ensures)

pub returns : goal.returns
returns g c =
    let read = rw c.in-Ok-eq0.field-0-test at c.in-Ok-eq0.ensures.bytes in
    stopped_last c.in-Err-serve_line.cause g.M.Machine.step _ _ _ _ _ _ _ _ _ _ _ _ c.reading.invariant read.0
    (read.1 refl (grind (arith, common_steps))) (rw c.as_slice.ensures.value at c.in-Err-serve_line.ensures)
