use Rattle.std.proofs.Common.{arith, sym}
use Rattle.std.proofs.lemmas.List.{length-take-le}
use Rattle.terminal_text.proofs.shown.push_bytes.Goals as goal

pub slice_bounds-push_all_bytes-end : goal.slice_bounds-push_all_bytes-end
slice_bounds-push_all_bytes-end c = sym (length-take-le 200 c.args.text.now (omega arith))
