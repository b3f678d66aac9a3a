use Rattle.std.proofs.Common.{inl, inr, rules}
use Rattle.treasury.proofs.words.write_answer.Goals as goal

pub returns-in-Ok : goal.returns-in-Ok
returns-in-Ok g c = inl (rw c.as_slice.ensures.value at c.in-Ok.ensures.ok, search rules)

pub returns-in-Err : goal.returns-in-Err
returns-in-Err g c =
    let part = rw c.as_slice.ensures.value at c.in-Err.ensures.err in inr (part.0, part.1, part.2, c.unwritten.ensures)
