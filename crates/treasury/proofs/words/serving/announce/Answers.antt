use Rattle.std.proofs.Common.{inl, inr}
use Rattle.std.proofs.KnownBytes.{Appends-kept}
use Rattle.treasury.specs.Serving.{listening}
use Rattle.treasury.proofs.words.serving.announce.Goals as goal

pub returns-in-Err-flush-clause-err : goal.returns-in-Err-flush-clause-err
returns-in-Err-flush-clause-err g c =
    inr (Appends-kept (g.W.Write.contents c.args.output.now) (g.W.Write.contents c.write_whole.new.writer)
    (g.W.Write.contents c.flush.new.self) listening c.in-Ok.ensures.ok c.flush.ensures.bytes)

pub returns-in-Err-clause-err : goal.returns-in-Err-clause-err
returns-in-Err-clause-err g c = inl c.in-Err.ensures.err
