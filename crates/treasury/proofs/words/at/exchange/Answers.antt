use Rattle.std.proofs.Common.{sym, subst, inr}
use Rattle.treasury.specs.At.{AsksFor}
use Rattle.treasury.proofs.words.at.exchange.Goals as goal

pub returns-in-Err-write_whole-clause-broken : goal.returns-in-Err-write_whole-clause-broken
returns-in-Err-write_whole-clause-broken g c =
    inr (inr (
      c.as_bytes.result.now,
      subst (AsksFor c.args.port c.args.form c.args.request.now) (sym c.as_bytes.ensures.value) c.in-Ok.ensures.asks,
      c.in-Err-write_whole.ensures.err,
    ))
