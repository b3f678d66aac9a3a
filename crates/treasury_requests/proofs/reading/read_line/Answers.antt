use Rattle.std.proofs.Common.{refl, inl, Err}
use Rattle.money_core.specs.declared.cause.Cause.TheVariants as cause
use Rattle.treasury_requests.proofs.RequestLemmas.{spelled-no_utf8}
use Rattle.treasury_requests.proofs.RequiredLemmas.{keeps_required}
use Rattle.treasury_requests.proofs.reading.read_line.Goals as goal

pub returns-in-Err-clause-refused : goal.returns-in-Err-clause-refused
returns-in-Err-clause-refused c = λ _. spelled-no_utf8 _ c.in-Err.ensures.cases.0

pub returns-in-Err-clause-required : goal.returns-in-Err-clause-required
returns-in-Err-clause-required c =
    keeps_required _ (Err cause.Request) tt (returns-in-Err-clause-refused c) (inl refl)
