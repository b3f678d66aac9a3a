use Rattle.std.proofs.Common.{sym, subst}
use Rattle.std.specs.Str.{IsValidUpTo}
use Rattle.treasury_requests.proofs.FaultLemmas.{has_utf8_fault}
use Rattle.treasury_requests.proofs.fault.fault_of.Goals as goal

pub returns-in-Err-clause-value : goal.returns-in-Err-clause-value
returns-in-Err-clause-value c =
    has_utf8_fault c.args.line.now c.valid_up_to.result c.in-Err.ensures.cases.0
    (subst (IsValidUpTo c.args.line.now) (sym c.valid_up_to.ensures) c.in-Err.ensures.cases.1)
