use Rattle.std.proofs.Common.{refl, inl, arith}
use Rattle.treasury_core.specs.Step.{reply}
use Rattle.treasury_core.proofs.ReplyLemmas.{after_good, run_good}
use Rattle.treasury_laws.proofs.law.good_law.Goals as goal

pub returns-clause-empty : goal.returns-clause-empty
returns-clause-empty c = record {
  styles = record { each = λ i style h. absurd cc; found = λ i style h. absurd cc; few = omega arith };
  few = omega arith;
  names = tt;
  branches = tt;
  ids = tt;
  transfers = tt;
  carried = tt;
}

pub returns-clause-step : goal.returns-clause-step
returns-clause-step c f command good fits = after_good f command (reply f command) good fits (inl refl)

pub returns-clause-run : goal.returns-clause-run
returns-clause-run c f turns good run = run_good f turns good run
