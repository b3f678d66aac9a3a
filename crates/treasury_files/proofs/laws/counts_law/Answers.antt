use Rattle.std.proofs.Common.{sym, subst}
use Rattle.treasury_state.specs.Federation.{Federation}
use Rattle.treasury_laws.specs.History.{history}
use Rattle.treasury_files.specs.Counts.{Keeps, counts_of}
use Rattle.treasury_files.proofs.CountsLemmas.{keeps_joined}
use Rattle.treasury_files.proofs.laws.counts_law.Goals as goal

pub returns : goal.returns
returns c = λ f turns.
    subst (λ (state : Federation). Keeps (counts_of f) (counts_of state)) (sym (c.joined_law.ensures.run f turns))
    (keeps_joined f (history f turns))
