use Rattle.std.proofs.Common.{refl}
use Rattle.journal_balance.specs.Legs.{balancing_fault, balanced_entry}
use Rattle.journal_balance.proofs.law.unmarked_law.Goals as goal

pub returns : goal.returns
unfolding balancing_fault balanced_entry
returns c = λ styles t mark. refl
