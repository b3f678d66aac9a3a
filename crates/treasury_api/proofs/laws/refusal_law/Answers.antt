use Rattle.std.proofs.Common.{refl}
use Rattle.treasury_api.proofs.HistoryLemmas.{turns_leave, answered_leaves, lines_leave}
use Rattle.treasury_api.proofs.laws.refusal_law.Goals as goal

pub returns-clause-turns : goal.returns-clause-turns
returns-clause-turns c = λ start turns _. turns_leave start turns

pub returns-clause-answered : goal.returns-clause-answered
returns-clause-answered c = answered_leaves

pub returns-clause-along : goal.returns-clause-along
returns-clause-along c = λ start _ _ _ turns _. lines_leave start turns

pub returns-clause-report : goal.returns-clause-report
returns-clause-report c = λ f report r. refl
