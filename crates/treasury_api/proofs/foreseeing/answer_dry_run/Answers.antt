use Rattle.std.proofs.Common.{Some, inl, sym, ap}
use Rattle.treasury_api.proofs.ForeseenLemmas.{foreseen_done, foreseen_refused, refused_steps, what_is_added}
use Rattle.treasury_api.proofs.foreseeing.answer_dry_run.Goals as goal

pub returns-in-Ok-answer_line-clause-foreseen : goal.returns-in-Ok-answer_line-clause-foreseen
returns-in-Ok-answer_line-clause-foreseen g c =
    foreseen_done _ _ c.in-Ok.answer _ _ _ (inl (sym c.in-Ok.ensures.decides.0)) c.in-Ok-answer_line.ensures.ok

pub returns-in-Ok-answer_line-clause-added : goal.returns-in-Ok-answer_line-clause-added
returns-in-Ok-answer_line-clause-added g c =
    ap (λ l. Some l) (what_is_added _ _ c.in-Ok.answer c.in-Ok.list c.in-Ok.ensures.decides)
