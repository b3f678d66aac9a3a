use Rattle.std.proofs.Common.{ℕ, List, subst}
use Rattle.treasury_api.specs.Replied.{IsAnswered}
use Rattle.treasury_api.proofs.ServeLemmas.{unread_line_served, answered_line_served, served_memory, served_refusal}
use Rattle.treasury_api.proofs.running.TreasuryMachine.answer.Goals as goal

pub returns-in-Err : goal.returns-in-Err
returns-in-Err g c =
    unread_line_served c.reading_law.ensures.some g.S.Store c.left_law.ensures.rows c.args.self.now c.args.line.now _
    c.in-Err.cause c.read_within_memory.result c.in-Err.is
    c.read_within_memory.ensures.refused
    c.in-Err.ensures.causes c.refuse.ensures

pub returns-in-Ok-end_report : goal.returns-in-Ok-end_report
returns-in-Ok-end_report g c =
    answered_line_served g.S.Store c.args.self.now c.answer_ahead.new.treasury c.args.line.now
    c.answer_ahead.new.out.items _
    c.in-Ok.request c.answer_ahead.result c.in-Ok-answer_ahead.field-0
    c.in-Ok.ensures.ok c.in-Ok-answer_ahead.is
    (record {
      database = c.answer_ahead.ensures.database;
      closed = c.answer_ahead.ensures.closed;
      left = c.answer_ahead.ensures.left;
    })
    (λ k f of. subst (λ (xs : List ℕ).
    IsAnswered g.S.Store c.args.self.now.store.failed c.answer_ahead.new.treasury f c.in-Ok.request
    c.answer_ahead.result xs c.answer_ahead.new.out.items) c.new-text.ensures.items
    (c.answer_ahead.ensures.replies k f of)) c.in-Ok-end_report.ensures.ok

pub returns-in-Ok-answer_ahead : goal.returns-in-Ok-answer_ahead
returns-in-Ok-answer_ahead g c =
    served_memory g.S.Store c.args.self.now c.answer_ahead.new.treasury c.args.line.now c.answer_ahead.new.out.items _
    c.in-Ok.request c.answer_ahead.result c.in-Ok-answer_ahead.field-0
    c.in-Ok.ensures.ok c.in-Ok-answer_ahead.is
    (record {
      database = c.answer_ahead.ensures.database;
      closed = c.answer_ahead.ensures.closed;
      left = c.answer_ahead.ensures.left;
    })
    (λ k f of. subst (λ (xs : List ℕ).
    IsAnswered g.S.Store c.args.self.now.store.failed c.answer_ahead.new.treasury f c.in-Ok.request
    c.answer_ahead.result xs c.answer_ahead.new.out.items) c.new-text.ensures.items
    (c.answer_ahead.ensures.replies k f of)) c.in-Err-end_report.ensures.err c.refuse-in-Err-end_report.ensures

pub returns : goal.returns
returns g c =
    served_refusal g.S.Store c.args.self.now c.answer_ahead.new.treasury c.args.line.now c.answer_ahead.new.out.items _
    c.in-Ok.request c.answer_ahead.result c.in-Err-answer_ahead.refusal
    c.in-Ok.ensures.ok c.in-Err-answer_ahead.is
    (record {
      database = c.answer_ahead.ensures.database;
      closed = c.answer_ahead.ensures.closed;
      left = c.answer_ahead.ensures.left;
    })
    (λ k f of. subst (λ (xs : List ℕ).
    IsAnswered g.S.Store c.args.self.now.store.failed c.answer_ahead.new.treasury f c.in-Ok.request
    c.answer_ahead.result xs c.answer_ahead.new.out.items) c.new-text.ensures.items
    (c.answer_ahead.ensures.replies k f of)) c.refuse-in-Err-answer_ahead.ensures
