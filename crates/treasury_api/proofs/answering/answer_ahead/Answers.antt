use Rattle.std.proofs.Common.{◌≡◌, ◌∙◌, ◌++◌, List, Ok, Err, true, false, inl, refl, ap, sym, subst}
use Rattle.std.specs.Prelude.{◌↔◌}
use Rattle.money_core.specs.declared.cause.Cause.TheVariants.{UnknownBranch}
use Rattle.treasury_state.specs.Federation.{Federation}
use Rattle.treasury_store.specs.Treasury.{Treasury, IsTreasuryOf}
use Rattle.treasury_store.proofs.TreasuryLemmas.{ok_unfailed}
use Rattle.treasury_store.proofs.LeftLemmas.{shuts_by, shuts_then}
use Rattle.treasury_store.proofs.OwnRefusalLemmas.{listed_unheld}
use Rattle.treasury_api.specs.Asked.{SpelledAsks}
use Rattle.treasury_api.specs.Report.{report_in, has_its_branch}
use Rattle.treasury_api.specs.Serving.{OrMemory, IsForeseen}
use Rattle.treasury_api.specs.declared.asking.Asked.TheVariants.{Command, DryRun, Report}
use Rattle.treasury_api.proofs.ReplyLemmas.{state_is, in_memory}
use Rattle.treasury_api.proofs.AnswerLemmas.{answered_unheld, held_unfailed, answered_by_reply, SpelledAsks_of_same}
use Rattle.treasury_api.proofs.AnswerLemmas.{command_fits, refused_texts}
use Rattle.treasury_api.proofs.AnswerLemmas.{dry_run_fits}
use Rattle.treasury_api.proofs.ForeseenLemmas.{dry_run_replied, foreseen_listed, foreseen_printable, foreseen_unfailed}
use Rattle.treasury_api.proofs.ForeseenLemmas.{foreseen_same, added_ahead}
use Rattle.treasury_api.proofs.AnswerLemmas.{report_replied, report_refused, is_there}
use Rattle.treasury_api.proofs.ServeLemmas.{asked_report}
use Rattle.treasury_api.proofs.SpelledLemmas.{spelled_in_earnest}
use Rattle.treasury_api.proofs.LeftLemmas.{left_same, left_command, keeps_database, open_unheld, fails_not}
use Rattle.treasury_api.proofs.LeftLemmas.{fails_unheld, fails_ruled, unread_state, refused_closed, ruled_texts}
use Rattle.treasury_api.proofs.LeftLemmas.{ruled_report}
use Rattle.treasury_api.proofs.answering.answer_ahead.Goals as goal

pub answer_command-requires-clause-held : goal.answer_command-requires-clause-held
answer_command-requires-clause-held g c = (
  c.in-Some.state.now,
  (
    c.in-Some.ensures,
    (
      command_fits _ _ _ c.in-Ok-Command.field-0-is c.in-Ok-Command.ensures.ready,
      c.is_good.ensures,
    ),
  ),
)

pub returns-in-Err-clause-replies : goal.returns-in-Err-clause-replies
returns-in-Err-clause-replies g c clean f of =
    answered_unheld c.reading_law.ensures.some g.S.Store c.args.treasury.now.store.failed c.hold.new.self f
    c.args.request.now c.in-Err.cause c.hold.result _ _ _ c.in-Err.is refl
    (c.hold.ensures.of clean f of) (λ e. c.hold.ensures.damaged e clean f of) c.hold.ensures.answers
    (λ t. let k = c.hold.ensures.closed t in (k.0, ap (λ (x : Treasury _). x.store.failed) k.1)) refl

pub returns-in-Ok-Command-clause-replies : goal.returns-in-Ok-Command-clause-replies
returns-in-Ok-Command-clause-replies g c clean f of =
    let still_of = c.hold.ensures.of (c.answer_command.ensures.database.shuts.clean clean) f of in
    let same : c.in-Some.state.now ≡ f =
    state_is g.S.Store c.hold.new.self c.in-Some.state.now f still_of c.in-Some.ensures in
    answered_by_reply g.S.Store c.args.treasury.now.store.failed c.answer_command.new.treasury f c.args.request.now
    (Ok (Command c.in-Ok-Command.command)) c.answer_command.result _ _
    (held_unfailed _ c.in-Ok.field-0 c.hold.result c.in-Ok.is c.hold.ensures.closed)
    (SpelledAsks_of_same _ _ _ _ _ same
    c.in-Ok-Command.field-0-is
    c.in-Ok-Command.ensures.asks)
    (c.answer_command.ensures.replies clean f still_of c.args.form)

pub returns-in-Ok-push_report_in-clause-replies : goal.returns-in-Ok-push_report_in-clause-replies
returns-in-Ok-push_report_in-clause-replies g c clean f of =
    let still_of = c.hold.ensures.of clean f of in
    let same : c.in-Some.state.now ≡ f =
    state_is g.S.Store c.hold.new.self c.in-Some.state.now f still_of c.in-Some.ensures in
    let was = held_unfailed _ c.in-Ok.field-0 c.hold.result c.in-Ok.is c.hold.ensures.closed in
    let there = is_there _ c.in-Ok-push_report_in.field-0 c.push_report_in.result c.in-Ok-push_report_in.is
    c.push_report_in.ensures.unknown in
    answered_by_reply g.S.Store c.args.treasury.now.store.failed c.hold.new.self f c.args.request.now
    (Ok (Report c.in-Ok-Report.report)) _ _ _ was
    (SpelledAsks_of_same _ _ _ _ _ same c.in-Ok-Report.field-0-is
    c.in-Ok-Report.ensures.asks)
    (report_replied g.S.Store c.hold.new.self f c.in-Ok-Report.report _ _ _ still_of
    (ok_unfailed c.in-Ok.field-0 _ (c.in-Ok.ensures.answers was))
    (subst (λ (x : Federation). has_its_branch x c.in-Ok-Report.report ≡ true) same there)
    (subst (λ (x : Federation). c.push_report_in.new.out.items
    ≡ c.args.out.now.items ++ report_in c.args.form x c.in-Ok-Report.report) same c.in-Ok-push_report_in.ensures.ok))

pub returns-in-Err-push_report_in-clause-replies : goal.returns-in-Err-push_report_in-clause-replies
returns-in-Err-push_report_in-clause-replies g c clean f of =
    let still_of = c.hold.ensures.of clean f of in
    let same : c.in-Some.state.now ≡ f =
    state_is g.S.Store c.hold.new.self c.in-Some.state.now f still_of c.in-Some.ensures in
    let was = held_unfailed _ c.in-Ok.field-0 c.hold.result c.in-Ok.is c.hold.ensures.closed in
    answered_by_reply g.S.Store c.args.treasury.now.store.failed c.hold.new.self f c.args.request.now
    (Ok (Report c.in-Ok-Report.report)) _ _ _ was
    (SpelledAsks_of_same _ _ _ _ _ same c.in-Ok-Report.field-0-is
    c.in-Ok-Report.ensures.asks)
    (report_refused g.S.Store c.hold.new.self f c.in-Ok-Report.report c.in-Err-push_report_in.cause
    c.push_report_in.result
    _ _ _
    c.in-Err-push_report_in.is refl still_of (ok_unfailed c.in-Ok.field-0 _ (c.in-Ok.ensures.answers was))
    (subst (λ (x : Federation). (c.push_report_in.result ≡ Err UnknownBranch)
    ↔ (has_its_branch x c.in-Ok-Report.report ≡ false)) same c.push_report_in.ensures.unknown)
    c.in-Err-push_report_in.ensures.causes c.in-Err-push_report_in.ensures.err)

pub returns-in-Err-asked_by-clause-replies : goal.returns-in-Err-asked_by-clause-replies
returns-in-Err-asked_by-clause-replies g c clean f of =
    let still_of = c.hold.ensures.of clean f of in
    let same : c.in-Some.state.now ≡ f =
    state_is g.S.Store c.hold.new.self c.in-Some.state.now f still_of c.in-Some.ensures in
    let was = held_unfailed _ c.in-Ok.field-0 c.hold.result c.in-Ok.is c.hold.ensures.closed in
    refused_texts c.reading_law.ensures.some g.S.Store c.args.treasury.now.store.failed c.hold.new.self f
    c.args.request.now c.in-Err-asked_by.refusal _ _ _ was
    (subst (λ (x : Federation). OrMemory (SpelledAsks x c.args.request.now) (Err c.in-Err-asked_by.refusal))
    same c.in-Err-asked_by.ensures.asks)
    refl still_of (ok_unfailed c.in-Ok.field-0 _ (c.in-Ok.ensures.answers was)) refl

-- ---- where the state cannot be had

pub returns-in-Err-clause-refuses : goal.returns-in-Err-clause-refuses
returns-in-Err-clause-refuses g c = record {
  listed = λ unfailed. listed_unheld c.in-Err.cause _ (c.in-Err.ensures.answers unfailed);
  fails = λ unfailed. fails_unheld c.in-Err.cause _ (c.in-Err.ensures.answers unfailed);
  printable = tt;
}

pub returns-in-Err-clause-database : goal.returns-in-Err-clause-database
returns-in-Err-clause-database g c =
    keeps_database g.S.Store _ _ _ (λ clean is_open. open_unheld g.S.Store c.hold.new.self.store.conn c.in-Err.cause
    (c.in-Err.ensures.kept clean is_open))
    (shuts_by g.S.Store c.args.treasury.now.store.conn c.hold.new.self.store.conn _ c.hold.ensures.crash)

pub returns-in-Err-clause-closed : goal.returns-in-Err-clause-closed
returns-in-Err-clause-closed g c failed =
    let k = c.in-Err.ensures.closed failed in (refused_closed c.in-Err.cause k.0, k.1)

pub returns-in-Err-clause-strange : goal.returns-in-Err-clause-strange
returns-in-Err-clause-strange g c clean unfailed unheld none =
    (unread_state c.in-Err.cause _ (c.in-Err.ensures.answers unfailed), c.hold.ensures.unchanged clean)

pub returns-in-Err-clause-left : goal.returns-in-Err-clause-left
returns-in-Err-clause-left g c =
    left_same g.S.Store c.args.treasury.now c.hold.new.self c.args.request.now c.hold.ensures.left

-- ---- a command

pub returns-in-Ok-Command-clause-refuses : goal.returns-in-Ok-Command-clause-refuses
returns-in-Ok-Command-clause-refuses g c = record {
  listed = λ unfailed.
      c.answer_command.ensures.refuses.listed
      (ok_unfailed c.in-Ok.field-0 _ (c.in-Ok.ensures.answers unfailed));
  fails = λ unfailed.
      c.answer_command.ensures.refuses.fails
      (ok_unfailed c.in-Ok.field-0 _ (c.in-Ok.ensures.answers unfailed));
  printable = c.answer_command.ensures.refuses.printable;
}

pub returns-in-Ok-Command-clause-database : goal.returns-in-Ok-Command-clause-database
returns-in-Ok-Command-clause-database g c =
    keeps_database g.S.Store _ _ _ (λ clean is_open. c.answer_command.ensures.database.open_but clean
    (c.in-Ok.ensures.still_open (c.answer_command.ensures.database.shuts.clean clean) is_open))
    (shuts_then g.S.Store c.args.treasury.now.store.conn c.hold.new.self.store.conn
    c.answer_command.new.treasury.store.conn
    (shuts_by g.S.Store c.args.treasury.now.store.conn c.hold.new.self.store.conn _ c.hold.ensures.crash)
    c.answer_command.ensures.database.shuts)

pub returns-in-Ok-Command-clause-closed : goal.returns-in-Ok-Command-clause-closed
returns-in-Ok-Command-clause-closed g c failed = absurd (let k = (c.in-Ok.ensures.closed failed).0 in cc)

pub returns-in-Ok-Command-clause-strange : goal.returns-in-Ok-Command-clause-strange
returns-in-Ok-Command-clause-strange g c clean unfailed unheld none =
    absurd (c.in-Ok.ensures.shown (c.answer_command.ensures.database.shuts.clean clean) unheld none)

pub returns-in-Ok-Command-clause-left : goal.returns-in-Ok-Command-clause-left
returns-in-Ok-Command-clause-left g c =
    let means : (f : Federation) → IsTreasuryOf g.S.Store c.hold.new.self f
    → SpelledAsks f c.args.request.now (Ok (Command c.in-Ok-Command.command)) = λ f of.
    let same : c.in-Some.state.now ≡ f =
    state_is g.S.Store c.hold.new.self c.in-Some.state.now f of c.in-Some.ensures in
    SpelledAsks_of_same _ _ _ _ _ same c.in-Ok-Command.field-0-is
    c.in-Ok-Command.ensures.asks in
    left_command g.S.Store c.args.treasury.now c.hold.new.self c.answer_command.new.treasury c.args.request.now
    c.in-Ok-Command.command
    c.answer_command.ensures.database.shuts.clean c.in-Ok.ensures.still_open c.hold.ensures.of
    (held_unfailed _ c.in-Ok.field-0 c.hold.result c.in-Ok.is c.hold.ensures.closed) (
      c.in-Some.state.now,
      (
        c.in-Some.ensures,
        (
          command_fits _ _ _ c.in-Ok-Command.field-0-is c.in-Ok-Command.ensures.ready,
          c.is_good.ensures,
        ),
      ),
    )
    means c.answer_command.ensures.left

pub returns-in-Ok-Command-clause-added : goal.returns-in-Ok-Command-clause-added
returns-in-Ok-Command-clause-added g c dry other =
    absurd (let earnest = spelled_in_earnest _ c.args.request.now c.in-Ok-Command.command
    (SpelledAsks_of_same _ _ _ _ _ refl c.in-Ok-Command.field-0-is c.in-Ok-Command.ensures.asks) in cc)

-- ---- a dry run

pub answer_dry_run-requires : goal.answer_dry_run-requires
answer_dry_run-requires g c =
    dry_run_fits _ _ _ c.in-Ok-DryRun.field-0-is c.in-Ok-DryRun.ensures.ready

pub returns-in-Ok-DryRun-clause-replies : goal.returns-in-Ok-DryRun-clause-replies
returns-in-Ok-DryRun-clause-replies g c clean f of =
    let still_of = c.hold.ensures.of clean f of in
    let same : c.in-Some.state.now ≡ f =
    state_is g.S.Store c.hold.new.self c.in-Some.state.now f still_of c.in-Some.ensures in
    let was = held_unfailed _ c.in-Ok.field-0 c.hold.result c.in-Ok.is c.hold.ensures.closed in
    answered_by_reply g.S.Store c.args.treasury.now.store.failed c.hold.new.self f c.args.request.now
    (Ok (DryRun c.in-Ok-DryRun.command)) c.answer_dry_run.result _ _ was
    (SpelledAsks_of_same _ _ _ _ _ same c.in-Ok-DryRun.field-0-is
    c.in-Ok-DryRun.ensures.asks)
    (dry_run_replied g.S.Store c.hold.new.self f c.in-Ok-DryRun.command c.answer_dry_run.result c.args.out.now.items
    c.answer_dry_run.new.out.items still_of (ok_unfailed c.in-Ok.field-0 _ (c.in-Ok.ensures.answers was))
    (subst (λ (x : Federation). IsForeseen x c.in-Ok-DryRun.command c.answer_dry_run.result c.args.out.now.items
    c.answer_dry_run.new.out.items) same c.answer_dry_run.ensures.foreseen))

pub returns-in-Ok-DryRun-clause-added : goal.returns-in-Ok-DryRun-clause-added
returns-in-Ok-DryRun-clause-added g c dry other =
    added_ahead _ _ c.args.request.now c.in-Ok-DryRun.command _ c.answer_dry_run.result c.in-Some.ensures
    (SpelledAsks_of_same _ _ _ _ _ refl c.in-Ok-DryRun.field-0-is c.in-Ok-DryRun.ensures.asks)
    c.answer_dry_run.ensures.added

pub returns-in-Ok-DryRun-clause-err : goal.returns-in-Ok-DryRun-clause-err
returns-in-Ok-DryRun-clause-err g c = foreseen_same _ _ _ _ _ c.answer_dry_run.ensures.foreseen

pub returns-in-Ok-DryRun-clause-refuses : goal.returns-in-Ok-DryRun-clause-refuses
returns-in-Ok-DryRun-clause-refuses g c = record {
  listed = λ unfailed. foreseen_listed _ _ _ _ _ c.answer_dry_run.ensures.foreseen;
  fails = λ unfailed.
      foreseen_unfailed _ _ _ _ _ _ (ok_unfailed c.in-Ok.field-0 _ (c.in-Ok.ensures.answers unfailed))
      c.answer_dry_run.ensures.foreseen;
  printable =
      foreseen_printable c.hold.new.self c.in-Some.state.now c.in-Ok-DryRun.command c.answer_dry_run.result
      c.args.out.now.items c.answer_dry_run.new.out.items c.in-Some.ensures c.is_good.ensures
      (dry_run_fits _ _ _ c.in-Ok-DryRun.field-0-is c.in-Ok-DryRun.ensures.ready)
      c.answer_dry_run.ensures.foreseen;
}

pub returns-in-Ok-DryRun-clause-database : goal.returns-in-Ok-DryRun-clause-database
returns-in-Ok-DryRun-clause-database g c =
    keeps_database g.S.Store _ _ _ (λ clean is_open. inl (c.in-Ok.ensures.still_open clean is_open))
    (shuts_by g.S.Store c.args.treasury.now.store.conn c.hold.new.self.store.conn _ c.hold.ensures.crash)

pub returns-in-Ok-DryRun-clause-closed : goal.returns-in-Ok-DryRun-clause-closed
returns-in-Ok-DryRun-clause-closed g c failed = absurd (let k = (c.in-Ok.ensures.closed failed).0 in cc)

pub returns-in-Ok-DryRun-clause-strange : goal.returns-in-Ok-DryRun-clause-strange
returns-in-Ok-DryRun-clause-strange g c clean unfailed unheld none = absurd (c.in-Ok.ensures.shown clean unheld none)

pub returns-in-Ok-DryRun-clause-left : goal.returns-in-Ok-DryRun-clause-left
returns-in-Ok-DryRun-clause-left g c =
    left_same g.S.Store c.args.treasury.now c.hold.new.self c.args.request.now c.hold.ensures.left

-- ---- a report that is made

pub returns-in-Ok-push_report_in-clause-short : goal.returns-in-Ok-push_report_in-clause-short
returns-in-Ok-push_report_in-clause-short g c other =
    absurd (let clash = asked_report _ c.args.request.now _ c.in-Ok-Report.report c.in-Ok-Report.field-0-is
    c.in-Ok-Report.ensures.asks in let k : true ≡ false = sym clash ∙ other in cc)

pub returns-in-Ok-push_report_in-clause-added : goal.returns-in-Ok-push_report_in-clause-added
returns-in-Ok-push_report_in-clause-added g c dry other =
    absurd (let clash = asked_report _ c.args.request.now _ c.in-Ok-Report.report c.in-Ok-Report.field-0-is
    c.in-Ok-Report.ensures.asks in let k : true ≡ false = sym clash ∙ other in cc)

pub returns-in-Ok-push_report_in-clause-refuses : goal.returns-in-Ok-push_report_in-clause-refuses
returns-in-Ok-push_report_in-clause-refuses g c = record {
  listed = λ unfailed. tt;
  fails = λ unfailed.
      fails_not _ _ (ok_unfailed c.in-Ok.field-0 _ (c.in-Ok.ensures.answers unfailed))
      (λ is. absurd cc);
  printable = tt;
}

pub returns-in-Ok-push_report_in-clause-database : goal.returns-in-Ok-push_report_in-clause-database
returns-in-Ok-push_report_in-clause-database g c =
    keeps_database g.S.Store _ _ _ (λ clean is_open. inl (c.in-Ok.ensures.still_open clean is_open))
    (shuts_by g.S.Store c.args.treasury.now.store.conn c.hold.new.self.store.conn _ c.hold.ensures.crash)

pub returns-in-Ok-push_report_in-clause-closed : goal.returns-in-Ok-push_report_in-clause-closed
returns-in-Ok-push_report_in-clause-closed g c failed = absurd (let k = (c.in-Ok.ensures.closed failed).0 in cc)

pub returns-in-Ok-push_report_in-clause-strange : goal.returns-in-Ok-push_report_in-clause-strange
returns-in-Ok-push_report_in-clause-strange g c clean unfailed unheld none =
    absurd (c.in-Ok.ensures.shown clean unheld none)

pub returns-in-Ok-push_report_in-clause-left : goal.returns-in-Ok-push_report_in-clause-left
returns-in-Ok-push_report_in-clause-left g c =
    left_same g.S.Store c.args.treasury.now c.hold.new.self c.args.request.now c.hold.ensures.left

-- ---- a report that is refused

pub returns-in-Err-push_report_in-clause-refuses : goal.returns-in-Err-push_report_in-clause-refuses
returns-in-Err-push_report_in-clause-refuses g c = record {
  listed = λ unfailed. inl (ruled_report c.in-Err-push_report_in.cause c.in-Err-push_report_in.ensures.causes);
  fails = λ unfailed.
      fails_ruled _ _ (ruled_report c.in-Err-push_report_in.cause c.in-Err-push_report_in.ensures.causes)
      (ok_unfailed c.in-Ok.field-0 _ (c.in-Ok.ensures.answers unfailed));
  printable = tt;
}

pub returns-in-Err-push_report_in-clause-database : goal.returns-in-Err-push_report_in-clause-database
returns-in-Err-push_report_in-clause-database g c =
    keeps_database g.S.Store _ _ _ (λ clean is_open. inl (c.in-Ok.ensures.still_open clean is_open))
    (shuts_by g.S.Store c.args.treasury.now.store.conn c.hold.new.self.store.conn _ c.hold.ensures.crash)

pub returns-in-Err-push_report_in-clause-closed : goal.returns-in-Err-push_report_in-clause-closed
returns-in-Err-push_report_in-clause-closed g c failed = absurd (let k = (c.in-Ok.ensures.closed failed).0 in cc)

pub returns-in-Err-push_report_in-clause-strange : goal.returns-in-Err-push_report_in-clause-strange
returns-in-Err-push_report_in-clause-strange g c clean unfailed unheld none =
    absurd (c.in-Ok.ensures.shown clean unheld none)

pub returns-in-Err-push_report_in-clause-left : goal.returns-in-Err-push_report_in-clause-left
returns-in-Err-push_report_in-clause-left g c =
    left_same g.S.Store c.args.treasury.now c.hold.new.self c.args.request.now c.hold.ensures.left

-- ---- a text that is refused

pub returns-in-Err-asked_by-clause-refuses : goal.returns-in-Err-asked_by-clause-refuses
returns-in-Err-asked_by-clause-refuses g c = record {
  listed = λ unfailed. inl (ruled_texts _ c.args.request.now c.in-Err-asked_by.refusal c.in-Err-asked_by.ensures.asks);
  fails = λ unfailed.
      fails_ruled _ _ (ruled_texts _ c.args.request.now c.in-Err-asked_by.refusal c.in-Err-asked_by.ensures.asks)
      (ok_unfailed c.in-Ok.field-0 _ (c.in-Ok.ensures.answers unfailed));
  printable =
      in_memory c.hold.new.self c.in-Some.state.now c.in-Err-asked_by.refusal c.in-Some.ensures
      c.in-Err-asked_by.ensures.ready;
}

pub returns-in-Err-asked_by-clause-database : goal.returns-in-Err-asked_by-clause-database
returns-in-Err-asked_by-clause-database g c =
    keeps_database g.S.Store _ _ _ (λ clean is_open. inl (c.in-Ok.ensures.still_open clean is_open))
    (shuts_by g.S.Store c.args.treasury.now.store.conn c.hold.new.self.store.conn _ c.hold.ensures.crash)

pub returns-in-Err-asked_by-clause-closed : goal.returns-in-Err-asked_by-clause-closed
returns-in-Err-asked_by-clause-closed g c failed = absurd (let k = (c.in-Ok.ensures.closed failed).0 in cc)

pub returns-in-Err-asked_by-clause-strange : goal.returns-in-Err-asked_by-clause-strange
returns-in-Err-asked_by-clause-strange g c clean unfailed unheld none = absurd (c.in-Ok.ensures.shown clean unheld none)

pub returns-in-Err-asked_by-clause-left : goal.returns-in-Err-asked_by-clause-left
returns-in-Err-asked_by-clause-left g c =
    left_same g.S.Store c.args.treasury.now c.hold.new.self c.args.request.now c.hold.ensures.left
