use Rattle.money_core.proofs.PrintedLemmas.{on_err}
use Rattle.money_core.proofs.Appends.{kept_behind, appended_thrice}
use Rattle.journal_format.proofs.printing.push_posting.Goals as goal

pub returns-in_err-push_value-clause-err : goal.returns-in_err-push_value-clause-err
returns-in_err-push_value-clause-err c =
    let a = c.args.out.now.items in
    let front = appended_thrice a c.extend_from_slice.new.self.items c.push_status.new.out.items
    c.extend_from_slice-2.new.self.items _ _ _
    c.in_ok-extend_from_slice.ensures.items c.in_ok-push_status.ensures.ok c.in_ok-extend_from_slice-2.ensures.items in
    on_err _ _ (kept_behind a c.extend_from_slice-2.new.self.items c.push_value.new.out.items _ front
    c.in_err-push_value.ensures.err)

pub returns-in_err-push_comments-clause-err : goal.returns-in_err-push_comments-clause-err
returns-in_err-push_comments-clause-err c =
    let a = c.args.out.now.items in
    let front = appended_thrice a c.extend_from_slice.new.self.items c.push_status.new.out.items
    c.extend_from_slice-2.new.self.items _ _ _
    c.in_ok-extend_from_slice.ensures.items c.in_ok-push_status.ensures.ok c.in_ok-extend_from_slice-2.ensures.items in
    let line = appended_thrice a c.extend_from_slice-2.new.self.items c.push_value.new.out.items c.push.new.self.items _
    _ _ front c.in_ok-push_value.ensures.ok c.in_ok-push.ensures.items in
    on_err _ _ (kept_behind a c.push.new.self.items c.push_comments.new.out.items _ line
    c.in_err-push_comments.ensures.err)
