-- Four parts are appended one after the other, and the one that fails leaves what stood before the first.
use Rattle.money_core.proofs.Appends.{kept_behind_two}
use Rattle.money_core.proofs.PrintedLemmas.{on_err}
use Rattle.journal_lines.proofs.PrintedLemmas.{kept_behind_three}
use Rattle.journal_lines.proofs.printed.push_header.Goals as goal

pub returns-in_err-push_code-clause-err : goal.returns-in_err-push_code-clause-err
returns-in_err-push_code-clause-err c =
    on_err _ _ (kept_behind_two c.args.out.now.items c.extend_from_slice.new.self.items c.push_status.new.out.items
    c.push_code.new.out.items _ _
    c.in_ok-extend_from_slice.ensures.items c.in_ok-push_status.ensures.ok c.in_err-push_code.ensures.err)

pub returns-clause-err : goal.returns-clause-err
returns-clause-err c =
    kept_behind_three c.push_spaced.result c.args.out.now.items c.extend_from_slice.new.self.items
    c.push_status.new.out.items c.push_code.new.out.items c.push_spaced.new.out.items _ _ _
    c.in_ok-extend_from_slice.ensures.items c.in_ok-push_status.ensures.ok c.in_ok-push_code.ensures.ok
    c.push_spaced.ensures.err
