use Rattle.std.proofs.Common.{◌≡◌, true, rules, arith}
use Rattle.import_notes.specs.NewAccount.{is_new_account, has_imported}
use Rattle.import_notes.proofs.AccountLemmas.{is_any}
use Rattle.import_notes.proofs.accounts.has_new_account.Goals as goal

pub returns-in-Ok : goal.returns-in-Ok
returns-in-Ok c =
    let imported : has_imported c.args.held.now ≡ true = first_of (search rules, grind arith) in
    is_any c.in-Ok.accounts.entries c.is_empty.result _ (is_new_account c.args.held.now c.args.new.now)
    c.is_empty.ensures c.in-Ok.ensures imported
