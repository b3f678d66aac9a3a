use Rattle.std.proofs.Common.{◌≡◌, List, ℕ, true, sym, subst}
use Rattle.std.specs.Prelude.{OnOk}
use Rattle.std.proofs.lemmas.Result.{on_ok_weaker}
use Rattle.book_core.specs.declared.account.Reach.{Reach}
use Rattle.book_core.specs.Account.{reaches}
use Rattle.book_core.specs.ClaimIndex.{IsListed}
use Rattle.book_core.proofs.ClaimIndexLemmas.{own_listed}
use Rattle.book_core.proofs.claim_index.list_account.Goals as goal

pub returns-in-Own-clause-listed : goal.returns-in-Own-clause-listed
returns-in-Own-clause-listed c =
    subst (λ (r : Reach). OnOk c.list_row.result ((a : List ℕ) → reaches r a c.args.account.now ≡ true
    → IsListed c.list_row.new.rows.items c.args.index.now a)) (sym c.in-Own.is)
    (on_ok_weaker c.list_row.result
    (λ own. own_listed c.list_row.new.rows.items c.args.index.now c.args.account.now own) c.list_row.ensures.listed)

pub returns-in-Inside-clause-listed : goal.returns-in-Inside-clause-listed
returns-in-Inside-clause-listed c =
    subst (λ (r : Reach). OnOk c.list_fronts.result ((a : List ℕ) → reaches r a c.args.account.now ≡ true
    → IsListed c.list_fronts.new.rows.items c.args.index.now a)) (sym c.in-Inside.is) c.list_fronts.ensures.listed
