use Rattle.std.proofs.Common.{◌≡◌, ap, sym, subst, ◌∙◌, Some, None, List}
use Rattle.book_core.specs.declared.entry.Entry.{Entry}
use Rattle.book_core.specs.GoodBook.{IsGoodBook}
use Rattle.treasury_state.specs.Federation.{entries, branch_at}
use Rattle.treasury_state.specs.Good.{IsGoodBranch}
use Rattle.treasury_state.specs.Seen.{branch_of}
use Rattle.treasury_state.proofs.FindLemmas.{branch_at_Some, branch_at_None}
use Rattle.treasury_state.proofs.HoldsLemmas.{found_holds}
use Rattle.treasury_state.proofs.state.State.ledger.Goals as goal

pub returns-in-None-clause-found : goal.returns-in-None-clause-found
returns-in-None-clause-found g c =
    let f = c.args.self.now in
    let name = c.args.name.now in
    let found : branch_at f.branches name ≡ None = c.in-None.ensures.found in
    (branch_at_None f.branches name found).none

pub returns-in-Some-clause-found : goal.returns-in-Some-clause-found
returns-in-Some-clause-found g c =
    let f = c.args.self.now in
    let name = c.args.name.now in
    let b = branch_of c.in-Some.branch.now in
    let found : branch_at f.branches name ≡ Some b = c.in-Some.ensures.found in
    let at = branch_at_Some f.branches name b found in
    (at.any, c.in-Some.ensures.kept.ledger ∙ ap entries (sym at.records))

pub returns-in-Some-clause-good : goal.returns-in-Some-clause-good
returns-in-Some-clause-good g c =
    let f = c.args.self.now in
    let name = c.args.name.now in
    let b = branch_of c.in-Some.branch.now in
    let found : branch_at f.branches name ≡ Some b = c.in-Some.ensures.found in
    let good = found_holds (IsGoodBranch f.styles) f.branches name b found c.is_good.ensures.branches in
    subst (λ (book : List Entry). IsGoodBook book) (sym c.in-Some.ensures.kept.ledger) good.book
