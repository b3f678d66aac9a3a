use Rattle.std.proofs.Common.{◌∙◌, ap, sym, List, ℕ}
use Rattle.std.proofs.lemmas.Bool.Decides.{same_from_decides}
use Rattle.book_core.specs.declared.account.Reach.{Reach}
use Rattle.book_core.specs.Account.{is_inside, reaches}
use Rattle.book_core.proofs.AccountLemmas.{is_inside_decides}
use Rattle.treasury_reasons.proofs.touching.Watched.has.Goals as goal

pub returns-in-Inside : goal.returns-in-Inside
returns-in-Inside c =
    let account = c.as_str-in-Inside.result.now in
    let name = c.args.account.now in
    same_from_decides c.is_inside.result (is_inside account name) c.is_inside.ensures (is_inside_decides account name)
    ∙ ap (λ (a : List ℕ). is_inside a name) c.as_str-in-Inside.ensures
    ∙ ap (λ (r : Reach). reaches r c.args.self.now.account name) (sym c.in-Inside.is)
