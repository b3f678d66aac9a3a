use Rattle.std.proofs.Common.{◌∙◌, ap, refl, ℕ, List}
use Rattle.book_core.specs.Account.{is_inside}
use Rattle.treasury_core.proofs.ChoiceLemmas.{tested_inside}
use Rattle.treasury_notes.proofs.named.is_leg_inside.Goals as goal

pub returns : goal.returns
returns c =
    tested_inside c.args.account.now c.args.account.now c.as_str.result.now c.is_inside.result refl c.is_inside.ensures
    ∙ ap (λ (name : List ℕ). is_inside c.args.account.now name) c.as_str.ensures
