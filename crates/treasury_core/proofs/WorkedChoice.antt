-- values of choices, worked out by hand
use Rattle.std.proofs.Common.{◌≡◌, refl, [], ◌∷◌, Some, None, true, false}
use Rattle.std.specs.Prelude.{codes}
use Rattle.treasury_core.specs.declared.choice.Choice.{Choice}
use Rattle.treasury_core.specs.Choice.{is_selected, target_in, choice_comments, holds_transit}

abbrev fair : Choice
fair = record { accounts = Some (codes "income:fair" ∷ codes "expenses:fair" ∷ []); into = Some (codes "equity:fair") }

abbrev none : Choice
none = record { accounts = None; into = None }

-- a listed account and its subaccounts, and no account that only begins like it; without a list the revenue and expense
-- accounts
pub selects : (is_selected fair.accounts (codes "expenses:fair") ≡ true)
    × (is_selected fair.accounts (codes "expenses:fair:tents") ≡ true)
    × (is_selected fair.accounts (codes "expenses:fairness") ≡ false)
    × (is_selected fair.accounts (codes "income") ≡ false) × (is_selected none.accounts (codes "Expenses:x") ≡ true)
    × (is_selected none.accounts (codes "equity:fair") ≡ false)
selects = (refl, refl, refl, refl, refl, refl)

-- the target, and the comments
pub says : (target_in fair.into ≡ codes "equity:fair") × (target_in none.into ≡ codes "equity:retained earnings")
    × (choice_comments fair ≡ codes "accounts:income:fair;expenses:fair" ∷ codes "into:equity:fair" ∷ [])
    × (choice_comments none ≡ [])
says = (refl, refl, refl, refl)

-- what may not be listed
pub holds : (holds_transit (codes "assets") ≡ true) × (holds_transit (codes "assets:transit:north:south") ≡ true)
    × (holds_transit (codes "assets:bank") ≡ false) × (holds_transit (codes "assets:transit2") ≡ false)
holds = (refl, refl, refl, refl)
