-- Accounts that an option names, and that a branch does not have (own rule; docs/RULES.md, "Notes").
use Rattle.std.specs.Prelude.{ℕ, ◌==◌, Bool, ◌||◌, not, if◌then◌else◌, List, [], ◌∷◌, length, filter, Option}
use Rattle.std.specs.Prelude.{Some, None}
use Rattle.std.specs.List.{list_any, slice_split}
use Rattle.book_core.specs.Account.{is_inside}
use Rattle.book_core.specs.declared.leg.Leg.{Leg}
use Rattle.treasury_state.specs.declared.record.Record.{Record}
use Rattle.treasury_messages.specs.declared.kind.MessageKind.TheVariants as is
use Rattle.treasury_messages.specs.Said.{Said, says}
use Rattle.journal_hints.specs.Listed.{most_notes, listed}
use Rattle.import_notes.specs.NewAccount.{has_leg_on}

-- of the account that an option names, if it is given, and the branch has entries, and none of them a leg on it
abbrev pub named_account_said : List ℕ → Option (List ℕ) → List ℕ → List Record → List Said
named_account_said option None branch held = []
named_account_said option (Some account) branch held =
    if (length held == 0) || list_any (has_leg_on account) held then []
    else says is.NewAccountOption (option ∷ account ∷ branch ∷ []) ∷ []

-- a leg of the record's entry is on the account or below it
abbrev pub has_leg_inside : List ℕ → Record → Bool
has_leg_inside account r = list_any (λ (l : Leg). is_inside account l.account) r.entry.legs

-- no record has such a leg
abbrev pub is_unknown : List Record → List ℕ → Bool
is_unknown held account = not (list_any (has_leg_inside account) held)

-- the listed accounts, joined by `;`, that a branch with these records does not have
unfoldable pub unknown_accounts : List Record → List ℕ → List (List ℕ)
unknown_accounts held text = filter (is_unknown held) (slice_split (λ b. b == 59) text)

-- of each of them, if a list is given
abbrev pub unknown_account_said : List ℕ → List ℕ → List Said
unknown_account_said branch name = says is.NoAccount (name ∷ branch ∷ []) ∷ []

unfoldable pub unknown_said : List ℕ → Option (List ℕ) → List Record → List Said
unknown_said branch None held = []
unknown_said branch (Some text) held = listed most_notes (unknown_account_said branch) (unknown_accounts held text)
