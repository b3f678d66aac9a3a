-- The note of the accounts that an import brings to a branch (own rule; docs/RULES.md, "Notes").
use Rattle.std.specs.Prelude.{ℕ, ◌-◌, ◌==◌, Bool, false, not, if◌then◌else◌, List, [], ◌∷◌, ◌++◌}
use Rattle.std.specs.Prelude.{length, take, decimal}
use Rattle.std.specs.List.{filter, flat_map}
use Rattle.std.specs.Str.{bytes_eq}
use Rattle.journal_lines.specs.Lines.{numbered}
use Rattle.journal_format.specs.PostingParts.{account_name_of}
use Rattle.import_notes.specs.declared.accounts.PostedAt.{PostedAt}
use Rattle.journal_hints.specs.OddAmount.{is_posting_line, lines_below}
use Rattle.treasury_messages.specs.declared.kind.MessageKind.TheVariants as is
use Rattle.treasury_messages.specs.Said.{Said, says}

-- an account and the number of a line on which it stands
abbrev pub posted_view : PostedAt → ℕ × List ℕ
posted_view p = (p.line, p.name.now)

-- the account of a line, which has one if it is a posting
abbrev pub posted_on : ℕ × List ℕ → List (ℕ × List ℕ)
posted_on l = if is_posting_line l.1 then (l.0, account_name_of l.1) ∷ [] else []

-- those of the postings of the transactions whose headers stand on these lines
unfoldable pub posted_at : List ℕ → List ℕ → List (ℕ × List ℕ)
posted_at heads text = flat_map posted_on (lines_below heads false (numbered 1 text))

-- each account at its first line
abbrev pub first_ones : List (ℕ × List ℕ) → List (ℕ × List ℕ)
first_ones [] = []
first_ones (x ∷ xs) = x ∷ filter (λ (y : ℕ × List ℕ). not (bytes_eq x.1 y.1)) (first_ones xs)

-- those that are new
abbrev pub new_ones : (List ℕ → Bool) → List (ℕ × List ℕ) → List (ℕ × List ℕ)
new_ones is_new xs = filter (λ (x : ℕ × List ℕ). is_new x.1) (first_ones xs)

-- what is said of one: its name and its line
abbrev pub posted_values : ℕ × List ℕ → List (List ℕ)
posted_values x = x.1 ∷ decimal x.0 ∷ []

-- the most that are named after the first; of more, a count is given
abbrev pub most_further : ℕ
most_further = 19

abbrev pub left_out_values : ℕ → List (List ℕ)
left_out_values n = if n == 0 then [] else (decimal n ∷ [])

abbrev pub further_values : List (ℕ × List ℕ) → List (List ℕ)
further_values xs = flat_map posted_values (take most_further xs) ++ left_out_values (length xs - most_further)

-- that such accounts are new to the branch
abbrev pub brought_said : List ℕ → List ℕ → List (ℕ × List ℕ) → List Said
brought_said source branch [] = []
brought_said source branch (x ∷ xs) =
    says is.NewAccounts (source ∷ decimal x.0 ∷ x.1 ∷ branch ∷ further_values xs) ∷ []

-- which accounts of the transactions are new whose headers stand on these lines
unfoldable pub accounts_said : List ℕ → List ℕ → List ℕ → List ℕ → (List ℕ → Bool) → List Said
accounts_said source branch text lines is_new = brought_said source branch (new_ones is_new (posted_at lines text))
