-- What is said of a closing that is refused by a cause alone (own rule; docs/RULES.md, "Explanations").
use Rattle.std.specs.Prelude.{ℕ, nat_lt, ◌==◌, Bool, ◌&&◌, not, if◌then◌else◌, List, [], ◌∷◌, ◌++◌, length, decimal}
use Rattle.std.specs.Prelude.{find, Option, Some, None}
use Rattle.std.specs.Ordering.{int_eq}
use Rattle.std.specs.List.{slice_split}
use Rattle.money_core.specs.declared.day.Day.{Day}
use Rattle.money_core.specs.declared.cause.Cause.{Cause}
use Rattle.money_core.specs.declared.cause.Cause.TheVariants as cause
use Rattle.journal_lines.specs.AccountName.{is_account}
use Rattle.journal_format.specs.declared.txn.Txn.{Txn}
use Rattle.treasury_state.specs.declared.record.Record.{Record}
use Rattle.treasury_state.specs.Federation.{Branch, Federation, branch_at}
use Rattle.treasury_state.specs.Mark.{is_closing}
use Rattle.treasury_core.specs.Choice.{holds_transit, target_in, list_limit}
use Rattle.treasury_requests.specs.declared.request.Request.{Request}
use Rattle.treasury_requests.specs.declared.request.Request.TheVariants as req
use Rattle.treasury_messages.specs.declared.kind.MessageKind.TheVariants as is
use Rattle.treasury_messages.specs.Said.{Said, says}
use Rattle.treasury_messages.specs.Pieces.{header_values}

-- an account for which a closing is refused so: it is not well formed, or there are transit accounts below it
abbrev pub is_against : Cause → List ℕ → Bool
is_against cause.BadAccount account = not (is_account account)
is_against _ account = holds_transit account

-- the first such account of a list, whose names are joined by `;`
abbrev pub found_in : Cause → Option (List ℕ) → Option (List ℕ)
found_in why None = None
found_in why (Some list) = find (is_against why) (slice_split (λ b. b == 59) list)

-- what is said after the account that gets the balances
abbrev pub into_hint : Cause → Said
into_hint cause.BadAccount = says is.Hint []
into_hint _ = says is.TransfersOnly []

-- that account, or else the one that gets the balances
abbrev pub account_or_into : Cause → List ℕ → Option (List ℕ) → List Said
account_or_into why into None = says is.Into (into ∷ []) ∷ into_hint why ∷ []
account_or_into why into (Some account) = says is.Account (account ∷ []) ∷ says is.Hint [] ∷ []

abbrev pub choice_said : Cause → Option (List ℕ) → Option (List ℕ) → List Said
choice_said why accounts into = account_or_into why (target_in into) (found_in why accounts)

-- a list: how long it is, where it is too long; or its text, where no account of it has a balance
abbrev pub text_said : Cause → List ℕ → List Said
text_said cause.Limit list =
    if nat_lt list_limit (length list) then says is.LongList (decimal (length list) ∷ []) ∷ [] else []
text_said _ list = says is.Accounts (list ∷ []) ∷ says is.Hint [] ∷ []

abbrev pub list_said : Cause → Option (List ℕ) → List Said
list_said why None = []
list_said why (Some list) = text_said why list

-- the record is that of a closing at that day
abbrev pub is_closing_at : Day → Record → Bool
is_closing_at day r = int_eq r.txn.day.0 day.0 && is_closing r

-- a closing that is held: its header, and its comments, which tell what was asked for
abbrev pub txn_said : Txn → List Said
txn_said t = says is.HeldClosing (header_values t ++ t.comments) ∷ says is.Hint [] ∷ []

abbrev pub closing_record_said : Option Record → List Said
closing_record_said None = []
closing_record_said (Some r) = txn_said r.txn

-- that of a branch at the day
abbrev pub held_closing_said : Day → Option Branch → List Said
held_closing_said day None = []
held_closing_said day (Some b) = closing_record_said (find (is_closing_at day) b.records)

-- what stands against a closing, by why it is refused
abbrev pub against_closing : Federation → List ℕ → Day → Option (List ℕ) → Option (List ℕ) → Cause → List Said
against_closing f branch day accounts into cause.BadAccount = choice_said cause.BadAccount accounts into
against_closing f branch day accounts into cause.ReservedAccount = choice_said cause.ReservedAccount accounts into
against_closing f branch day accounts into cause.Limit = list_said cause.Limit accounts
against_closing f branch day accounts into cause.NothingToClose = list_said cause.NothingToClose accounts
against_closing f branch day accounts into cause.MarkClash = held_closing_said day (branch_at f.branches branch)
against_closing f branch day accounts into _ = []

-- nothing of another request
abbrev pub closing_said : Federation → Request → Cause → List Said
closing_said f (req.Close branch day accounts into) why = against_closing f branch day accounts into why
closing_said f _ why = []
