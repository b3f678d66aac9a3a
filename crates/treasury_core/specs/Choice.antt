-- What a closing may choose: which accounts it closes, and into which one (hledger manual, "close", "close --retain"; a
-- written list, what is refused of it, and the comments that tell it are own rules; docs/RULES.md, "Closing").
use Rattle.std.specs.Prelude.{ℕ, ◌==◌, nat_lt, Bool, ◌||◌, not, if◌then◌else◌, List, [], ◌∷◌, ◌++◌, codes, length}
use Rattle.std.specs.Prelude.{Option, Some, None}
use Rattle.std.specs.List.{list_all, list_any, flat_map, before_first}
use Rattle.std.specs.Str.{bytes_eq, str_to_ascii_lowercase}
use Rattle.money_core.specs.declared.cause.Cause.TheVariants.{ReservedAccount, Limit, BadAccount}
use Rattle.book_core.specs.declared.refusal.Refusal.{Refusal}
use Rattle.book_core.specs.declared.refusal.Refusal.TheVariants.{Plain}
use Rattle.book_core.specs.Account.{colon, is_inside}
use Rattle.treasury_state.specs.Transfer.{is_account_text, is_reserved}
use Rattle.treasury_core.specs.declared.choice.Choice.{Choice}

-- ---- what is closed where nothing is chosen

-- the part of an account's name before its first colon; the whole name where it has none
abbrev pub first_part : List ℕ → List ℕ
first_part account = before_first (λ b. b == colon) account

-- the names of revenues and expenses (hledger manual, "Account types")
abbrev pub retained_names : List (List ℕ)
retained_names =
    codes "income" ∷ codes "incomes" ∷ codes "revenue" ∷ codes "revenues" ∷ codes "expense" ∷ codes "expenses" ∷ []

-- a revenue or expense account: its first part is one of these names, in small or capital ASCII letters
abbrev pub is_revenue_or_expense : List ℕ → Bool
is_revenue_or_expense account =
    list_any (λ name. bytes_eq (str_to_ascii_lowercase (first_part account)) name) retained_names

-- the account that gets what they held
abbrev pub retained_earnings : List ℕ
retained_earnings = codes "equity:retained earnings"

-- ---- which accounts are closed, and into which

-- one of the names, or a subaccount of one
abbrev pub is_among : List (List ℕ) → List ℕ → Bool
is_among names account = list_any (λ top. is_inside top account) names

-- what is closed: what is listed, with subaccounts; without a list the revenue and expense accounts
abbrev pub is_selected : Option (List (List ℕ)) → List ℕ → Bool
is_selected None account = is_revenue_or_expense account
is_selected (Some names) account = is_among names account

-- the account that gets it: the one that is asked for, or retained earnings
abbrev pub target_in : Option (List ℕ) → List ℕ
target_in None = retained_earnings
target_in (Some account) = account

-- the names that are listed
abbrev pub listed_names : Option (List (List ℕ)) → List (List ℕ)
listed_names None = []
listed_names (Some names) = names

-- ---- what the entry says of it

-- the names, joined by `;`
abbrev pub list_text : List (List ℕ) → List ℕ
list_text [] = []
list_text (name ∷ names) = name ++ flat_map (λ next. 59 ∷ next) names

-- `accounts:LIST` and `into:ACCOUNT`, each where it is given
abbrev pub accounts_comment : Option (List (List ℕ)) → List (List ℕ)
accounts_comment None = []
accounts_comment (Some names) = (codes "accounts:" ++ list_text names) ∷ []

-- the comment that names the target, if one is given
abbrev pub into_comment : Option (List ℕ) → List (List ℕ)
into_comment None = []
into_comment (Some account) = (codes "into:" ++ account) ∷ []

-- the comments of the entry: what was asked, as far as it was
abbrev pub choice_comments : Choice → List (List ℕ)
choice_comments c = accounts_comment c.accounts ++ into_comment c.into

-- ---- what is refused of it, in order

-- the most bytes of the list
abbrev pub list_limit : ℕ
list_limit = 880

-- transit accounts are below it, or it is one
abbrev pub holds_transit : List ℕ → Bool
holds_transit account = bytes_eq account (codes "assets") || is_reserved account

-- why a choice is refused, if it is: a listed account or the target is not well formed; one of them has transit
-- accounts, where the target may be `assets`; the target would be closed itself; the list is too long
abbrev pub choice_refusal : Choice → Option Refusal
choice_refusal c =
    if not (list_all is_account_text (listed_names c.accounts)) then Some (Plain BadAccount)
    else if not (is_account_text (target_in c.into)) then Some (Plain BadAccount)
    else if list_any holds_transit (listed_names c.accounts) then Some (Plain ReservedAccount)
    else if is_reserved (target_in c.into) then Some (Plain ReservedAccount)
    else if is_selected c.accounts (target_in c.into) then Some (Plain BadAccount)
    else if nat_lt list_limit (length (list_text (listed_names c.accounts))) then Some (Plain Limit)
    else None
