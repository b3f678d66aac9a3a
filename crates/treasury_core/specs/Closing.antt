-- Closing a period: the balances of some accounts through a day are moved to one account (hledger manual, "close",
-- "close --retain"; header, mark, order and the assertions of zero are own rules).
use Rattle.std.specs.Prelude.{ℕ, nat_lt, Bool, not, if◌then◌else◌, List, [], ◌∷◌, ◌++◌, codes, length, filter, ℤ, pos}
use Rattle.std.specs.Prelude.{◌+ℤ◌, ◌-ℤ◌, Option, Some, None, Result, Ok, Err}
use Rattle.std.specs.Ordering.{int_eq}
use Rattle.std.specs.List.{flat_map}
use Rattle.money_core.specs.declared.style.Style.{Style}
use Rattle.money_core.specs.declared.unit.Unit.{Unit as Commodity}
use Rattle.money_core.specs.declared.day.Day.{Day}
use Rattle.money_core.specs.declared.cause.Cause.TheVariants.{UnknownBranch, NothingToClose, Limit}
use Rattle.money_core.specs.declared.claim.Claim.{Claim}
use Rattle.money_core.specs.declared.claim.ClaimKind.TheVariants.{Exact}
use Rattle.book_core.specs.declared.account.Reach.TheVariants.{Own}
use Rattle.book_core.specs.declared.place.Until.TheVariants.{Through}
use Rattle.book_core.specs.declared.entry.Entry.{Entry}
use Rattle.book_core.specs.declared.refusal.Refusal.{Refusal}
use Rattle.book_core.specs.declared.refusal.Refusal.TheVariants.{Plain}
use Rattle.book_core.specs.Balance.{balance}
use Rattle.book_core.specs.Accounts.{book_accounts}
use Rattle.journal_format.specs.declared.posting.Posting.{Posting}
use Rattle.journal_format.specs.declared.txn.Txn.{Txn}
use Rattle.journal_format.specs.Pieces.{posting_limit}
use Rattle.journal_balance.specs.Legs.{declared_commodities}
use Rattle.journal_balance.specs.Plain.{written_entry}
use Rattle.treasury_state.specs.declared.record.Record.{Record}
use Rattle.treasury_state.specs.Federation.{Federation, has_branch, book_of}
use Rattle.treasury_state.specs.Mark.{close_mark}
use Rattle.treasury_core.specs.declared.choice.Choice.{Choice}
use Rattle.treasury_core.specs.Choice.{is_selected, target_in, choice_comments, choice_refusal}

-- ---- which accounts are closed

-- the accounts of a book that are selected, in byte order
abbrev pub selected : (List ℕ → Bool) → List Entry → List (List ℕ)
selected select b = filter select (book_accounts b)

-- ---- the postings

-- an account's balance by itself through the day
abbrev pub through : List Entry → Day → List ℕ → Commodity → ℤ
through b day account unit = balance Own b account unit (Through day)

-- the assertion that a balance is zero
abbrev pub zero_claim : Commodity → Claim
zero_claim unit = record { kind = Exact; unit = unit; qty = pos 0 }

-- a posting of a quantity; none where it is zero
abbrev pub nonzero_posting : List ℕ → Commodity → ℤ → Option Claim → List Posting
nonzero_posting account unit q claim =
    if int_eq q (pos 0) then []
    else record {
      status = None;
      account = account;
      amount = Some (unit, q);
      price = None;
      claim = claim;
      comments = [];
    } ∷ []

-- a closed account: a posting of minus each balance, which asserts that nothing is left
abbrev pub closed_account : List Entry → Day → List Commodity → List ℕ → List Posting
closed_account b day units account =
    flat_map (λ (unit : Commodity).
    nonzero_posting account unit (pos 0 -ℤ through b day account unit) (Some (zero_claim unit))) units

-- what accounts hold in a commodity, together
abbrev pub held_in : List Entry → Day → Commodity → List (List ℕ) → ℤ
held_in b day unit [] = pos 0
held_in b day unit (account ∷ accounts) = through b day account unit +ℤ held_in b day unit accounts

-- the account that gets it: a posting of each sum
abbrev pub gaining_account : List Entry → Day → List ℕ → List (List ℕ) → List Commodity → List Posting
gaining_account b day into accounts units =
    flat_map (λ (unit : Commodity). nonzero_posting into unit (held_in b day unit accounts) None) units

-- the postings of a closing of these accounts into that one: account by account, each in declared order
abbrev pub closing_postings : List Entry → Day → List ℕ → List (List ℕ) → List Commodity → List Posting
closing_postings b day into accounts units =
    flat_map (closed_account b day units) accounts ++ gaining_account b day into accounts units

-- ---- the transaction

-- a closing with these comments and postings: no status or code
abbrev pub closing_txn : Day → List (List ℕ) → List Posting → Txn
closing_txn day comments ps = record {
  day = day;
  status = None;
  code = None;
  description = codes "close";
  comments = comments;
  mark = Some (close_mark day);
  postings = ps;
}

-- none where nothing is posted
abbrev pub closing_of : Day → List (List ℕ) → List Posting → Option Txn
closing_of day comments [] = None
closing_of day comments (p ∷ ps) = Some (closing_txn day comments (p ∷ ps))

-- the closing of a book at a day: of the accounts that are selected, into that one, with these comments
unfoldable pub closing : (List ℕ → Bool) → List ℕ → List (List ℕ) → List Style → List Entry → Day → Option Txn
closing select into comments styles b day =
    closing_of day comments (closing_postings b day into (selected select b) (declared_commodities styles))

-- the record of a closing, with its postings as they are written
abbrev pub closing_record : Day → Txn → Record
closing_record day t = record { mark = close_mark day; txn = t; entry = written_entry t }

-- ---- the answer

-- a closing that is within the limit, or why there is none
abbrev pub closing_answer : Option Txn → Result Txn Refusal
closing_answer None = Err (Plain NothingToClose)
closing_answer (Some t) = if nat_lt posting_limit (length t.postings) then Err (Plain Limit) else Ok t

-- the closing of a branch at a day, as it was chosen
abbrev pub closing_in : Federation → List ℕ → Day → Choice → Option Txn
closing_in f name day c =
    closing (is_selected c.accounts) (target_in c.into) (choice_comments c) f.styles (book_of f name) day

-- the closing, unless the choice is refused
abbrev pub chosen_answer : Option Refusal → Option Txn → Result Txn Refusal
chosen_answer (Some refusal) txn = Err refusal
chosen_answer None txn = closing_answer txn

-- the closing entry that a branch is answered, or the refusal
unfoldable pub closing_reply : Federation → List ℕ → Day → Choice → Result Txn Refusal
closing_reply f name day c = if not (has_branch f name) then Err (Plain UnknownBranch)
    else chosen_answer (choice_refusal c) (closing_in f name day c)
