-- The headline: what every run of commands makes of the books, and what no run does to them (own rules; docs/RULES.md,
-- "Books", "Marks and repeats", "Transfers", "Closing"). A run may have any commands, in any order of days, as often as
-- one likes.
use Rattle.std.specs.Prelude.{◌≡◌, ◌≤ℤ◌, ◌+ℤ◌, ◌+◌, ℕ, pos, true, false, List, [], ◌∷◌, ◌++◌, length, Some, Ok, ⊤}
use Rattle.std.specs.List.{AllByRecursion}
use Rattle.std.specs.Str.{bytes_eq}
use Rattle.money_core.specs.declared.day.Day.{Day}
use Rattle.money_core.specs.declared.unit.Unit.{Unit as Commodity}
use Rattle.book_core.specs.declared.account.Reach.{Reach}
use Rattle.book_core.specs.declared.account.Reach.TheVariants.{Own}
use Rattle.book_core.specs.declared.place.Until.TheVariants.{Through}
use Rattle.book_core.specs.Balance.{balance}
use Rattle.journal_format.specs.declared.txn.Txn.{Txn}
use Rattle.journal_format.specs.declared.txn.Located.{Located}
use Rattle.treasury_state.specs.Federation.{Federation, has_branch, records_of, lock_of, entries, book_of}
use Rattle.treasury_state.specs.Transfer.{open_amount, AddsUp}
use Rattle.treasury_state.specs.Joined.{joined}
use Rattle.treasury_state.specs.Good.{IsGoodState}
use Rattle.treasury_core.specs.declared.command.Answer.TheVariants.{Done, Entered}
use Rattle.treasury_core.specs.declared.command.Close.{Close}
use Rattle.treasury_core.specs.declared.command.Command.TheVariants as cmd
use Rattle.treasury_core.specs.Choice.{is_selected, target_in}
use Rattle.treasury_core.specs.Closing.{closing_in, closing_record}
use Rattle.treasury_core.specs.Step.{new_records, IsNew}
use Rattle.treasury_core.specs.Run.{Turn, after_turn, state_after}
use Rattle.treasury_laws.specs.Sound.{EachBalances, EachAssertionHolds}
use Rattle.treasury_laws.specs.History.{history, records_among, IsRefusedOrRepeated}

-- along a run each refusal and each `repeated` leaves the state
abbrev pub RefusalsLeave : Federation → List Turn → Type 0
RefusalsLeave f [] = ⊤
RefusalsLeave f (t ∷ ts) = (IsRefusedOrRepeated t.reply → after_turn f t ≡ f) × RefusalsLeave (after_turn f t) ts

-- What a file brings that is accepted in the state `f`, `next` being the state right after it: its branch gets the
-- transactions that are counted as new, no one of which it had, and of those that are counted as repeated it gets
-- nothing.
pub record Brings (f : Federation) (name : List ℕ) (file : List Located) (new repeated : ℕ)
    (next : Federation) : Type 0 where
  pub brought : records_of next name ≡ records_of f name ++ new_records f name file
  pub fresh : AllByRecursion (IsNew (lock_of f name) (records_of f name)) (new_records f name file)
  pub counted : length (new_records f name file) ≡ new
  pub rest : new + repeated ≡ length file

-- along a run each accepted file does
abbrev pub FilesBring : Federation → List Turn → Type 0
FilesBring f [] = ⊤
FilesBring f (t ∷ ts) =
    ((name : List ℕ) (file : List Located) (new repeated : ℕ) → t.command ≡ cmd.Enter name file
    → t.reply ≡ Ok (Entered new repeated) → Brings f name file new repeated (after_turn f t))
    × FilesBring (after_turn f t) ts

-- What a closing does that is accepted in the state `f`, `next` being the state right after it, and `end` that at the
-- end of the run. The branch gets the closing and is locked through its day. The accounts that it selects are at zero
-- through that day, in `next` and in `end`; of the other accounts only the target moves, which it does not select; and
-- nothing of another branch changes.
pub record Closes (f : Federation) (c : Close) (next end : Federation) : Type 0 where
  pub adds : (t : Txn) × ((closing_in f c.branch c.day c.choice ≡ Some t)
      × (records_of next c.branch ≡ records_of f c.branch ++ closing_record c.day t ∷ []))
  pub locks : lock_of next c.branch ≡ Some c.day
  pub apart : is_selected c.choice.accounts (target_in c.choice.into) ≡ false
  pub zero : (account : List ℕ) (unit : Commodity) → is_selected c.choice.accounts account ≡ true
      → balance Own (book_of next c.branch) account unit (Through c.day) ≡ pos 0
  pub stays : (account : List ℕ) (unit : Commodity) → is_selected c.choice.accounts account ≡ true
      → balance Own (book_of end c.branch) account unit (Through c.day) ≡ pos 0
  pub untouched : (account : List ℕ) (unit : Commodity) (on : Day) → is_selected c.choice.accounts account ≡ false
      → bytes_eq (target_in c.choice.into) account ≡ false
      → balance Own (book_of next c.branch) account unit (Through on)
      ≡ balance Own (book_of f c.branch) account unit (Through on)
  pub elsewhere : (other : List ℕ) → bytes_eq c.branch other ≡ false
      → (records_of next other ≡ records_of f other) × (lock_of next other ≡ lock_of f other)

-- along a run each accepted closing does
abbrev pub ClosingsClose : Federation → List Turn → Type 0
ClosingsClose f [] = ⊤
ClosingsClose f (t ∷ ts) =
    ((c : Close) → t.command ≡ cmd.Close c → t.reply ≡ Ok Done
    → Closes f c (after_turn f t) (state_after (after_turn f t) ts))
    × ClosingsClose (after_turn f t) ts

-- The headline, of a run from the state `f`. After it the state has what the accepted commands added, and nothing
-- else. In each branch every commodity sums to zero, and each balance has moved by exactly the accepted records. For
-- two branches that differ, their transit account adds up to what was dispatched and not received yet, which is never
-- negative. Every stored assertion holds at its place. Each accepted closing moved only the accounts that it selects
-- and its target, and these stay closed. And what was refused or repeated changed nothing.
pub record KeepsBooks (f : Federation) (turns : List Turn) : Type 0 where
  pub good : IsGoodState (state_after f turns)
  pub accepted : state_after f turns ≡ joined f (history f turns)
  pub records : (name : List ℕ) → records_of (state_after f turns) name
      ≡ records_of f name ++ records_among name (history f turns)
  pub balanced : EachBalances (state_after f turns)
  pub moved : (name : List ℕ) (reach : Reach) (account : List ℕ) (unit : Commodity) (day : Day)
      → balance reach (book_of (state_after f turns) name) account unit (Through day)
      ≡ balance reach (book_of f name) account unit (Through day)
      +ℤ balance reach (entries (records_among name (history f turns))) account unit (Through day)
  pub transit : (from to : List ℕ) → has_branch (state_after f turns) from ≡ true
      → has_branch (state_after f turns) to ≡ true → bytes_eq from to ≡ false
      → AddsUp (state_after f turns) from to
  pub on_way : (from to : List ℕ) (unit : Commodity) (day : Day)
      → pos 0 ≤ℤ open_amount (state_after f turns).transfers from to unit day
  pub asserted : EachAssertionHolds (state_after f turns)
  pub closings : ClosingsClose f turns
  pub refusals : RefusalsLeave f turns
  pub files : FilesBring f turns
