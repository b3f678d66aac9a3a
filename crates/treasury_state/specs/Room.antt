-- Mirrors code: what a state must have while additions come to it, one after another.
use Rattle.std.specs.Prelude.{ℕ, Bool, List}
use Rattle.std.specs.List.{AllByRecursion}
use Rattle.std.specs.Ordering.{is_lt}
use Rattle.money_core.specs.Style.{AreStyles}
use Rattle.book_core.specs.Account.{name_cmp}
use Rattle.book_core.specs.GoodBook.{IsFit, IsWithin}
use Rattle.treasury_state.specs.declared.transfer.Part.{Part}
use Rattle.treasury_state.specs.declared.transfer.Transfer.{Transfer}
use Rattle.treasury_state.specs.Federation.{Branch, Federation, entries}
use Rattle.treasury_state.specs.Good.{AreAscending}

-- the transfer's ID is before that one
abbrev pub is_before : List ℕ → Transfer → Bool
is_before id t = is_lt (name_cmp t.id id)

-- the part's key is before that one
abbrev pub is_key_before : List ℕ → Part → Bool
is_key_before key p = is_lt (name_cmp p.key key)

-- a branch whose ledger takes its records: their entries are fit, and within the limits
pub record FitsLedger (b : Branch) : Type 0 where
  pub fit : AllByRecursion IsFit (entries b.records)
  pub within : IsWithin (entries b.records)

-- a state of which styles and ledgers take all that it has, its transfers in order
pub record IsRoomy (f : Federation) : Type 0 where
  pub styles : AreStyles f.styles
  pub branches : AllByRecursion FitsLedger f.branches
  pub ids : AreAscending f.transfers
