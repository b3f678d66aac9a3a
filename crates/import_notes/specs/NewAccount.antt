-- Accounts that an import brings to a branch (own rule; docs/RULES.md, "Notes").
use Rattle.std.specs.Prelude.{ℕ, Bool, ◌&&◌, not, List}
use Rattle.std.specs.List.{list_any}
use Rattle.std.specs.Str.{bytes_eq}
use Rattle.book_core.specs.declared.leg.Leg.{Leg}
use Rattle.journal_format.specs.declared.posting.Posting.{Posting}
use Rattle.treasury_state.specs.declared.record.Record.{Record}
use Rattle.treasury_state.specs.Mark.{is_product_mark}

-- a posting of the record's transaction is on the account
abbrev pub posts_to : List ℕ → Record → Bool
posts_to account r = list_any (λ (p : Posting). bytes_eq p.account account) r.txn.postings

-- a leg of the record's entry is on it
abbrev pub has_leg_on : List ℕ → Record → Bool
has_leg_on account r = list_any (λ (l : Leg). bytes_eq l.account account) r.entry.legs

-- new records post to it, and no held one has a leg on it
abbrev pub is_new_account : List Record → List Record → List ℕ → Bool
is_new_account held new account = list_any (posts_to account) new && not (list_any (has_leg_on account) held)

-- one of the records was imported, and not made by a transfer or a closing
abbrev pub has_imported : List Record → Bool
has_imported held = list_any (λ (r : Record). not (is_product_mark r.mark)) held
