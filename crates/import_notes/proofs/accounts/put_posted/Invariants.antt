use Rattle.std.proofs.Common.{◌≡◌, ◌||◌, ℕ, List, take}
use Rattle.std.specs.Prelude.{is_some}
use Rattle.std.specs.HashMap.{get_by_text}
use Rattle.std.specs.List.{list_any}
use Rattle.std.specs.Str.{bytes_eq}
use Rattle.journal_format.specs.declared.posting.Posting.{Posting}
use Rattle.import_notes.proofs.accounts.put_posted.Given as goal

-- those that were there, and those of the postings so far
abbrev pub invariant-loop-posting : goal.invariant-loop-posting
invariant-loop-posting l = (other : List ℕ) → is_some (get_by_text l.accounts other)
    ≡ (is_some (get_by_text l.fn.accounts other)
    || list_any (λ (p : Posting). bytes_eq p.account other) (take l.posting-index l.row.txn.postings))
