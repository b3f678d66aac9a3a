use Rattle.std.proofs.Common.{◌≡◌, ◌++◌, map}
use Rattle.std.specs.Prelude.{is_some}
use Rattle.std.specs.HashMap.{get_by_text}
use Rattle.journal_lines.specs.Lines.{numbered}
use Rattle.import_notes.specs.BroughtAccounts.{posted_view, posted_at, new_ones}
use Rattle.journal_hints.specs.OddAmount.{lines_below}
use Rattle.import_notes.proofs.BroughtLemmas.{left_ones}
use Rattle.import_notes.proofs.accounts.find_posted.Given as goal

-- those that were found, and those that are left
abbrev pub invariant-loop-number : goal.invariant-loop-number
invariant-loop-number l =
    map posted_view l.found.items
    ++ left_ones (λ account. is_some (get_by_text l.accounts account))
    (lines_below l.below.heads.now l.below.inside (numbered l.number-iterator.number l.number-iterator.rest.now))
    ≡ new_ones (λ account. is_some (get_by_text l.fn.accounts account)) (posted_at l.lines l.text)
