use Rattle.std.proofs.Common.{refl, map, ℕ, List, Bool}
use Rattle.std.specs.Prelude.{is_some}
use Rattle.std.specs.HashMap.{get_by_text}
use Rattle.journal_format.specs.PostingParts.{account_name_of}
use Rattle.import_notes.specs.BroughtAccounts.{posted_view}
use Rattle.journal_hints.proofs.BelowLemmas.{none_below, taken}
use Rattle.import_notes.proofs.BroughtLemmas.{next_left, none_left}
use Rattle.import_notes.proofs.accounts.find_posted.Goals as goal

pub loop-number-preserved-in-Continue-1 : goal.loop-number-preserved-in-Continue-1
loop-number-preserved-in-Continue-1 c =
    let it = c.loop-number in
    let has : List ℕ → Bool = λ account. is_some (get_by_text it.accounts account) in
    let now : List ℕ → Bool = λ account. is_some (get_by_text c.put_posted_at.new.accounts account) in
    next_left has now (c.in-Some.number, c.in-Some.line.now) (account_name_of c.in-Some.line.now) _ _
    (map posted_view it.found.items) (map posted_view c.put_posted_at.new.found.items) _
    (taken it.below.heads.now _ it.below.inside _ c.has.result (c.in-Some.number, c.in-Some.line.now) _ _
    c.in-Some.ensures.steps (c.has.ensures _) c.if-has.true)
    c.in_ok-put_posted_at.ensures.left refl c.in_ok-put_posted_at.ensures.value it.invariant

pub returns : goal.returns
returns c =
    let it = c.loop-number in
    let has : List ℕ → Bool = λ account. is_some (get_by_text it.accounts account) in
    none_left has _ (map posted_view it.found.items) _
    (none_below it.below.heads.now it.below.inside _ c.in-None.ensures.steps.0)
    it.invariant
