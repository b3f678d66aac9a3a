use Rattle.std.proofs.Common.{◌≡◌, ◌⊎◌, ◌∙◌, ap, sym, false, true, inl, inr, Bool, List, Some, None}
use Rattle.money_core.specs.declared.cause.Cause.TheVariants.{OutOfMemory}
use Rattle.book_core.specs.declared.entry.Entry.{Entry}
use Rattle.book_core.specs.declared.refusal.Refusal.{Refusal}
use Rattle.book_core.specs.declared.refusal.Refusal.TheVariants.{Plain}
use Rattle.book_core.specs.GoodBook.{IsGoodBook, verdict}
use Rattle.book_core.proofs.GoodBookLemmas.{good_verdict}
use Rattle.treasury_state.specs.Federation.{entries}
use Rattle.treasury_rows.proofs.JudgingLemmas.{not_good}
use Rattle.treasury_rows.proofs.judging.good_ledger.Goals as goal

pub returns-in-Ok-clause-value : goal.returns-in-Ok-clause-value
returns-in-Ok-clause-value g c =
    let book = entries c.args.rows.now in
    let same = c.in_ok-list.ensures.value in
    (good_verdict book c.requires (ap verdict (sym same) ∙ c.in-Ok.ensures.1), c.in-Ok.ensures.0 ∙ same)

-- a refusal that is not want of memory is the verdict
refused : (list book : List Entry) (e : Refusal) (t : Bool) → list ≡ book → t ≡ false
    → (e ≡ Plain OutOfMemory → t ≡ true) → (e ≡ Plain OutOfMemory) ⊎ (verdict list ≡ Some e) → IsGoodBook book → ⊥
refused list book e t same failed then_true (inl out) good =
    let k : true ≡ false = sym (then_true out) ∙ failed in absurd cc
refused list book e t same failed then_true (inr told) good = not_good book e (ap verdict (sym same) ∙ told) good

pub returns-else-is_memory-clause-value : goal.returns-else-is_memory-clause-value
returns-else-is_memory-clause-value g c =
    refused c.in_ok-list.list (entries c.args.rows.now) c.in-Err.refusal c.is_memory.result c.in_ok-list.ensures.value
    c.if-is_memory.false c.is_memory.ensures.1 c.in-Err.ensures
