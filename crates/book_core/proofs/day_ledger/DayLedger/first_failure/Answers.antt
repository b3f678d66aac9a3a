use Rattle.std.proofs.Common.{◌≡◌, ◌++◌, ◌∙◌, [], ap, subst, append-nil, List, Option}
use Rattle.std.proofs.lemmas.Result.{IfOk-weaker}
use Rattle.book_core.specs.declared.entry.Entry.{Entry}
use Rattle.book_core.specs.declared.refusal.Failure.{Failure}
use Rattle.book_core.specs.Claim.{failure}
use Rattle.book_core.specs.Examine.{examined}
use Rattle.book_core.specs.Gathered.{Gathered}
use Rattle.book_core.proofs.GoodBookLemmas.{failure_nil}
use Rattle.book_core.proofs.day_ledger.DayLedger.first_failure.Goals as goal

pub returns-clause-first : goal.returns-clause-first
returns-clause-first c =
    let b = c.args.self.now in
    let places = c.in_ok-places.places.items in
    let g : Gathered [] b places =
    subst (λ (es : List Entry). Gathered [] es places) (c.deref.ensures.value ∙ c.self.view_is)
    c.in_ok-places.ensures.places in
    let whole : c.book_with-book.result ≡ b =
    c.book_with-book.ensures.book ∙ (ap (λ (es : List Entry). b ++ es) c.plain.ensures ∙ append-nil b) in
    let told : examined c.book_with-book.result c.deref-2.result.now ≡ failure b =
    ap (λ (es : List Entry). examined es c.deref-2.result.now) whole
    ∙ (ap (examined b) c.deref-2.ensures.value ∙ g.first failure_nil) in
    IfOk-weaker c.first_by_sums.result _ (λ (first : Option Failure). first ≡ failure b) (λ first e. e ∙ told)
    c.first_by_sums.ensures.first
