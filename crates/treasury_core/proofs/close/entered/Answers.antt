use Rattle.std.proofs.Common.{◌≡◌, ◌⊎◌, ◌∷◌, [], ◌∙◌, ap, sym, subst, refl, List, ℕ, Option, Some, None, Ok, Err}
use Rattle.std.specs.Prelude.{IfOk, OnOk, IfErr}
use Rattle.money_core.specs.declared.cause.Cause.TheVariants.{OutOfMemory}
use Rattle.book_core.specs.declared.refusal.Refusal.{Refusal}
use Rattle.book_core.specs.declared.refusal.Refusal.TheVariants.{Plain}
use Rattle.book_core.specs.GoodBook.{IsGoodBook}
use Rattle.treasury_state.specs.declared.record.Record.{Record}
use Rattle.treasury_state.specs.declared.delta.Addition.{Addition}
use Rattle.treasury_state.specs.declared.delta.Addition.TheVariants as add
use Rattle.treasury_state.specs.Good.{IsGoodBranch}
use Rattle.treasury_state.specs.Seen.{branch_of}
use Rattle.treasury_state.proofs.FindLemmas.{branch_at_Some}
use Rattle.treasury_state.proofs.HoldsLemmas.{found_holds}
use Rattle.treasury_core.specs.Closing.{closing_reply, closing_record}
use Rattle.treasury_core.proofs.CloseLemmas.{IsTold, closing_told, closing_refused, told_legs, told_fit, told_refusal}
use Rattle.treasury_core.proofs.CloseLemmas.{closing_adds}
use Rattle.treasury_core.proofs.close.entered.Goals as goal

pub returns-in-Err-clause-err : goal.returns-in-Err-clause-err
returns-in-Err-clause-err g c =
    let f = c.args.state.now in
    let here = (branch_at_Some f.branches c.args.close.now.branch (branch_of c.args.branch.now) c.requires.there).any in
    closing_refused f c.args.close.now c.args.branch.now.records c.in-Err.refusal (Err c.in-Err.refusal) refl here
    c.requires.chosen
    (subst (λ (n : List ℕ). (Err c.in-Err.refusal ≡ closing_reply f n c.args.close.now.day c.args.close.now.choice)
    ⊎ (Err c.in-Err.refusal ≡ Err (Plain OutOfMemory))) c.as_str.ensures c.in-Err.ensures.exact)

pub closing_record-requires-clause-written : goal.closing_record-requires-clause-written
closing_record-requires-clause-written g c =
    let f = c.args.state.now in
    let here = (branch_at_Some f.branches c.args.close.now.branch (branch_of c.args.branch.now) c.requires.there).any in
    let is : IsTold f c.args.close.now c.in-Ok.txn =
    closing_told f c.args.close.now c.in-Ok.txn (Ok c.in-Ok.txn) refl here c.requires.chosen
    (subst (λ (n : List ℕ). (Ok c.in-Ok.txn ≡ closing_reply f n c.args.close.now.day c.args.close.now.choice)
    ⊎ (Ok c.in-Ok.txn ≡ Err (Plain OutOfMemory))) c.as_str.ensures c.in-Ok.ensures.exact) in
    told_legs f c.args.close.now c.in-Ok.txn c.styles.result.now c.styles.ensures c.is_good.ensures is

pub recorded-requires-clause-good : goal.recorded-requires-clause-good
recorded-requires-clause-good g c =
    let f = c.args.state.now in
    let b = branch_of c.args.branch.now in
    subst IsGoodBook (sym c.requires.kept.ledger)
    (found_holds (IsGoodBranch f.styles) f.branches c.args.close.now.branch b c.requires.there
    c.is_good.ensures.branches).book

pub recorded-requires-clause-fit : goal.recorded-requires-clause-fit
recorded-requires-clause-fit g c =
    let f = c.args.state.now in
    let here = (branch_at_Some f.branches c.args.close.now.branch (branch_of c.args.branch.now) c.requires.there).any in
    let is : IsTold f c.args.close.now c.in-Ok.txn =
    closing_told f c.args.close.now c.in-Ok.txn (Ok c.in-Ok.txn) refl here c.requires.chosen
    (subst (λ (n : List ℕ). (Ok c.in-Ok.txn ≡ closing_reply f n c.args.close.now.day c.args.close.now.choice)
    ⊎ (Ok c.in-Ok.txn ≡ Err (Plain OutOfMemory))) c.as_str.ensures c.in-Ok.ensures.exact) in
    told_fit f c.args.close.now c.in-Ok.txn c.in-Ok-closing_record.row c.is_good.ensures c.requires.day is
    c.in-Ok-closing_record.ensures.value

pub returns-clause-value : goal.returns-clause-value
returns-clause-value g c =
    let f = c.args.state.now in
    let name = c.args.close.now.branch in
    let here = (branch_at_Some f.branches name (branch_of c.args.branch.now) c.requires.there).any in
    let is : IsTold f c.args.close.now c.in-Ok.txn =
    closing_told f c.args.close.now c.in-Ok.txn (Ok c.in-Ok.txn) refl here c.requires.chosen
    (subst (λ (n : List ℕ). (Ok c.in-Ok.txn ≡ closing_reply f n c.args.close.now.day c.args.close.now.choice)
    ⊎ (Ok c.in-Ok.txn ≡ Err (Plain OutOfMemory))) c.as_str.ensures c.in-Ok.ensures.exact) in
    let same : add.Record name c.in-Ok-closing_record.row ∷ add.Locked c.in-Ok-copy.own c.args.close.now.day ∷ []
    ≡ add.Record name (closing_record c.args.close.now.day c.in-Ok.txn) ∷ add.Locked name c.args.close.now.day
    ∷ [] =
    ap (λ (r : Record). add.Record name r ∷ add.Locked c.in-Ok-copy.own c.args.close.now.day ∷ [])
    c.in-Ok-closing_record.ensures.value
    ∙ ap (λ (n : List ℕ). add.Record name (closing_record c.args.close.now.day c.in-Ok.txn)
    ∷ add.Locked n c.args.close.now.day ∷ []) c.in-Ok-copy.ensures.equal in
    subst (λ (xs : List Addition). IfOk c.recorded.result (λ delta. delta ≡ xs))
    (same ∙ sym (closing_adds f c.args.close.now c.in-Ok.txn is.closes)) c.recorded.ensures.value

pub returns-clause-passes : goal.returns-clause-passes
returns-clause-passes g c =
    let f = c.args.state.now in
    let name = c.args.close.now.branch in
    let here = (branch_at_Some f.branches name (branch_of c.args.branch.now) c.requires.there).any in
    let is : IsTold f c.args.close.now c.in-Ok.txn =
    closing_told f c.args.close.now c.in-Ok.txn (Ok c.in-Ok.txn) refl here c.requires.chosen
    (subst (λ (n : List ℕ). (Ok c.in-Ok.txn ≡ closing_reply f n c.args.close.now.day c.args.close.now.choice)
    ⊎ (Ok c.in-Ok.txn ≡ Err (Plain OutOfMemory))) c.as_str.ensures c.in-Ok.ensures.exact) in
    subst (λ (o : Option Refusal). OnOk c.recorded.result (o ≡ None))
    (sym (told_refusal f c.args.close.now c.in-Ok.txn c.in-Ok-closing_record.row c.args.branch.now.records
    (g.L.Ledger.book c.args.branch.now.ledger) is c.in-Ok-closing_record.ensures.value c.requires.kept.ledger))
    c.recorded.ensures.passes

pub returns-clause-err : goal.returns-clause-err
returns-clause-err g c =
    let f = c.args.state.now in
    let name = c.args.close.now.branch in
    let here = (branch_at_Some f.branches name (branch_of c.args.branch.now) c.requires.there).any in
    let is : IsTold f c.args.close.now c.in-Ok.txn =
    closing_told f c.args.close.now c.in-Ok.txn (Ok c.in-Ok.txn) refl here c.requires.chosen
    (subst (λ (n : List ℕ). (Ok c.in-Ok.txn ≡ closing_reply f n c.args.close.now.day c.args.close.now.choice)
    ⊎ (Ok c.in-Ok.txn ≡ Err (Plain OutOfMemory))) c.as_str.ensures c.in-Ok.ensures.exact) in
    subst (λ (o : Option Refusal). IfErr c.recorded.result (λ e. (e ≡ Plain OutOfMemory) ⊎ (o ≡ Some e)))
    (sym (told_refusal f c.args.close.now c.in-Ok.txn c.in-Ok-closing_record.row c.args.branch.now.records
    (g.L.Ledger.book c.args.branch.now.ledger) is c.in-Ok-closing_record.ensures.value c.requires.kept.ledger))
    c.recorded.ensures.err
