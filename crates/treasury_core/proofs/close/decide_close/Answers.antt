use Rattle.std.proofs.Common.{◌≡◌, ap, sym, ◌∙◌, inr, true, false, Some, None, refl, List}
use Rattle.std.specs.Cmp.Lexicographic.{pointwise}
use Rattle.std.specs.Str.{bytes_eq}
use Rattle.treasury_state.specs.declared.record.Record.{Record}
use Rattle.treasury_state.specs.Mark.{held, close_mark}
use Rattle.treasury_state.specs.Seen.{branch_of}
use Rattle.treasury_state.specs.Federation.{branch_at}
use Rattle.treasury_state.proofs.FindLemmas.{branch_at_Some, branch_at_None}
use Rattle.treasury_core.specs.declared.command.Command.TheVariants.{Close}
use Rattle.treasury_core.specs.Choice.{choice_comments}
use Rattle.treasury_core.specs.Closing.{closing_in}
use Rattle.treasury_core.specs.Step.{added, close_refusal}
use Rattle.treasury_core.proofs.TransferReplyLemmas.{decides_repeated, decides_done_or_refused}
use Rattle.treasury_core.proofs.CloseLemmas.{no_branch, closed_so, closed_other, closes_now}
use Rattle.treasury_core.proofs.close.decide_close.Goals as goal

pub returns-in_default : goal.returns-in_default
returns-in_default g c =
    let f = c.args.state.now in
    let x = c.args.close.now in
    let found : branch_at f.branches x.branch ≡ None =
    ap (branch_at f.branches) (sym c.as_str.ensures) ∙ c.in_default.ensures.found in
    inr (no_branch f x (branch_at_None f.branches x.branch found).none)

pub judged-requires-clause-there : goal.judged-requires-clause-there
judged-requires-clause-there g c =
    ap (branch_at c.args.state.now.branches) (sym c.as_str.ensures) ∙ c.in-Some.ensures.found

pub returns-in-None : goal.returns-in-None
returns-in-None g c =
    let f = c.args.state.now in
    let x = c.args.close.now in
    let b = branch_of c.in-Some.branch.now in
    let found : branch_at f.branches x.branch ≡ Some b =
    ap (branch_at f.branches) (sym c.as_str.ensures) ∙ c.in-Some.ensures.found in
    let mark : c.as_str-2.result.now ≡ close_mark x.day = c.as_str-2.ensures ∙ c.in-Ok.ensures.value in
    let fresh : held b.records (close_mark x.day) ≡ None =
    ap (held b.records) (sym mark) ∙
    (ap (λ (rs : List Record). held rs c.as_str-2.result.now) (sym c.items.ensures) ∙ sym c.in-None.ensures) in
    decides_done_or_refused f (Close x) (added f (Close x))
    (close_refusal b.locked b.records x (closing_in f x.branch x.day x.choice)) c.judged.result c.settled.result
    (closes_now f x b (branch_at_Some f.branches x.branch b found) fresh) refl c.settled.ensures c.judged.ensures.value
    c.judged.ensures.passes c.judged.ensures.err

pub returns-in-Ok-true : goal.returns-in-Ok-true
returns-in-Ok-true g c =
    let f = c.args.state.now in
    let x = c.args.close.now in
    let b = branch_of c.in-Some.branch.now in
    let r = c.in-Some-find_mark.row.now in
    let found : branch_at f.branches x.branch ≡ Some b =
    ap (branch_at f.branches) (sym c.as_str.ensures) ∙ c.in-Some.ensures.found in
    let mark : c.as_str-2.result.now ≡ close_mark x.day = c.as_str-2.ensures ∙ c.in-Ok.ensures.value in
    let holder : held b.records (close_mark x.day) ≡ Some r =
    ap (held b.records) (sym mark) ∙
    (ap (λ (rs : List Record). held rs c.as_str-2.result.now) (sym c.items.ensures) ∙ sym
    c.in-Some-find_mark.ensures) in
    let same : pointwise bytes_eq r.txn.comments (choice_comments x.choice) ≡ true =
    sym c.in-Ok-true.ensures.value ∙ c.in-Ok-true.field-0-test in
    decides_repeated f (Close x) c.repeated.result
    (closed_so f x b r (branch_at_Some f.branches x.branch b found) holder same) c.repeated.ensures

pub returns-in-Ok-false : goal.returns-in-Ok-false
returns-in-Ok-false g c =
    let f = c.args.state.now in
    let x = c.args.close.now in
    let b = branch_of c.in-Some.branch.now in
    let r = c.in-Some-find_mark.row.now in
    let found : branch_at f.branches x.branch ≡ Some b =
    ap (branch_at f.branches) (sym c.as_str.ensures) ∙ c.in-Some.ensures.found in
    let mark : c.as_str-2.result.now ≡ close_mark x.day = c.as_str-2.ensures ∙ c.in-Ok.ensures.value in
    let holder : held b.records (close_mark x.day) ≡ Some r =
    ap (held b.records) (sym mark) ∙
    (ap (λ (rs : List Record). held rs c.as_str-2.result.now) (sym c.items.ensures) ∙ sym
    c.in-Some-find_mark.ensures) in
    let other : pointwise bytes_eq r.txn.comments (choice_comments x.choice) ≡ false =
    sym c.in-Ok-false.ensures.value ∙ c.in-Ok-false.field-0-test in
    inr (closed_other f x b r (branch_at_Some f.branches x.branch b found) holder other)
