use Rattle.std.proofs.Common.{◌∙◌, ◌++◌, ap, arith, ℕ, List, append-nil}
use Rattle.std.proofs.lemmas.Result.{on_ok_weaker}
use Rattle.treasury_messages.specs.Said.{Said}
use Rattle.journal_hints.specs.Samples.{written_sample}
use Rattle.journal_hints.proofs.SampleLemmas.{no_samples, next_sample, all_samples}
use Rattle.journal_hints.proofs.hints.say_samples.Goals as goal

pub returns-then-len-eq0 : goal.returns-then-len-eq0
returns-then-len-eq0 c =
    on_ok_weaker c.hint.result
    (λ e. e ∙ ap (λ (l : List Said). c.args.out.now.items ++ l)
    (no_samples c.args.kind c.args.styles.now (omega (arith, c.if-len-eq0.true, c.len.ensures.count))))
    c.hint.ensures.ok

pub loop-number-preserved : goal.loop-number-preserved
loop-number-preserved c =
    let old = c.loop-number.message in
    let said = c.in_ok-add-2.ensures.ok in record {
      kind = ap (λ (m : Said). m.kind) said ∙ c.loop-number.invariant.kind;
      all = next_sample (written_sample c.args.styles.now) c.loop-number.number _ old.values _ _
          (omega (arith, c.loop-number-test.true, c.len-number-end.ensures.count))
          (ap (λ (m : Said). m.values) said ∙ ap (λ (vs : List (List ℕ)). old.values ++ vs)
          (append-nil _ ∙ c.sample.ensures)) c.loop-number.invariant.all;
    }

pub returns : goal.returns
returns c =
    on_ok_weaker c.say.result
    (λ e. e ∙ ap (λ (l : List Said). c.args.out.now.items ++ l)
    (all_samples c.loop-number.message c.args.kind c.args.styles.now c.loop-number.number
    (omega (arith, c.if-len-eq0.false, c.len.ensures.count))
    (omega (arith, c.loop-number-test.false, c.len-number-end.ensures.count)) c.loop-number.invariant.kind
    c.loop-number.invariant.all)) c.say.ensures.ok
