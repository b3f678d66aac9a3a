use Rattle.std.proofs.Common.{◌≡◌, refl, sym, ◌∙◌, inl}
use Rattle.treasury_spelling.proofs.WordLemmas.{named_by}
use Rattle.treasury.proofs.UntakenLemmas.{taken_untold, untaken_status, unwritten_on_2}
use Rattle.treasury.proofs.OverFileLemmas.{told_nothing}
use Rattle.treasury.proofs.ServingLemmas.{served_nothing}
use Rattle.treasury.proofs.words.run_words.Goals as goal

pub returns-in-Ok-clause-done : goal.returns-in-Ok-clause-done
returns-in-Ok-clause-done g c =
    λ asks. c.do_word.ensures.done (sym (named_by _ c.in-Ok.matches c.in-Ok.ensures.named) ∙ asks.1)

pub returns-in-Ok-clause-cut_off : goal.returns-in-Ok-clause-cut_off
returns-in-Ok-clause-cut_off g c =
    λ asks. c.do_word.ensures.cut_off
    (sym (named_by _ c.in-Ok.matches c.in-Ok.ensures.named) ∙ asks.1)

pub returns-in-Ok-clause-word : goal.returns-in-Ok-clause-word
returns-in-Ok-clause-word g c =
    λ word values asks. c.do_word.ensures.word word values
    (sym c.in-Ok.ensures.named ∙ asks.1.0) asks.1.1 asks.1.2

pub returns-in-Ok-clause-serve : goal.returns-in-Ok-clause-serve
returns-in-Ok-clause-serve g c =
    λ values asks. c.do_word.ensures.serve values
    (sym c.in-Ok.ensures.named ∙ asks.1)

pub returns-in-Ok-clause-other : goal.returns-in-Ok-clause-other
returns-in-Ok-clause-other g c =
    λ others. c.do_word.ensures.other
    (λ named. others (
      c.in-Ok.ensures.taken,
      named_by _ c.in-Ok.matches c.in-Ok.ensures.named
          ∙ named,
    ))

pub returns-in-Ok-clause-wrong : goal.returns-in-Ok-clause-wrong
returns-in-Ok-clause-wrong g c =
    λ others _. absurd (others c.in-Ok.ensures.taken)

-- what is not taken, or for want of memory
pub returns-in-Err-clause-done : goal.returns-in-Err-clause-done
returns-in-Err-clause-done g c = λ asks zero.
    let told = taken_untold _ _ _ _ _ c.in-Err.ensures.fails
    asks.0 c.answer_untaken.ensures in
    let clash : 1 ≡ 0 = sym told.0 ∙ zero in absurd cc

pub returns-in-Err-clause-cut_off : goal.returns-in-Err-clause-cut_off
returns-in-Err-clause-cut_off g c = λ asks other.
    let kept = taken_untold _ _ _ _ _ c.in-Err.ensures.fails
    asks.0 c.answer_untaken.ensures in
    (kept.0, inl (refl, kept.1))

pub returns-in-Err-clause-word : goal.returns-in-Err-clause-word
returns-in-Err-clause-word g c = λ word values asks.
    let kept = taken_untold _ _ _ _ _ c.in-Err.ensures.fails
    asks.0 c.answer_untaken.ensures in
    told_nothing _ _ g.W.Write.contents c.args.output.now c.answer_untaken.new.output c.answer_untaken.result word
    values _ refl kept.1 kept.0

pub returns-in-Err-clause-serve : goal.returns-in-Err-clause-serve
returns-in-Err-clause-serve g c = λ values asks.
    let kept = taken_untold _ _ _ _ _ c.in-Err.ensures.fails
    asks.0 c.answer_untaken.ensures in
    served_nothing _ _ g.W.Write.contents c.args.output.now c.answer_untaken.new.output c.answer_untaken.result values _
    refl kept.1 kept.0

pub returns-in-Err-clause-wrong : goal.returns-in-Err-clause-wrong
returns-in-Err-clause-wrong g c = λ _ helpless.
    untaken_status _ _ _ _ _ c.in-Err.ensures.fails helpless
    c.answer_untaken.ensures

pub returns-in-Err-clause-usage : goal.returns-in-Err-clause-usage
returns-in-Err-clause-usage g c = λ two.
    (refl, unwritten_on_2 _ _ _ _ c.answer_untaken.ensures two)

pub returns-in-Err-clause-unused : goal.returns-in-Err-clause-unused
returns-in-Err-clause-unused g c = λ two taken_all.
    let told = taken_untold _ _ _ _ _ c.in-Err.ensures.fails
    taken_all c.answer_untaken.ensures in
    let clash : 1 ≡ 2 = sym told.0 ∙ two in absurd cc

pub returns-in-Ok-clause-unused : goal.returns-in-Ok-clause-unused
returns-in-Ok-clause-unused g c = λ two _.
    c.in-Ok.ensures.named ∙
    (c.do_word.ensures.usage two).0

pub returns-in-Ok-clause-usage : goal.returns-in-Ok-clause-usage
returns-in-Ok-clause-usage g c = λ two. (c.do_word.ensures.usage two).1
