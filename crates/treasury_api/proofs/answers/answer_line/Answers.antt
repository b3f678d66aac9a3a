use Rattle.std.proofs.Common.{◌≡◌, ◌++◌, ◌∙◌, ap, sym, refl, append_assoc, List, ℕ, Ok, Err, codes}
use Rattle.money_core.specs.declared.style.Style.{Style}
use Rattle.book_core.specs.declared.refusal.Refusal.{Refusal}
use Rattle.treasury_core.specs.declared.command.Answer.{Answer}
use Rattle.treasury_api.specs.Answer.{answer_text, done_text, refusal_text}
use Rattle.treasury_api.proofs.answers.answer_line.Goals as goal

joined : (old text end : List ℕ) → old ++ text ++ end ≡ old ++ (text ++ end)
joined old text end = simp append_assoc

done_line : (styles : List Style) (answer : Answer) → done_text answer ++ codes "\n" ≡ answer_text styles (Ok answer)
unfolding answer_text
done_line styles answer = refl

refusal_line : (styles : List Style) (refusal : Refusal)
    → refusal_text styles refusal ++ codes "\n" ≡ answer_text styles (Err refusal)
unfolding answer_text
refusal_line styles refusal = refl

pub returns-in_ok-push_done-in-Ok-clause-ok : goal.returns-in_ok-push_done-in-Ok-clause-ok
returns-in_ok-push_done-in-Ok-clause-ok c =
    let styles = c.args.styles.now in
    c.in_ok-push_done-in-Ok.ensures.ok ∙ joined c.args.out.now.items (done_text c.in-Ok.done) (codes "\n") ∙ ap
    (λ text. c.args.out.now.items ++ text)
    (done_line styles c.in-Ok.done ∙ sym (ap (answer_text styles) c.in-Ok.is))

pub returns-in_ok-push_refusal-in-Err-clause-ok : goal.returns-in_ok-push_refusal-in-Err-clause-ok
returns-in_ok-push_refusal-in-Err-clause-ok c =
    let styles = c.args.styles.now in
    c.in_ok-push_refusal-in-Err.ensures.ok ∙ joined c.args.out.now.items (refusal_text styles c.in-Err.refusal)
    (codes "\n") ∙ ap (λ text. c.args.out.now.items ++ text)
    (refusal_line styles c.in-Err.refusal ∙ sym (ap (answer_text styles) c.in-Err.is))
