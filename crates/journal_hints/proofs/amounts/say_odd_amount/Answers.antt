use Rattle.std.proofs.Common.{◌≡◌, ◌∙◌, ◌++◌, ℕ, List, [], ◌∷◌, ap, subst, Option}
use Rattle.std.specs.Prelude.{OnOk, codes}
use Rattle.journal_hints.specs.declared.odd.ReadAs.{ReadAs}
use Rattle.journal_hints.specs.OddAmount.{odd_amount, odd_at_said, amount_said}
use Rattle.journal_hints.proofs.amounts.say_odd_amount.Goals as goal

pub returns-in-Some : goal.returns-in-Some
returns-in-Some c =
    let styles = c.args.styles.now in
    let old = c.args.out.now.items in
    subst (λ (o : Option ReadAs). OnOk c.say_odd_at.result
    (c.say_odd_at.new.out.items ≡ old ++ amount_said styles c.args.text.now o))
    (c.in-Some.ensures ∙ ap (odd_amount styles) c.as_bytes.ensures.value)
    (subst (λ (t : List ℕ). OnOk c.say_odd_at.result
    (c.say_odd_at.new.out.items ≡ old ++ odd_at_said styles (codes "--amount" ∷ []) t c.in-Some.read))
    c.as_bytes-in-Some.ensures.value c.say_odd_at.ensures)
