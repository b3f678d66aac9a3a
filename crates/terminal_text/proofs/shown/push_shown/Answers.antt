use Rattle.std.proofs.Common.{◌++◌, ℕ, List, ap, sym, ◌∙◌}
use Rattle.std.specs.Str.{chars}
use Rattle.std.proofs.lemmas.Result.{on_ok_weaker}
use Rattle.std.proofs.lemmas.Str.{is_utf8-from_IsUtf8}
use Rattle.terminal_text.specs.Shown.{shown_from}
use Rattle.terminal_text.proofs.ShownLemmas.{shown_chars, shown_others, text_shown, text_same}
use Rattle.terminal_text.proofs.shown.push_shown.Goals as goal

pub returns-in-Ok-clause-value : goal.returns-in-Ok-clause-value
returns-in-Ok-clause-value c =
    let old = c.args.out.now.items in
    let is = c.in-Ok.ensures.cases in
    on_ok_weaker c.push_chars.result
    (λ e. e ∙ ap (λ (cs : List ℕ). old ++ cs) (ap (λ (bs : List ℕ). shown_from 0 (chars bs)) is.0
    ∙ sym (shown_chars c.args.text.now (is_utf8-from_IsUtf8 c.args.text.now is.1))))
    c.push_chars.ensures.value

pub returns-in-Ok-clause-shown : goal.returns-in-Ok-clause-shown
returns-in-Ok-clause-shown c = text_shown c.args.text.now (λ i. (c.type_inv.text i).fits)

pub returns-in-Ok-clause-itself : goal.returns-in-Ok-clause-itself
returns-in-Ok-clause-itself c = λ is few. text_same c.args.text.now is few

pub returns-in-Err-clause-value : goal.returns-in-Err-clause-value
returns-in-Err-clause-value c =
    let old = c.args.out.now.items in
    on_ok_weaker c.push_bytes.result
    (λ e. e ∙ ap (λ (bs : List ℕ). old ++ bs) (sym (shown_others c.args.text.now c.in-Err.ensures.cases.0)))
    c.push_bytes.ensures.value

pub returns-in-Err-clause-shown : goal.returns-in-Err-clause-shown
returns-in-Err-clause-shown c = text_shown c.args.text.now (λ i. (c.type_inv.text i).fits)

pub returns-in-Err-clause-itself : goal.returns-in-Err-clause-itself
returns-in-Err-clause-itself c = λ is few. text_same c.args.text.now is few
