use Rattle.std.proofs.Common.{◌∙◌, ℕ, Bool, List, ap, sym, Some, None}
use Rattle.std.specs.Prelude.{if◌then◌else◌}
use Rattle.std.proofs.lemmas.Str.{is_utf8-from_IsUtf8}
use Rattle.journal_hints.proofs.OddLemmas.{no_utf8}
use Rattle.journal_hints.proofs.odd.text_in.Goals as goal

pub returns-in-Ok : goal.returns-in-Ok
returns-in-Ok c =
    let is = c.in-Ok.ensures.cases in
    ap (λ (t : List ℕ). Some t) is.0
    ∙ sym (ap (λ (t : Bool). if t then Some c.args.text.now else None) (is_utf8-from_IsUtf8 c.args.text.now is.1))

pub returns-in-Err : goal.returns-in-Err
returns-in-Err c =
    sym (ap (λ (t : Bool). if t then Some c.args.text.now else None) (no_utf8 c.args.text.now c.in-Err.ensures.cases.0))
