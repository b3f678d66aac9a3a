use Rattle.std.proofs.Common.{◌≡◌, ◌≢◌, ◌∙◌, true, false, codes, sym, inl, inr}
use Rattle.std.proofs.lemmas.Slice.Eq.{bytes_eq-Decides}
use Rattle.treasury.proofs.words.at.answer_at.Goals as goal

pub returns-then-eq : goal.returns-then-eq
returns-then-eq c =
    let is_import = (bytes_eq-Decides c.args.word.now (codes "import")).0 (sym c.eq.ensures ∙ c.if-eq.true) in
    inr (c.in-Some.port, c.in-Some.ensures.given, inl (is_import, c.answer_import_at.ensures))

pub returns-else-eq : goal.returns-else-eq
returns-else-eq c =
    let other : c.args.word.now ≢ codes "import" = λ same.
    let z : true ≡ false = sym ((bytes_eq-Decides c.args.word.now (codes "import")).1 same)
    ∙ (sym c.eq.ensures ∙ c.if-eq.false) in absurd cc in
    inr (c.in-Some.port, c.in-Some.ensures.given, inr (other, c.answer_form_at.ensures))
