use Rattle.std.proofs.Common.{◌≡◌, ◌∙◌, ◌++◌, true, List, ℕ, sym, ap, subst}
use Rattle.std.specs.Str.{is_utf8}
use Rattle.journal_format.specs.CanonicalText.{body_text}
use Rattle.treasury_store.proofs.BodyLemmas.{body_utf8}
use Rattle.treasury_store.proofs.changes.body_of.Goals as goal

pub text_of-requires : goal.text_of-requires
text_of-requires c =
    let same : c.deref.result.now ≡ body_text c.args.styles.now c.args.txn.now =
    c.deref.ensures.value ∙
    (c.in_ok-body.ensures.ok ∙ ap (λ (l : List ℕ). l ++ body_text c.args.styles.now c.args.txn.now)
    c.new-bytes.ensures.items) in
    subst (λ (l : List ℕ). is_utf8 l ≡ true) (sym same)
    (body_utf8 c.args.styles.now c.are_styles.ensures c.args.txn.now c.requires)
