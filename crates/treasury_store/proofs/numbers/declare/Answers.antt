use Rattle.std.proofs.Common.{◌≡◌, ◌∙◌, ◌++◌, [], ◌∷◌, sym, ap, subst}
use Rattle.money_core.specs.declared.style.Style.{Style}
use Rattle.money_core.specs.Style.{AreStyles}
use Rattle.treasury_state.proofs.BackLemmas.{declare_appends, declare_fails}
use Rattle.treasury_store.proofs.numbers.declare.Goals as goal

pub returns-in-Ok-clause-ok : goal.returns-in-Ok-clause-ok
returns-in-Ok-clause-ok c =
    let same : c.in_ok-copy.copy ≡ c.args.style.now = c.in_ok-copy.ensures.equal in
    let are : AreStyles (c.args.styles.now ++ c.in_ok-copy.copy ∷ []) =
    subst (λ (s : Style). AreStyles (c.args.styles.now ++ s ∷ [])) (sym same) c.requires in
    declare_appends c.args.styles.now c.declare.new.self c.in_ok-copy.copy c.declare.result c.in-Ok.field-0 are
    c.declare.ensures.answer c.in-Ok.is c.declare.ensures.kept
    ∙ ap (λ (s : Style). c.args.styles.now ++ s ∷ []) same

pub returns-in-Err-clause-memory : goal.returns-in-Err-clause-memory
returns-in-Err-clause-memory c =
    let same : c.in_ok-copy.copy ≡ c.args.style.now = c.in_ok-copy.ensures.equal in
    let are : AreStyles (c.args.styles.now ++ c.in_ok-copy.copy ∷ []) =
    subst (λ (s : Style). AreStyles (c.args.styles.now ++ s ∷ [])) (sym same) c.requires in
    declare_fails c.args.styles.now c.in_ok-copy.copy c.declare.result c.in-Err.cause are c.declare.ensures.answer
    c.in-Err.is
