-- What was judged is what is done.
use Rattle.std.proofs.Common.{◌∙◌, sym, ap, ◌≡◌, Ok}
use Rattle.money_core.specs.declared.unit.Declared.TheVariants.{New}
use Rattle.money_core.specs.Style.{declared}
use Rattle.money_core.proofs.StyleLemmas.{AreStyles-snoc, declared-was_new}
use Rattle.money_core.proofs.styles.Styles.declare.Goals as goal

pub invariant_of-self-in-Ok-New : goal.invariant_of-self-in-Ok-New
invariant_of-self-in-Ok-New c =
    let styles = c.self.inside.list.items in
    let unit = c.in-Ok-New.unit in
    let new : declared styles c.args.style ≡ Ok (New unit) =
    ap (λ now. declared now c.args.style) c.self.view_is ∙ (sym c.judge.ensures ∙ cc) in
    let was = declared-was_new styles c.args.style unit new in
    rw c.in_ok-push-in-Ok-New.ensures.items (AreStyles-snoc styles c.args.style c.self.invariant c.requires was.0 was.1)
