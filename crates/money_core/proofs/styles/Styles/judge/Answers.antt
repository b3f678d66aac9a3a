-- What was looked up decides the answer.
use Rattle.std.proofs.Common.{◌∙◌, sym, ap, arith, ◌≡◌, Some, None, length}
use Rattle.std.specs.List.{slice_get}
use Rattle.std.proofs.lemmas.Option.{slice_get-get_or}
use Rattle.money_core.specs.Amount.{place_of}
use Rattle.money_core.specs.Style.{declared}
use Rattle.money_core.proofs.StyleLemmas.{declared-held, declared-full, declared-new, place_of-bound}
use Rattle.money_core.proofs.styles.Styles.judge.Goals as goal

pub returns-in-Some : goal.returns-in-Some
returns-in-Some c =
    let styles = c.self.inside.list.items in
    let place = c.in-Some.place in
    let found : place_of styles c.args.style.now.symbol ≡ Some place = cc in
    let held : slice_get styles place ≡ Some c.index.result.now =
    slice_get-get_or styles place c.index.result.now (place_of-bound styles c.args.style.now.symbol place found) ∙ ap
    Some (sym c.index.ensures) in
    let answer = declared-held styles c.args.style.now c.index.result.now place found held in
    (c.declared_with.ensures ∙ (sym answer ∙ ap (λ now. declared now c.args.style.now) c.self.view_is))

pub returns-then-count-ge-MAX_COMMODITIES : goal.returns-then-count-ge-MAX_COMMODITIES
returns-then-count-ge-MAX_COMMODITIES c =
    let styles = c.self.inside.list.items in
    let free : place_of styles c.args.style.now.symbol ≡ None = cc in
    (sym (declared-full styles c.args.style.now free (omega arith)) ∙ ap (λ now. declared now c.args.style.now)
    c.self.view_is)

pub returns-else-count-ge-MAX_COMMODITIES : goal.returns-else-count-ge-MAX_COMMODITIES
returns-else-count-ge-MAX_COMMODITIES c =
    let styles = c.self.inside.list.items in
    let free : place_of styles c.args.style.now.symbol ≡ None = cc in
    let count : c.len-count.result ≡ length styles = omega arith in
    let answer = declared-new styles c.args.style.now free (omega arith) in
    (rw count (sym answer ∙ ap (λ now. declared now c.args.style.now) c.self.view_is))
