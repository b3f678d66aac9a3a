use Rattle.std.proofs.Common.{◌≡◌, ◌∙◌, sym, ap, subst, List, ℕ, rules}
use Rattle.day_sums.specs.Row.{Kept, no_row, SameRow, has_number}
use Rattle.day_sums.specs.Sums.{KeptByName, row_at}
use Rattle.day_sums.proofs.NameLemmas.{Writes, same_rows, row_own, in_row}
use Rattle.day_sums.proofs.names.open_name.Goals as goal

pub returns-in-Some-clause-same : goal.returns-in-Some-clause-same
returns-in-Some-clause-same c =
    let was : c.in-Some.row.now ≡ row_at c.args.names.now c.args.account.now = ap in_row c.in-Some.ensures.value in
    same_rows c.args.account.now c.args.names.now (c.get_mut.follows.lender c.open.new.self) c.open.new.self
    ((c.get_mut.follows.holds c.open.new.self).3 (search rules))
    (subst (λ (r : Kept). SameRow r c.open.new.self) was c.open.ensures.same)

pub returns-in-Ok-clause-same : goal.returns-in-Ok-clause-same
returns-in-Ok-clause-same c =
    let old = c.get_mut.follows.lender-at-none in
    let kept = c.get_mut.follows.holds-at-none in
    let none : no_row ≡ row_at c.args.names.now c.args.account.now = ap in_row c.in_default.ensures.value in
    let put : Writes c.args.account.now old c.insert.new.self c.of-row.result =
    subst (λ (name : List ℕ). Writes name old c.insert.new.self c.of-row.result) c.in_ok-name.ensures.items
    c.in-Ok.ensures.updates in
    let was : no_row ≡ row_at old c.args.account.now =
    none ∙ ap (λ (m : KeptByName). row_at m c.args.account.now) (sym kept) in
    subst (λ (m : KeptByName). (a : List ℕ) → SameRow (row_at m a) (row_at c.insert.new.self a)) kept
    (same_rows c.args.account.now old c.insert.new.self c.of-row.result put
    (subst (λ (r : Kept). SameRow r c.of-row.result) was c.of-row.ensures.same))

pub returns-in-Ok-clause-open : goal.returns-in-Ok-clause-open
returns-in-Ok-clause-open c =
    let old = c.get_mut.follows.lender-at-none in
    let put : Writes c.args.account.now old c.insert.new.self c.of-row.result =
    subst (λ (name : List ℕ). Writes name old c.insert.new.self c.of-row.result) c.in_ok-name.ensures.items
    c.in-Ok.ensures.updates in
    ap (λ (r : Kept). has_number r c.args.day c.args.number)
    (row_own c.args.account.now old c.insert.new.self c.of-row.result put) ∙ c.of-row.ensures.open
