use Rattle.std.proofs.Common.{◌≡◌, ◌∙◌, ap, subst, ℕ, List, rules, Vec, Global}
use Rattle.std.specs.Option.{unwrap_or}
use Rattle.std.specs.Map.{lookup}
use Rattle.std.specs.Str.{bytes_eq}
use Rattle.day_sums.specs.Row.{Kept, no_row, SameRow}
use Rattle.day_sums.specs.Sums.{row_at}
use Rattle.day_sums.proofs.SumLemmas.{Puts, in_names, rows_of, same_sums}
use Rattle.day_sums.proofs.sums.DaySums.open_row.Goals as goal

pub returns-in-Some-clause-same : goal.returns-in-Some-clause-same
returns-in-Some-clause-same c =
    let now = c.open_name.new.names in
    let was : (a : List ℕ) → row_at c.in-Some.names.now a ≡ rows_of c.args.self.now c.args.unit.0 a = λ a.
    ap (in_names a) c.in-Some.ensures.value in
    same_sums c.args.unit.0 c.args.self.now _ now ((c.get_mut.follows.holds now).3 (search rules))
    (λ a. subst (λ (r : Kept). SameRow r (row_at now a)) (was a) (c.open_name.ensures.same a))

pub returns-clause-same : goal.returns-clause-same
returns-clause-same c =
    let now = c.open_name-2.new.names in
    let none : (a : List ℕ) → no_row ≡ rows_of c.args.self.now c.args.unit.0 a = λ a.
    ap (in_names a) c.in_default.ensures.value in
    let blank : (a : List ℕ) → row_at c.new-names.result a ≡ no_row = λ a.
    ap (λ (es : List (Vec ℕ Global × Kept)).
    unwrap_or (lookup (λ (k : Vec ℕ Global). bytes_eq a k.items) es) no_row) c.new-names.ensures.empty in
    let put : Puts c.args.unit.0 c.args.self.now (record { alloc = c.args.self.now.alloc; units = c.insert.new.self })
    now = search rules in
    same_sums c.args.unit.0 c.args.self.now _ now put
    (λ a. subst (λ (r : Kept). SameRow r (row_at now a)) (blank a ∙ none a) (c.in_ok-open_name.ensures.same a))
