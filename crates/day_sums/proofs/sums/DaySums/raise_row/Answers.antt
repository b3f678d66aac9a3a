use Rattle.std.proofs.Common.{◌≡◌, ◌∙◌, sym, ap, subst, ℤ, ℕ, List, rules, w64, to_z, of_z}
use Rattle.std.proofs.lemmas.Int.{to_z-of_z}
use Rattle.day_sums.specs.Points.{IsUpTo}
use Rattle.day_sums.specs.Row.{Kept, row_sum, RaisedRow}
use Rattle.day_sums.specs.Sums.{row_at}
use Rattle.day_sums.proofs.SumLemmas.{in_names, rows_of, raised_sums}
use Rattle.day_sums.proofs.sums.DaySums.raise_row.Goals as goal

pub raise_name-requires-clause-sums : goal.raise_name-requires-clause-sums
raise_name-requires-clause-sums c = λ p.
    subst (λ (r : Kept). IsUpTo 10000000000000000 (row_sum r p))
    (sym (ap (in_names c.args.account.now) c.in-Some.ensures.value)) (c.requires.small p)

pub returns-in-Some : goal.returns-in-Some
returns-in-Some c =
    let account = c.args.account.now in
    let now = c.raise_name.new.names in
    let was : (a : List ℕ) → row_at c.in-Some.names.now a ≡ rows_of c.args.self.now c.args.unit.0 a = λ a.
    ap (in_names a) c.in-Some.ensures.value in
    let by : to_z w64 (of_z w64 c.args.qty) ≡ c.args.qty = to_z-of_z w64 c.args.qty (search rules) in
    let own : RaisedRow c.args.day c.args.number c.args.qty (rows_of c.args.self.now c.args.unit.0 account)
    (row_at now account) =
    subst (λ (r : Kept). RaisedRow c.args.day c.args.number c.args.qty r (row_at now account)) (was account)
    (subst (λ (q : ℤ). RaisedRow c.args.day c.args.number q (row_at c.in-Some.names.now account) (row_at now account))
    by c.raise_name.ensures.own) in
    record {
      raised = raised_sums account c.args.unit c.args.day c.args.number c.args.qty c.args.self.now _ now
          ((c.get_mut.follows.holds now).3 (search rules)) own (λ a h. c.raise_name.ensures.others a h ∙ was a);
    }
