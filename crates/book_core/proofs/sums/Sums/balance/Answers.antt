use Rattle.std.proofs.Common.{◌≡◌, ◌∙◌, ap, sym, subst, List, ℕ, rules, w64}
use Rattle.std.proofs.lemmas.Int.{to_z-of_z}
use Rattle.day_sums.specs.declared.period.Period.TheVariants.{Through}
use Rattle.day_sums.specs.Sums.{period_sum}
use Rattle.book_core.specs.declared.account.Reach.{Reach}
use Rattle.book_core.specs.DayRows.{AreSums}
use Rattle.book_core.specs.Balance.{balance}
use Rattle.book_core.proofs.DayLemmas.{balance_through}
use Rattle.book_core.proofs.sums.Sums.balance.Goals as goal
use Rattle.book_core.proofs.sums.Sums.balance.Goals.{After-sum, in-Own, in-Inside}

-- the rows that are asked have the sums of the book
through : (c : After-sum) → period_sum c.match-query.rows.now c.args.query.now.account.now c.args.query.now.unit
    (Through c.in-Through.day)
    ≡ balance c.args.query.now.reach c.args.entries.now c.args.query.now.account.now c.args.query.now.unit
    c.args.query.now.limit
through c =
    let q = c.args.query.now in
    let b = c.args.entries.now in
    elim c.match-query.branch [
      | in-Own w ↦ rw w.rows-is (balance_through q.reach c.args.self.now.own b q.account.now q.unit q.limit
          c.in-Through.day
          (subst (λ (r : Reach). AreSums r c.args.self.now.own b) (sym w.in-Own.is) c.requires.sums.own)
          c.in-Through.is)
      | in-Inside w ↦ rw w.rows-is (balance_through q.reach c.args.self.now.inside b q.account.now q.unit q.limit
          c.in-Through.day
          (subst (λ (r : Reach). AreSums r c.args.self.now.inside b) (sym w.in-Inside.is) c.requires.sums.inside)
          c.in-Through.is)
    ]

pub returns-in-Through : goal.returns-in-Through
returns-in-Through c = to_z-of_z w64 c.sum.result (search rules) ∙ c.sum.ensures ∙ ap
    (λ (a : List ℕ). period_sum c.match-query.rows.now a c.args.query.now.unit (Through c.in-Through.day))
    c.as_bytes.ensures.value ∙ through c
