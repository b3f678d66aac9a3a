use Rattle.std.proofs.Common.{ℕ, List, true, subst, ◌≡◌, ◌∙◌}
use Rattle.std.proofs.lemmas.List.{take_all}
use Rattle.book_core.specs.declared.leg.Leg.{Leg}
use Rattle.book_core.specs.Account.{reaches}
use Rattle.book_core.specs.ClaimIndex.{IsListed, AreListed}
use Rattle.book_core.proofs.ClaimIndexLemmas.{legs_more}
use Rattle.book_core.proofs.claim_index.list_legs.Goals as goal

pub loop-leg-preserved : goal.loop-leg-preserved
loop-leg-preserved c =
    let name : c.as_bytes.result.now ≡ (c.leg-item.result).account = c.as_bytes.ensures.value ∙ c.as_str.ensures in
    record {
      kept = λ n h. c.list_account.ensures.kept n (c.loop-leg.invariant.kept n h);
      listed = legs_more c.args.reach c.loop-leg.rows.items c.list_account.new.rows.items c.args.index.now
          c.args.legs.now c.loop-leg.leg-index c.leg-item.result c.loop-leg-test.true
          c.leg-item.is c.list_account.ensures.kept
          c.loop-leg.invariant.listed
          (subst (λ (xs : List ℕ). (a : List ℕ) → reaches c.args.reach a xs ≡ true
          → IsListed c.list_account.new.rows.items c.args.index.now a) name c.in_ok-list_account.ensures.listed);
    }

pub returns-clause-listed : goal.returns-clause-listed
returns-clause-listed c = subst (λ (xs : List Leg). AreListed c.args.reach c.loop-leg.rows.items c.args.index.now xs)
    (take_all c.loop-leg.leg-index c.args.legs.now c.loop-leg-test.false) c.loop-leg.invariant.listed
