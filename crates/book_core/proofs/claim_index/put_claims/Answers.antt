use Rattle.std.proofs.Common.{ap, subst, ◌∙◌, List, get_or, pos}
use Rattle.std.specs.Prelude.{Contains}
use Rattle.money_core.specs.declared.claim.ClaimKind.TheVariants.{Exact}
use Rattle.day_sums.specs.Spots.{spots_of}
use Rattle.book_core.specs.declared.account.Reach.{Reach}
use Rattle.book_core.specs.declared.leg.Leg.{Leg}
use Rattle.book_core.specs.declared.claim.Placed.{Placed}
use Rattle.book_core.specs.Claim.{account_at}
use Rattle.book_core.specs.ClaimIndex.{index_part}
use Rattle.book_core.proofs.ClaimIndexLemmas.{found_more, found_all}
use Rattle.book_core.proofs.claim_index.put_claims.Goals as goal

pub returns-in_err-put-clause-kept : goal.returns-in_err-put-clause-kept
returns-in_err-put-clause-kept c r a s h = c.put.ensures.kept r a s (c.loop-placed.invariant.kept r a s h)

pub loop-placed-preserved : goal.loop-placed-preserved
loop-placed-preserved c = let blank : Placed =
    record { leg = 0; claim = record { kind = Exact; unit = record { 0 = 0 }; qty = pos 0 } } in let x =
    get_or c.items-placed-items.result.now c.loop-placed.placed-index blank in record {
      kept = λ r a s h. c.put.ensures.kept r a s (c.loop-placed.invariant.kept r a s h);
      put = found_more c.loop-placed.index c.put.new.self c.args.entry.now.day c.args.number c.args.entry.now.legs
          c.items-placed-items.result.now c.loop-placed.placed-index blank c.as_bytes.result.now c.loop-placed-test.true
          c.put.ensures.kept c.loop-placed.invariant.put
          (c.as_bytes.ensures.value ∙ c.account_of-account.ensures ∙ ap (λ (ls : List Leg). account_at ls x.leg)
          c.items.ensures) (subst (λ (r : Reach). Contains
          (spots_of (index_part r c.put.new.self) c.as_bytes.result.now)
          (record { day = c.args.entry.now.day; number = c.args.number; part = x.leg })) c.reach_of_kind.ensures
          c.in_ok-put.ensures.put);
    }

pub returns-clause-put : goal.returns-clause-put
returns-clause-put c = found_all c.loop-placed.index c.args.entry.now.day c.args.number c.args.entry.now.legs
    c.items-placed-items.result.now c.args.entry.now.claims c.loop-placed.placed-index c.items-placed-items.ensures
    c.loop-placed-test.false c.loop-placed.invariant.put
