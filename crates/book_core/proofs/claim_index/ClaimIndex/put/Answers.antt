use Rattle.std.proofs.Common.{sym, subst}
use Rattle.std.specs.Prelude.{Contains, OnOk}
use Rattle.day_sums.specs.Spots.{spots_of}
use Rattle.book_core.specs.declared.account.Reach.{Reach}
use Rattle.book_core.specs.ClaimIndex.{index_part}
use Rattle.book_core.proofs.ClaimIndexLemmas.{kept_own, kept_inside}
use Rattle.book_core.proofs.claim_index.ClaimIndex.put.Goals as goal

pub returns-in-Own-clause-kept : goal.returns-in-Own-clause-kept
returns-in-Own-clause-kept c = kept_own c.args.self.now c.put_spot.new.self c.put_spot.ensures.kept

pub returns-in-Own-clause-put : goal.returns-in-Own-clause-put
returns-in-Own-clause-put c = subst (λ (r : Reach). OnOk c.put_spot.result (Contains
    (spots_of (index_part r (record { own = c.put_spot.new.self; inside = c.args.self.now.inside })) c.args.account.now)
    c.args.spot)) (sym c.in-Own.is) c.put_spot.ensures.put

pub returns-in-Inside-clause-kept : goal.returns-in-Inside-clause-kept
returns-in-Inside-clause-kept c =
    kept_inside c.args.self.now c.put_spot-in-Inside.new.self c.put_spot-in-Inside.ensures.kept

pub returns-in-Inside-clause-put : goal.returns-in-Inside-clause-put
returns-in-Inside-clause-put c = subst (λ (r : Reach). OnOk c.put_spot-in-Inside.result (Contains
    (spots_of (index_part r (record { own = c.args.self.now.own; inside = c.put_spot-in-Inside.new.self }))
    c.args.account.now) c.args.spot)) (sym c.in-Inside.is) c.put_spot-in-Inside.ensures.put
