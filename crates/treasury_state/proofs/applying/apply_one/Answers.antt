use Rattle.std.proofs.Common.{refl, [], ◌∷◌}
use Rattle.std.proofs.lemmas.Result.{on_ok_weaker}
use Rattle.treasury_state.specs.Joined.{with_records, with_lock}
use Rattle.treasury_state.specs.Seen.{branches_of}
use Rattle.treasury_state.proofs.IndexLemmas.{places_kept}
use Rattle.treasury_state.proofs.applying.apply_one.Goals as goal

pub returns-in-Record-clause-places : goal.returns-in-Record-clause-places
returns-in-Record-clause-places g c =
    on_ok_weaker c.apply_record.result
    (λ e. places_kept c.args.places.now (with_records (c.in-Record.row ∷ [])) (λ b. refl) c.as_str.result.now
    (branches_of c.args.branches.now.items) _ c.requires.places e)
    c.apply_record.ensures.ok

pub returns-in-Locked-clause-places : goal.returns-in-Locked-clause-places
returns-in-Locked-clause-places g c =
    places_kept c.args.places.now (with_lock c.in-Locked.day) (λ b. refl) c.as_str-in-Locked.result.now
    (branches_of c.args.branches.now.items) _ c.requires.places c.apply_lock.ensures.after
