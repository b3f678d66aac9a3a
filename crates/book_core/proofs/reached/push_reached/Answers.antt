use Rattle.std.proofs.Common.{◌≡◌, ℕ, List, take, get_or, subst, sym, ◌⊎◌, inl, inr}
use Rattle.std.specs.Prelude.{Contains}
use Rattle.std.specs.List.{filter}
use Rattle.std.proofs.lemmas.List.{take_more, take_all}
use Rattle.std.proofs.lemmas.List.Elements.{Contains-push_cases}
use Rattle.day_sums.specs.declared.spots.Spot.{Spot}
use Rattle.day_sums.specs.Spots.{is_behind, spots_in}
use Rattle.book_core.specs.Gathered.{HasReached}
use Rattle.book_core.proofs.TouchedLemmas.{touched_place}
use Rattle.book_core.proofs.reached.push_reached.Goals as goal

pub loop-row-preserved : goal.loop-row-preserved
loop-row-preserved c = record {
  only = c.in_ok-push_touched.ensures.only;
  kept = λ p h. c.push_touched.ensures.kept p (c.loop-row.invariant.kept p h);
  all = λ n h. by_case n (Contains-push_cases (take i rows) (get_or rows i 0) n
      (subst (λ (ns : List ℕ). Contains ns n) (take_more rows i 0 c.loop-row-test.true) h));
}
  where
    rows : List ℕ
    rows = c.deref-row-items.result.now

    i : ℕ
    i = c.loop-row.row-index

    by_case : (n : ℕ) → Contains (take c.loop-row.row-index c.deref-row-items.result.now) n
        ⊎ (get_or c.deref-row-items.result.now c.loop-row.row-index 0 ≡ n)
        → HasReached c.args.old.now c.args.new.now
        (filter (is_behind c.first_day-day.result) (spots_in c.part-part.result.now n)) c.push_touched.new.places.items
    by_case n (inl k) = λ x a t s. c.push_touched.ensures.kept x.place (c.loop-row.invariant.all n k x a t s)
    by_case n (inr e) = subst (λ (m : ℕ).
        HasReached c.args.old.now c.args.new.now
        (filter (is_behind c.first_day-day.result) (spots_in c.part-part.result.now m))
        c.push_touched.new.places.items) e
        (subst (λ (ss : List Spot). HasReached c.args.old.now c.args.new.now ss c.push_touched.new.places.items)
        c.spots_behind.ensures c.in_ok-push_touched.ensures.all)

pub returns-clause-all : goal.returns-clause-all
returns-clause-all c =
    touched_place c.args.reach c.args.old.now c.args.new.now c.args.index.now c.part-part.result.now
    c.in_ok-rows.rows.items c.first_day-day.result c.loop-row.places.items c.part-part.ensures c.requires.index
    c.first_day-day.ensures c.in_ok-rows.ensures.listed
    (λ n h. c.loop-row.invariant.all n
    (subst (λ (ns : List ℕ). Contains ns n)
    (sym (take_all c.loop-row.row-index c.deref-row-items.result.now c.loop-row-test.false))
    (subst (λ (ns : List ℕ). Contains ns n) (sym c.deref-row-items.ensures.value) h)))
