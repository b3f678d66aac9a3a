use Rattle.std.proofs.Common.{ℕ, List, subst, sym, ◌≡◌, eqb}
use Rattle.std.specs.Prelude.{Contains}
use Rattle.std.specs.List.{dedup}
use Rattle.std.proofs.lemmas.List.{take_all}
use Rattle.std.proofs.lemmas.List.Filters.{dedup_is}
use Rattle.std.proofs.lemmas.List.Kept.{Contains-dedup_nat}
use Rattle.std.proofs.lemmas.List.Sorted.{Contains-permutation}
use Rattle.book_core.specs.declared.leg.Leg.{Leg}
use Rattle.book_core.specs.declared.entry.Entry.{Entry}
use Rattle.book_core.specs.Book.{legs_of}
use Rattle.book_core.specs.ClaimIndex.{AreListed}
use Rattle.book_core.proofs.ClaimIndexLemmas.{entries_more, legs_kept}
use Rattle.book_core.proofs.claim_index.rows_for.Goals as goal

pub loop-entry-preserved : goal.loop-entry-preserved
loop-entry-preserved c =
    entries_more c.args.reach c.loop-entry.rows.items c.list_legs.new.rows.items c.args.index.now c.args.entries.now
    c.loop-entry.entry-index c.entry-item.result c.loop-entry-test.true c.entry-item.is c.list_legs.ensures.kept
    c.loop-entry.invariant
    (subst (λ (xs : List Leg). AreListed c.args.reach c.list_legs.new.rows.items c.args.index.now xs) c.items.ensures
    c.in_ok-list_legs.ensures.listed)

pub returns-clause-listed : goal.returns-clause-listed
returns-clause-listed c =
    let once : c.dedup.new.self.items ≡ dedup eqb c.sort.new.self.items =
    dedup_is eqb c.sort.new.self.items c.dedup.new.self.items c.dedup.ensures.filtered in
    legs_kept c.args.reach c.loop-entry.rows.items c.dedup.new.self.items c.args.index.now (legs_of c.args.entries.now)
    (λ n h. subst (λ (xs : List ℕ). Contains xs n) (sym once)
    (Contains-dedup_nat c.sort.new.self.items n
    (Contains-permutation c.loop-entry.rows.items c.sort.new.self.items n c.in_ok-sort.ensures.permutation h)))
    (subst (λ (es : List Entry). AreListed c.args.reach c.loop-entry.rows.items c.args.index.now (legs_of es))
    (take_all c.loop-entry.entry-index c.args.entries.now c.loop-entry-test.false) c.loop-entry.invariant)
