use Rattle.std.proofs.Common.{◌≡◌, ◌∙◌, ◌+◌, ◌++◌, List, ℤ, length, arith, ap, sym, ◌+ℤ◌, FitsSigned, to_z, of_z, w64}
use Rattle.std.proofs.lemmas.Int.{ints}
use Rattle.book_core.specs.declared.balance.Query.{Query}
use Rattle.book_core.specs.declared.entry.Entry.{Entry}
use Rattle.book_core.specs.Book.{posted_from}
use Rattle.book_core.specs.Balance.{total}
use Rattle.book_core.specs.GoodBook.{IsWithin}
use Rattle.book_core.specs.Query.{takes_in, balance_for}
use Rattle.book_core.proofs.BookLemmas.{within_left, within_right}
use Rattle.book_core.proofs.BalanceLemmas.{balance-append_from, small_within}
use Rattle.book_core.proofs.day_book.DayBookBalances.found.Goals as goal

-- the sum of both, as a machine integer
added : (q : Query) (old new b : List Entry) (x y : ℤ) → IsWithin (old ++ new) → x ≡ balance_for q old
    → y ≡ total (takes_in q) (posted_from (length old + 1) new) → old ++ new ≡ b →
    FitsSigned w64 (to_z w64 (of_z w64 x) +ℤ to_z w64 (of_z w64 y))
    × (to_z w64 (of_z w64 (to_z w64 (of_z w64 x) +ℤ to_z w64 (of_z w64 y))) ≡ balance_for q b)
added q old new b x y h e f g =
    let one = small_within old (within_left old new h).small q.reach q.account.now q.unit q.limit in
    let all = small_within (old ++ new) h.small q.reach q.account.now q.unit q.limit in
    let whole : x +ℤ y ≡ balance_for q b =
    ap (λ (z : ℤ). z +ℤ y) e ∙ ap (λ (z : ℤ). balance_for q old +ℤ z) f ∙ sym
    (balance-append_from q.reach old new q.account.now q.unit q.limit) ∙ ap (balance_for q) g in
    let same = ap (balance_for q) g in
    let ol = one.low in
    let oh = one.high in
    let al = all.low in
    let ah = all.high in
    (omega (arith, ints), omega (arith, ints))

pub balance-kept-requires-clause-room : goal.balance-kept-requires-clause-room
balance-kept-requires-clause-room c = (within_left c.self.inside.old.now c.self.inside.new c.self.invariant.0).small

pub sum_behind-added-requires-clause-room : goal.sum_behind-added-requires-clause-room
sum_behind-added-requires-clause-room c =
    (within_right c.self.inside.old.now c.self.inside.new c.self.invariant.0).small

pub overflow_add-result : goal.overflow_add-result
overflow_add-result c =
    (added c.args.query.now c.self.inside.old.now c.self.inside.new c.args.self.now c.balance-kept.result
    c.sum_behind-added.result c.self.invariant.0 c.balance-kept.ensures c.sum_behind-added.ensures c.self.view_is).0

pub returns : goal.returns
returns c =
    (added c.args.query.now c.self.inside.old.now c.self.inside.new c.args.self.now c.balance-kept.result
    c.sum_behind-added.result c.self.invariant.0 c.balance-kept.ensures c.sum_behind-added.ensures c.self.view_is).1
