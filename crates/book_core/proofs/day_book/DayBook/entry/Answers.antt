use Rattle.std.proofs.Common.{◌≡◌, ◌++◌, ◌-◌, List, length, arith, ap, ◌∙◌, length-append, inr}
use Rattle.book_core.specs.declared.entry.Entry.{Entry}
use Rattle.book_core.proofs.ExamineLemmas.{read_left, read_right}
use Rattle.book_core.proofs.day_book.DayBook.entry.Goals as goal

pub returns-then-at-self-clause-some : goal.returns-then-at-self-clause-some
returns-then-at-self-clause-some c =
    let old = c.self.inside.old.now in
    let i = c.args.number - 1 in
    let zero = c.if-number-eq0.false in (
      omega arith,
      omega (
        arith,
        ap (λ (es : List Entry). length es) c.self.view_is,
        length-append old c.self.inside.new,
        c.if-at-self.true,
      ),
      read_left old c.self.inside.new c.args.self.now i c.index-self-at.result c.self.view_is c.if-at-self.true,
    )

-- the book, with the new entries as they were read
whole : (old kept new b : List Entry) → new ≡ kept → old ++ kept ≡ b → old ++ new ≡ b
whole old kept new b e f = ap (λ (es : List Entry). old ++ es) e ∙ f

pub returns-then-behind-new-clause-some : goal.returns-then-behind-new-clause-some
returns-then-behind-new-clause-some c =
    let old = c.self.inside.old.now in
    let new = c.entries-new.result.now in
    let all = whole old c.self.inside.new new c.args.self.now c.entries-new.ensures c.self.view_is in
    let b = c.args.self.now in
    let i = c.args.number - 1 in
    let x = c.index-new-behind.result in
    let zero = c.if-number-eq0.false in (
      omega arith,
      omega (
        arith,
        ap (λ (es : List Entry). length es) all,
        length-append old new,
        c.if-behind-new.true,
        c.if-at-self.false,
      ),
      read_right old new b i x all c.if-at-self.false c.index-new-behind.is,
    )

pub returns-clause-none : goal.returns-clause-none
returns-clause-none c e =
    let old = c.self.inside.old.now in
    let new = c.entries-new.result.now in
    let all = whole old c.self.inside.new new c.args.self.now c.entries-new.ensures c.self.view_is in
    let zero = c.if-number-eq0.false in
    inr (omega (
      arith,
      ap (λ (es : List Entry). length es) all,
      length-append old new,
      c.if-behind-new.false,
      c.if-at-self.false,
    ))
