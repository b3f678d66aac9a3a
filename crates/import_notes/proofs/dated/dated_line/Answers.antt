use Rattle.std.proofs.Common.{◌≡◌, ◌∙◌, sym, ap, true, nat_lt, rules, arith}
use Rattle.import_notes.specs.Dated.{dated_line, line_or}
use Rattle.import_notes.proofs.DatedLemmas.{date_here, date_further}
use Rattle.import_notes.proofs.dated.dated_line.Goals as goal

pub returns-then-is_dated_on : goal.returns-then-is_dated_on
unfolding dated_line
returns-then-is_dated_on c =
    let it = c.loop-number in
    let behind : nat_lt c.args.header c.in-Some.number ≡ true = first_of (search rules, grind arith) in
    let inner : c.is_inner.result ≡ true = first_of (search rules, grind arith) in
    ap (line_or c.args.header) (sym
    (date_here it.is_on_posting c.is_from_posting-is_on_posting.result c.args.header
    (c.in-Some.number, c.in-Some.line.now) _ _ c.in-Some.ensures.steps behind (sym c.is_inner.ensures ∙ inner)
    c.is_from_posting-is_on_posting.ensures (sym c.is_dated_on.ensures ∙ c.if-is_dated_on.true))
    ∙ it.invariant)

pub loop-number-preserved-else-is_dated_on : goal.loop-number-preserved-else-is_dated_on
loop-number-preserved-else-is_dated_on c =
    let it = c.loop-number in
    let behind : nat_lt c.args.header c.in-Some.number ≡ true = first_of (search rules, grind arith) in
    let inner : c.is_inner.result ≡ true = first_of (search rules, grind arith) in
    sym (date_further it.is_on_posting c.is_from_posting-is_on_posting.result c.args.header
    (c.in-Some.number, c.in-Some.line.now) _ _ c.in-Some.ensures.steps behind (sym c.is_inner.ensures ∙ inner)
    c.is_from_posting-is_on_posting.ensures (sym c.is_dated_on.ensures ∙ c.if-is_dated_on.false))
    ∙ it.invariant
