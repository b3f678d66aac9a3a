use Rattle.std.proofs.Common.{◌≡◌, ◌++◌, ap, sym, subst, ◌∙◌, List, Option, Bool, true, false, Ok}
use Rattle.std.specs.Prelude.{IfSome, option_copied, Result}
use Rattle.std.specs.List.{AllByRecursion}
use Rattle.money_core.proofs.ListLemmas.{all_weaker}
use Rattle.book_core.specs.declared.refusal.Refusal.{Refusal}
use Rattle.journal_format.specs.Printable.{IsPrintable}
use Rattle.treasury_state.specs.declared.record.Record.{Record}
use Rattle.treasury_state.specs.Mark.{held}
use Rattle.treasury_state.specs.Good.{IsGoodRecord}
use Rattle.treasury_state.proofs.HolderLemmas.{held_all}
use Rattle.treasury_core.specs.Step.{new_in}
use Rattle.treasury_core.specs.Judged.{judged}
use Rattle.treasury_core.proofs.JudgedLemmas.{by_cause, judged_taken, judged_passed, next_new, next_own}
use Rattle.treasury_core.proofs.JudgedLemmas.{next_held, next_stops, reached_new, reached_passed, reached_rest}
use Rattle.treasury_core.proofs.enter.new_of.Goals as goal

pub is_new-requires-clause-holder : goal.is_new-requires-clause-holder
is_new-requires-clause-holder c =
    let styles = c.args.styles.now in
    let hs = c.args.base.now ++ c.rows.new in
    let found : option_copied c.holder_of-holder.result ≡ held hs c.in-Some.row.mark =
    c.holder_of-holder.ensures ∙ ap (λ (ns : List Record). held (c.args.base.now ++ ns) c.as_str.result.now)
    c.items.ensures ∙ ap (held hs) c.as_str.ensures in
    subst (λ (o : Option Record). IfSome o (λ (h : Record). IsPrintable styles h.txn)) (sym found)
    (held_all (λ (h : Record). IsPrintable styles h.txn) hs c.in-Some.row.mark
    (all_weaker (IsGoodRecord styles) (λ (h : Record). IsPrintable styles h.txn) hs (λ r k. k.printable)
    c.rows.invariant.held))

pub rows-preserved-in_default : goal.rows-preserved-in_default
rows-preserved-in_default c =
    let styles = c.args.styles.now in
    let base = c.args.base.now in
    let new = c.rows.new in
    let row = c.in-Some.row in
    let rest = c.next.new.self.rest.items in
    let found : option_copied c.holder_of-holder.result ≡ held (base ++ new) row.mark =
    c.holder_of-holder.ensures ∙ ap (λ (ns : List Record). held (base ++ ns) c.as_str.result.now) c.items.ensures ∙ ap
    (held (base ++ new)) c.as_str.ensures in
    let is : judged styles c.args.lock row (held (base ++ new) row.mark) ≡ Ok true =
    ap (judged styles c.args.lock row) (sym found) ∙ c.in-Ok-true.ensures.value ∙ ap
    (λ (b : Bool). let x : Result Bool Refusal = Ok b in x) c.in-Ok-true.field-0-test in
    let split = c.in-Some.ensures.steps.0 in
    let t = judged_taken styles c.args.lock (base ++ new) rest row is in
    let all = subst (AllByRecursion (IsGoodRecord styles)) split c.rows.invariant.rest in
    record {
      reached = reached_new styles c.args.lock base c.args.rows new c.push_marked.new.records rest
          c.rows.row-iterator.rest.items row c.rows.passed c.in_default.ensures.ok split is c.rows.invariant.reached;
      all = next_new styles c.args.lock base new c.push_marked.new.records rest c.rows.row-iterator.rest.items row _
          c.in_default.ensures.ok split t c.rows.invariant.all;
      found = c.in_default.ensures.found;
      own = next_own base new c.push_marked.new.records row c.in_default.ensures.ok c.rows.invariant.own t.absent;
      held = next_held (IsGoodRecord styles) base new c.push_marked.new.records row c.in_default.ensures.ok
          c.rows.invariant.held all.0;
      rest = all.1;
    }

pub rows-preserved : goal.rows-preserved
rows-preserved c =
    let styles = c.args.styles.now in
    let base = c.args.base.now in
    let new = c.rows.new in
    let row = c.in-Some.row in
    let rest = c.next.new.self.rest.items in
    let found : option_copied c.holder_of-holder.result ≡ held (base ++ new) row.mark =
    c.holder_of-holder.ensures ∙ ap (λ (ns : List Record). held (base ++ ns) c.as_str.result.now) c.items.ensures ∙ ap
    (held (base ++ new)) c.as_str.ensures in
    let is : judged styles c.args.lock row (held (base ++ new) row.mark) ≡ Ok false =
    ap (judged styles c.args.lock row) (sym found) ∙ c.in-Ok-false.ensures.value ∙ ap
    (λ (b : Bool). let x : Result Bool Refusal = Ok b in x) c.in-Ok-false.field-0-test in
    let split = c.in-Some.ensures.steps.0 in
    let p = judged_passed styles c.args.lock (base ++ new) rest row c.rows.invariant.own is in
    record {
      reached = reached_passed styles c.args.lock base c.args.rows new rest c.rows.row-iterator.rest.items row
          c.rows.passed c.rows.invariant.own split is c.rows.invariant.reached;
      all = ap (λ (xs : List Record). new ++ xs) (sym p.new ∙ ap (new_in (base ++ new)) (sym split)) ∙
          c.rows.invariant.all;
      found = c.rows.invariant.found;
      own = c.rows.invariant.own;
      held = c.rows.invariant.held;
      rest = (subst (AllByRecursion (IsGoodRecord styles)) split c.rows.invariant.rest).1;
    }

pub returns-in-Err-clause-err : goal.returns-in-Err-clause-err
returns-in-Err-clause-err c =
    let styles = c.args.styles.now in
    let base = c.args.base.now in
    let new = c.rows.new in
    let row = c.in-Some.row in
    let items = c.rows.row-iterator.rest.items in
    let found : option_copied c.holder_of-holder.result ≡ held (base ++ new) row.mark =
    c.holder_of-holder.ensures ∙ ap (λ (ns : List Record). held (base ++ ns) c.as_str.result.now) c.items.ensures ∙ ap
    (held (base ++ new)) c.as_str.ensures in
    by_cause styles base new row c.next.new.self.rest.items items c.args.lock c.in-Err.refusal _ found
    c.in-Some.ensures.steps.0 c.rows.invariant.own
    (reached_rest styles c.args.lock base c.args.rows new items c.rows.passed c.rows.invariant.reached)
    c.in-Err.ensures.err

pub returns-in-Err-clause-stops : goal.returns-in-Err-clause-stops
returns-in-Err-clause-stops c =
    let styles = c.args.styles.now in
    let base = c.args.base.now in
    let new = c.rows.new in
    let row = c.in-Some.row in
    let items = c.rows.row-iterator.rest.items in
    let found : option_copied c.holder_of-holder.result ≡ held (base ++ new) row.mark =
    c.holder_of-holder.ensures ∙ ap (λ (ns : List Record). held (base ++ ns) c.as_str.result.now) c.items.ensures ∙ ap
    (held (base ++ new)) c.as_str.ensures in
    next_stops styles base c.args.rows new row c.next.new.self.rest.items items c.args.lock c.rows.passed
    c.in-Err.refusal found c.in-Some.ensures.steps.0 c.rows.invariant.own c.rows.invariant.reached c.in-Err.ensures.err
