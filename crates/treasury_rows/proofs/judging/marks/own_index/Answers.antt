use Rattle.std.proofs.Common.{◌≡◌, ◌<◌, ◌∙◌, ap, sym, subst, ℕ, List, true, false, cond, length, take, arith, Some}
use Rattle.std.proofs.Common.{None}
use Rattle.std.specs.Prelude.{is_some}
use Rattle.std.specs.Option.{option_or}
use Rattle.std.specs.Str.{bytes_eq}
use Rattle.std.specs.HashMap.{get_by_text}
use Rattle.std.proofs.lemmas.List.{length-take-le}
use Rattle.treasury_state.specs.declared.record.Record.{Record}
use Rattle.treasury_state.specs.Index.{mark_place, IsIndexOf}
use Rattle.treasury_state.proofs.IndexLemmas.{held_without_mark_place, index_pushed}
use Rattle.treasury_rows.proofs.JudgingLemmas.{own_place, own_more, front_is, is_none}
use Rattle.treasury_rows.proofs.judging.marks.own_index.Goals as goal

pub returns-then-contains_key-clause-value : goal.returns-then-contains_key-clause-value
returns-then-contains_key-clause-value c = λ own.
    let rs = c.args.rows.now in
    let i = c.loop-place.place in
    let r = c.index-rows-place.result in
    let none : mark_place (take i rs) r.mark ≡ None = own_place rs i r (omega arith) c.index-rows-place.is own in
    let k : true ≡ false =
    sym c.if-contains_key.true ∙ (c.contains_key.ensures ∙ ap is_some
    (c.loop-place.invariant.found c.as_str-mark.result.now ∙
    (ap (mark_place (take i rs)) c.as_str-mark.ensures ∙ none))) in
    cc

pub loop-place-preserved : goal.loop-place-preserved
loop-place-preserved c =
    let rs = c.args.rows.now in
    let i = c.loop-place.place in
    let r = c.index-rows-place.result in
    let old = c.loop-place.index in
    let within : i < length rs = omega arith in
    let looked : is_some (mark_place (take i rs) r.mark) ≡ false =
    ap is_some (sym (c.loop-place.invariant.found c.as_str-mark.result.now ∙ ap (mark_place (take i rs))
    c.as_str-mark.ensures)) ∙ (sym c.contains_key.ensures ∙ c.if-contains_key.false) in
    let put : (k : List ℕ) → get_by_text c.put_place.new.index k
    ≡ option_or (get_by_text old k) (cond (bytes_eq r.mark k) (Some (length (take i rs))) None) = λ k.
    c.in_ok-put_place.ensures.put k
    ∙ ap (λ (m : List ℕ). option_or (get_by_text old k) (cond (bytes_eq m k) (Some i) None)) c.as_str-mark.ensures
    ∙ ap (λ (n : ℕ). option_or (get_by_text old k) (cond (bytes_eq r.mark k) (Some n) None))
    (sym (length-take-le i rs (omega arith))) in
    record {
      own = own_more rs i r within c.index-rows-place.is c.loop-place.invariant.own
          (held_without_mark_place (take i rs) r.mark (is_none (mark_place (take i rs) r.mark) looked));
      found = subst (IsIndexOf c.put_place.new.index) (sym (front_is rs i r within c.index-rows-place.is))
          (index_pushed (λ (x : Record). x.mark) old c.put_place.new.index (take i rs) r c.loop-place.invariant.found
          put);
    }
