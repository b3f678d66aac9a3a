use Rattle.std.proofs.Common.{◌≡◌, ◌∙◌, sym, ap, subst, List, ℕ, cond, Some, None, length}
use Rattle.std.specs.Option.{option_or}
use Rattle.std.specs.Str.{bytes_eq}
use Rattle.std.specs.HashMap.{get_by_text}
use Rattle.std.proofs.lemmas.Result.{on_ok_weaker}
use Rattle.treasury_state.specs.declared.record.Record.{Record}
use Rattle.treasury_state.specs.Index.{IsIndexOf}
use Rattle.treasury_state.proofs.IndexLemmas.{index_pushed}
use Rattle.treasury_state.proofs.index.push_marked.Goals as goal

pub returns-in-Ok-clause-found : goal.returns-in-Ok-clause-found
returns-in-Ok-clause-found c =
    let old = c.args.index.now in
    let rs = c.args.records.now in
    let put : (k : List ℕ) → get_by_text c.put_place.new.index k
    ≡ option_or (get_by_text old k) (cond (bytes_eq c.args.row.mark k) (Some (length rs)) None) = λ k.
    c.in-Ok.ensures.put k
    ∙ ap (λ (m : List ℕ). option_or (get_by_text old k)
    (cond (bytes_eq m k) (Some (length c.items-place.result.now)) None)) c.as_str.ensures
    ∙ ap (λ (xs : List Record). option_or (get_by_text old k)
    (cond (bytes_eq c.args.row.mark k) (Some (length xs)) None)) c.items-place.ensures in
    on_ok_weaker c.push.result
    (λ e. subst (IsIndexOf c.put_place.new.index) (sym e)
    (index_pushed (λ (r : Record). r.mark) old c.put_place.new.index rs c.args.row c.requires put))
    c.push.ensures.ok
