use Rattle.std.proofs.Common.{◌≡◌, ◌∙◌, sym, ap, subst, ℕ, List, length, Some, None, cond}
use Rattle.std.specs.Option.{option_or}
use Rattle.std.specs.Str.{bytes_eq}
use Rattle.std.specs.HashMap.{get_by_text}
use Rattle.std.proofs.lemmas.List.{length-map, map-append}
use Rattle.treasury_state.specs.Federation.{Branch}
use Rattle.treasury_state.specs.Seen.{branch_of, branches_of}
use Rattle.treasury_state.specs.Kept.{ArePlacesOf}
use Rattle.treasury_state.proofs.IndexLemmas.{index_pushed}
use Rattle.treasury_state.proofs.applying.apply_branch.Goals as goal

pub returns-clause-places : goal.returns-clause-places
returns-clause-places g c =
    let places = c.args.places.now in
    let bs = c.args.branches.now.items in
    let put : (k : List ℕ) → get_by_text c.put_place.new.index k
    ≡ option_or (get_by_text places k) (cond (bytes_eq c.args.name k) (Some (length (branches_of bs))) None) = λ k.
    c.in_ok-put_place.ensures.put k
    ∙ ap (λ (m : List ℕ). option_or (get_by_text places k) (cond (bytes_eq m k) (Some c.len.result) None))
    c.as_str.ensures
    ∙ ap (λ (n : ℕ). option_or (get_by_text places k) (cond (bytes_eq c.args.name k) (Some n) None))
    (c.len.ensures ∙ c.args.branches.now.ok.0 ∙ sym (length-map bs branch_of)) in
    subst (ArePlacesOf c.put_place.new.index)
    (sym (ap branches_of c.in_ok-push.ensures.items ∙ map-append branch_of bs _))
    (index_pushed (λ (b : Branch). b.name) places c.put_place.new.index (branches_of bs) _ c.requires.places put)
