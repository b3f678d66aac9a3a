use Rattle.std.proofs.Common.{◌∙◌, sym, ap, ℕ, length, Option}
use Rattle.std.specs.Option.{unwrap_or}
use Rattle.std.proofs.lemmas.List.{length-map}
use Rattle.treasury_state.specs.Seen.{branch_of, branches_of}
use Rattle.treasury_state.proofs.IndexLemmas.{place_is}
use Rattle.treasury_state.proofs.applying.place_of.Goals as goal

pub returns-in-Some : goal.returns-in-Some
returns-in-Some g c =
    let bs = branches_of c.args.branches.now in
    ap (λ (o : Option ℕ). unwrap_or o (length bs)) (c.in-Some.ensures.value ∙ c.requires c.args.name.now) ∙ sym
    (place_is bs c.args.name.now)

pub returns-in-None : goal.returns-in-None
returns-in-None g c =
    let bs = branches_of c.args.branches.now in
    sym (length-map c.args.branches.now branch_of)
    ∙ ap (λ (o : Option ℕ). unwrap_or o (length bs)) (c.in-None.ensures.value ∙ c.requires c.args.name.now)
    ∙ sym (place_is bs c.args.name.now)
