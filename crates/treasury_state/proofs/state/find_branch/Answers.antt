use Rattle.std.proofs.Common.{◌≡◌, ◌∙◌, sym, ap, Option, Some, None}
use Rattle.std.specs.Prelude.{option_copied, option_map, MatchOption}
use Rattle.std.specs.List.{slice_get}
use Rattle.std.proofs.lemmas.Option.{slice_get-map}
use denote.Ref.{Bor}
use Rattle.treasury_state.specs.declared.state.Branch.{Branch as Kept}
use Rattle.treasury_state.specs.Federation.{Federation, Branch, branch_at}
use Rattle.treasury_state.specs.Seen.{branch_of, branches_of}
use Rattle.treasury_state.proofs.IndexLemmas.{found_branch, absent_branch, copied_get}
use Rattle.treasury_state.proofs.state.find_branch.Goals as goal

pub returns-in-None-clause-found : goal.returns-in-None-clause-found
returns-in-None-clause-found g c =
    let bs = branches_of c.state.inside.branches.items in
    ap (λ (f : Federation). branch_at f.branches c.args.name.now) (sym c.state.view_is)
    ∙ absent_branch bs c.args.name.now (sym (c.in-None.ensures.value ∙ c.state.invariant.1 c.args.name.now))

matched : {L : Type 0} (o : Option (Bor (Kept L))) (q : Option Branch) → q ≡ option_map branch_of (option_copied o)
    → MatchOption o (q ≡ None) (λ b. q ≡ Some (branch_of b.now))
matched None q e = e
matched (Some b) q e = e

pub returns-in-Some-clause-found : goal.returns-in-Some-clause-found
returns-in-Some-clause-found g c =
    let xs = c.state.inside.branches.items in
    let i = c.in-Some.place.now in
    let at : branch_at (branches_of xs) c.args.name.now ≡ option_map branch_of (slice_get xs i) =
    found_branch (branches_of xs) c.args.name.now i
    (sym (c.in-Some.ensures.value ∙ c.state.invariant.1 c.args.name.now)) ∙ slice_get-map branch_of xs i in
    matched c.get-in-Some.result _
    (ap (λ (f : Federation). branch_at f.branches c.args.name.now) (sym c.state.view_is) ∙ at
    ∙ ap (λ ys. option_map branch_of (slice_get ys i)) (sym c.deref.ensures.value)
    ∙ ap (option_map branch_of) (sym
    (copied_get c.get-in-Some.result c.deref.result.now i c.get-in-Some.ensures.lookup.0
    c.get-in-Some.ensures.lookup.1)))
