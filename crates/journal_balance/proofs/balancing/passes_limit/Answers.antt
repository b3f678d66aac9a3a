use Rattle.std.proofs.Common.{◌≡◌, ◌+◌, ◌||◌, Bool, ap, sym, ◌∙◌, drop}
use Rattle.std.specs.List.{list_any}
use Rattle.journal_balance.specs.Legs.{legs_among, is_large}
use Rattle.journal_balance.proofs.SumLemmas.{large-drop}
use Rattle.journal_balance.proofs.balancing.passes_limit.Goals as goal

pub postings-preserved : goal.postings-preserved
postings-preserved c =
    let s = c.args.styles.now in
    let ps = c.args.postings.now in
    let i = c.postings.posting-index in
    let rest : Bool = list_any is_large (legs_among s ps (drop (i + 1) ps)) in
    let first = sym c.takes_too_much.ensures ∙ c.if-takes_too_much.false in
    sym (large-drop s ps ps i c.posting-item.result c.postings-test.true c.posting-item.is ∙ ap
    (λ (b : Bool). b || rest) first) ∙ c.postings.invariant

pub returns-then-takes_too_much : goal.returns-then-takes_too_much
returns-then-takes_too_much c =
    let s = c.args.styles.now in
    let ps = c.args.postings.now in
    let i = c.postings.posting-index in
    let rest : Bool = list_any is_large (legs_among s ps (drop (i + 1) ps)) in
    let first = sym c.takes_too_much.ensures ∙ c.if-takes_too_much.true in
    sym (large-drop s ps ps i c.posting-item.result c.postings-test.true c.posting-item.is ∙ ap
    (λ (b : Bool). b || rest) first) ∙ c.postings.invariant
