use Rattle.std.proofs.Common.{rules, ◌≡◌, subst, sym}
use Rattle.treasury_state.specs.Federation.{Federation}
use Rattle.treasury_store.specs.Store.{IsOf}
use Rattle.treasury_store.proofs.TreasuryLemmas.{decided_joins}
use Rattle.treasury_tests.proofs.store.commits.perform.Goals as goal

pub commit-requires : goal.commit-requires
commit-requires g c = (
  c.args.now,
  c.requires.numbers,
  decided_joins c.args.now c.args.command.now c.in-Ok.field-0-0 c.in-Ok.delta c.in-Ok.ensures.decides.1
      c.in-Ok.ensures.good,
)

pub returns : goal.returns
returns g c =
    let joins = decided_joins c.args.now c.args.command.now c.in-Ok.field-0-0 c.in-Ok.delta c.in-Ok.ensures.decides.1
    c.in-Ok.ensures.good in
    let of = c.in-Ok-commit.ensures.ok c.args.now c.requires joins in
    let same : c.expect.result ≡ _ = search rules in
    subst (λ (s : Federation). IsOf g.S.Store c.commit.new.self s) (sym same) of
