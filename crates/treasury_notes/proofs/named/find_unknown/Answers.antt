use Rattle.std.proofs.Common.{map, rules}
use Rattle.treasury_notes.specs.NamedAccount.{unknown_accounts}
use Rattle.treasury_notes.proofs.NamedAccountLemmas.{first_cut, no_cut, unknown_next, unknown_last}
use Rattle.treasury_notes.proofs.named.find_unknown.Goals as goal

pub names-preserved : goal.names-preserved
names-preserved c =
    let cut = first_cut c.names.rest.now c.split_once.result (c.in-Some.name, c.in-Some.more)
    c.split_once.ensures.cases c.in-Some.is in (
      search rules,
      unknown_next c.args.held.now (map (λ name. name.now) c.names.found.items)
          (map (λ name. name.now) c.put_unknown.new.found.items) (unknown_accounts c.args.held.now c.args.list.now)
          c.names.rest.now c.in-Some.name.now c.in-Some.more.now cut c.in_ok-put_unknown.ensures
          c.names.invariant.1,
    )

pub returns : goal.returns
returns c =
    unknown_last c.args.held.now (map (λ name. name.now) c.names.found.items)
    (map (λ name. name.now) c.put_unknown-2.new.found.items) (unknown_accounts c.args.held.now c.args.list.now)
    c.names.rest.now (no_cut c.names.rest.now c.split_once.result c.split_once.ensures.cases c.in_default.is)
    c.in_ok-put_unknown-2.ensures c.names.invariant.1
