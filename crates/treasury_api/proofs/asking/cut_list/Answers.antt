use Rattle.std.proofs.Common.{◌≡◌, ◌∙◌, rules}
use Rattle.treasury_api.specs.Asked.{cut_list}
use Rattle.treasury_api.proofs.ListLemmas.{some_cut, none_cut, next_cut, last_cut}
use Rattle.treasury_api.proofs.asking.cut_list.Goals as goal

pub names-preserved : goal.names-preserved
names-preserved c =
    let cut = some_cut c.names.rest.now c.split_once.result (c.in-Some.name, c.in-Some.more) c.split_once.ensures.cases
    c.in-Some.is in (
      search rules,
      next_cut c.names.names c.push.new.self (cut_list c.args.text.now) c.names.rest.now c.in_ok-name.name
          c.in-Some.more.now cut.0 (c.in_ok-name.ensures.equal ∙ cut.1.0) cut.1.1 c.names.invariant.1
          c.in_ok-push.ensures.ok,
    )

pub returns-clause-value : goal.returns-clause-value
returns-clause-value c =
    last_cut c.names.names c.push-2.new.self (cut_list c.args.text.now) c.names.rest.now c.in_ok-last.last
    (none_cut c.names.rest.now c.split_once.result c.split_once.ensures.cases c.in_default.is)
    c.in_ok-last.ensures.equal c.names.invariant.1 c.in_ok-push-2.ensures.ok
