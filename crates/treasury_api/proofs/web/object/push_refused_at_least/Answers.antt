use Rattle.treasury_api.proofs.ObjectLemmas.{refused_none, told_in, told_none}
use Rattle.treasury_api.proofs.web.object.push_refused_at_least.Goals as goal

pub returns-in-Err-clause-ok : goal.returns-in-Err-clause-ok
returns-in-Err-clause-ok c =
    refused_none c.push_refused-in-Err.result c.args.line.now c.args.cause c.args.entries c.args.out.now.items
    c.push_refused.new.out.items c.push_refused-in-Err.new.out.items c.in-Err.ensures.err c.requires
    c.push_refused-in-Err.ensures.ok

pub returns-in-Ok-clause-told : goal.returns-in-Ok-clause-told
returns-in-Ok-clause-told c =
    told_in c.args.line.now c.args.cause c.args.told.now c.utf8_of.result.now c.args.entries c.args.out.now.items
    c.push_refused.new.out.items c.requires c.utf8_of.ensures.same c.in-Ok.ensures.ok

pub returns-in-Err-clause-told : goal.returns-in-Err-clause-told
returns-in-Err-clause-told c =
    told_none c.push_refused-in-Err.result c.args.line.now c.args.cause c.args.told.now c.args.entries
    c.args.out.now.items c.push_refused.new.out.items c.push_refused-in-Err.new.out.items c.in-Err.ensures.err
    c.requires c.push_refused-in-Err.ensures.ok
