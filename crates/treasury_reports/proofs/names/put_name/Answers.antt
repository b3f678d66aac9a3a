use Rattle.book_core.proofs.AccountListLemmas.{put_name, not_there}
use Rattle.treasury_reports.proofs.names.put_name.Goals as goal

pub returns-clause-sorted : goal.returns-clause-sorted
returns-clause-sorted c =
    let names = c.args.names.now.items in
    let name = c.args.name in
    let other = not_there names c.deref.result.now name c.as_str.result.now c.has_name.result c.deref.ensures.value
    c.as_str.ensures c.has_name.ensures.1 c.if-has_name.false in
    let both = put_name names c.deref-2.result.now c.insert.new.self.items name c.as_str-2.result.now
    c.count_before-at.result c.deref-2.ensures.value c.as_str-2.ensures
    c.requires c.count_before-at.ensures.bound c.count_before-at.ensures.before c.count_before-at.ensures.after other
    c.in-Ok.ensures.items in
    both.0

pub returns-clause-exact : goal.returns-clause-exact
returns-clause-exact c =
    let names = c.args.names.now.items in
    let name = c.args.name in
    let other = not_there names c.deref.result.now name c.as_str.result.now c.has_name.result c.deref.ensures.value
    c.as_str.ensures c.has_name.ensures.1 c.if-has_name.false in
    let both = put_name names c.deref-2.result.now c.insert.new.self.items name c.as_str-2.result.now
    c.count_before-at.result c.deref-2.ensures.value c.as_str-2.ensures
    c.requires c.count_before-at.ensures.bound c.count_before-at.ensures.before c.count_before-at.ensures.after other
    c.in-Ok.ensures.items in
    both.1
