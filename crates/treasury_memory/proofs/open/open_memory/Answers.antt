use Rattle.std.proofs.Common.{◌∙◌, sym, rules, IsTrue}
use Rattle.treasury_memory.proofs.CleanLemmas.{memory_is_clean}
use Rattle.treasury_memory.proofs.open.open_memory.Goals as goal

pub returns-clause-empty : goal.returns-clause-empty
returns-clause-empty c =
    let opened = c.in-Ok.ensures.opened (memory_is_clean c.in-Ok.conn) in
    let bare : IsTrue c.is_bare.result = search rules in
    (opened.0, opened.1, sym c.schema.ensures.value ∙ c.is_bare.ensures bare)

pub returns-clause-opened : goal.returns-clause-opened
returns-clause-opened c = c.in-Ok.ensures.opened (memory_is_clean c.in-Ok.conn)

pub returns-clause-clean : goal.returns-clause-clean
returns-clause-clean c = memory_is_clean c.in-Ok.conn
