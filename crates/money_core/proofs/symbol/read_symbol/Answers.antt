use Rattle.std.proofs.Common.{sym, Some, None}
use Rattle.money_core.proofs.GrammarLemmas.{symbol_answer, whole_utf8}
use Rattle.money_core.proofs.symbol.read_symbol.Goals as goal

pub text_of-requires : goal.text_of-requires
text_of-requires c = whole_utf8 c.in-Some.symbol.now c.args.text.now
    (sym (rw (c.in-Some.is, c.as_bytes.ensures.value) at c.symbol_of.ensures))

pub returns-in-Some-clause-reads : goal.returns-in-Some-clause-reads
returns-in-Some-clause-reads c = λ symbol.
    symbol_answer c.args.text.now (Some c.text_of.result.now)
    (rw c.text_of.ensures (rw (c.in-Some.is, c.as_bytes.ensures.value) at c.symbol_of.ensures)) symbol

pub returns-in-None-clause-reads : goal.returns-in-None-clause-reads
returns-in-None-clause-reads c = λ symbol.
    symbol_answer c.args.text.now None (rw (c.in-None.is, c.as_bytes.ensures.value) at c.symbol_of.ensures) symbol
