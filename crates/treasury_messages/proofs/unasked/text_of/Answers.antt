use Rattle.treasury_messages.proofs.PrintedLemmas.{first_text}
use Rattle.treasury_messages.proofs.unasked.text_of.Goals as goal

pub returns : goal.returns
returns c =
    first_text c.push_messages.result c.args.messages.now c.new-text.result.items c.push_messages.new.out.items
    c.new-text.ensures.items c.push_messages.ensures.ok c.push_messages.ensures.err
