use Rattle.std.proofs.Common.{◌≡◌, ◌∙◌, ap, sym, Bool, Some, Option}
use Rattle.treasury_core.proofs.TransferReplyLemmas.{so_rest_none, so_rest_some}
use Rattle.treasury_core.proofs.receive.rest_so.Goals as goal

pub returns-in-None : goal.returns-in-None
returns-in-None c =
    sym (so_rest_none c.args.transfer.now c.args.receive.now c.requires.parts c.requires.whole c.in-None.is)

pub returns-in-Some : goal.returns-in-Some
returns-in-Some c =
    ap (λ (b : Bool). let o : Option Bool = Some b in o) c.is_rest_so.ensures ∙ sym
    (so_rest_some c.args.transfer.now c.args.receive.now c.in-Some.receipt c.requires.parts c.requires.whole
    c.in-Some.is)
