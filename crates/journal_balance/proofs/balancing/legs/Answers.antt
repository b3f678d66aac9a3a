use Rattle.std.proofs.Common.{ap, sym, ◌∙◌, List}
use Rattle.std.specs.List.{list_any}
use Rattle.journal_format.specs.declared.posting.Posting.{Posting}
use Rattle.journal_balance.specs.Legs.{is_large, legs_among}
use Rattle.journal_balance.proofs.FaultLemmas.{no_fault}
use Rattle.journal_balance.proofs.balancing.legs.Goals as goal

pub entered-requires-clause-room : goal.entered-requires-clause-room
entered-requires-clause-room c =
    let s = c.args.styles.now in
    ap (λ (ps : List Posting). list_any is_large (legs_among s ps ps)) c.items.ensures
    ∙ (no_fault s c.args.txn.now (sym c.balancing_fault.ensures ∙ c.in_default.is)).small
