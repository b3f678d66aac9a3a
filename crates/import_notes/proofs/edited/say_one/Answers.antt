use Rattle.std.proofs.Common.{◌++◌, ◌∷◌, [], ◌∙◌, ap, append-nil}
use Rattle.std.specs.Prelude.{decimal}
use Rattle.std.proofs.lemmas.Result.{on_ok_weaker}
use Rattle.treasury_messages.specs.Pieces.{header_values}
use Rattle.treasury_messages.specs.Said.{says}
use Rattle.import_notes.proofs.edited.say_one.Goals as goal

pub returns : goal.returns
returns c =
    let out = c.args.out.now.items in
    let source = c.args.import.now.source.now in
    let new = header_values c.args.new.now.txn in
    let held = header_values c.args.held.now.txn in
    on_ok_weaker c.say.result
    (λ e. e
    ∙ ap (λ vs. out ++ says c.kind_of-kind.result.0 (source ∷ decimal c.args.line ∷ new
    ++ (decimal c.args.number ∷ vs)) ∷ []) (append-nil held)
    ∙ ap (λ k. out ++ says k (source ∷ decimal c.args.line ∷ new ++ (decimal c.args.number ∷ held)) ∷ [])
    c.kind_of-kind.ensures)
    c.say.ensures.ok
