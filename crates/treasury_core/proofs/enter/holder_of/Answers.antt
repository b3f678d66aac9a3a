use Rattle.std.proofs.Common.{sym, ◌∙◌, ap, Option}
use Rattle.std.specs.Option.{option_or}
use Rattle.std.proofs.lemmas.List.Folds.{find-append}
use Rattle.treasury_state.specs.declared.record.Record.{Record}
use Rattle.treasury_state.specs.Mark.{held, has_mark}
use Rattle.treasury_core.proofs.enter.holder_of.Goals as goal

pub returns-in-Some : goal.returns-in-Some
returns-in-Some c =
    sym (find-append (has_mark c.args.mark.now) c.args.base.now c.args.new.now ∙ ap
    (λ (o : Option Record). option_or o (held c.args.new.now c.args.mark.now)) (sym c.in-Some.ensures))

pub returns-in-None : goal.returns-in-None
returns-in-None c =
    c.find_mark-in-None.ensures ∙ sym
    (find-append (has_mark c.args.mark.now) c.args.base.now c.args.new.now ∙ ap
    (λ (o : Option Record). option_or o (held c.args.new.now c.args.mark.now)) (sym c.in-None.ensures))
