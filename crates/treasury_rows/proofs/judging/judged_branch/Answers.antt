use Rattle.std.proofs.Common.{◌∙◌, ap, sym, subst, List}
use Rattle.std.specs.List.{AllByRecursion}
use Rattle.book_core.specs.GoodBook.{IsFit}
use Rattle.journal_lines.specs.Date.{IsDayNumber}
use Rattle.treasury_state.specs.declared.record.Record.{Record}
use Rattle.treasury_state.specs.Federation.{Branch, entries}
use Rattle.treasury_state.proofs.RecordLemmas.{fit_records, day_records}
use Rattle.treasury_rows.proofs.judging.judged_branch.Goals as goal

pub good_ledger-requires : goal.good_ledger-requires
good_ledger-requires g c =
    subst (λ (rs : List Record). AllByRecursion IsFit (entries rs))
    (sym (c.items-rows.ensures ∙ ap (λ (x : Branch). x.records) c.branch.view_is))
    (fit_records c.args.styles.now c.args.branch.now.records c.requires.records)

pub are_closings-requires : goal.are_closings-requires
are_closings-requires g c =
    subst (λ (rs : List Record). AllByRecursion (λ (r : Record). IsDayNumber r.entry.day) rs)
    (sym (c.items-rows.ensures ∙ ap (λ (x : Branch). x.records) c.branch.view_is))
    (day_records c.args.styles.now c.args.branch.now.records c.requires.records)
