use Rattle.std.proofs.Common.{◌∙◌, ap}
use Rattle.std.proofs.lemmas.List.Sums.{AllPass-from_list_all}
use Rattle.money_core.proofs.PrintedLemmas.{on_err}
use Rattle.money_core.proofs.Appends.{kept_behind}
use Rattle.journal_format.specs.Printable.{is_posting}
use Rattle.journal_format.proofs.PrintingLemmas.{posting_value}
use Rattle.journal_format.proofs.printing.push_postings.Goals as goal

pub push_posting-requires : goal.push_posting-requires
push_posting-requires c =
    let styles = c.args.styles.now in
    let item = c.posting-item.result in
    let good = AllPass-from_list_all (is_posting styles) c.args.postings.now c.requires c.postings.posting-index item
    c.postings-test.true in
    posting_value styles item (ap (is_posting styles) c.posting-item.is ∙ good)

pub returns-in_err-push_posting-clause-err : goal.returns-in_err-push_posting-clause-err
returns-in_err-push_posting-clause-err c =
    on_err _ _ (kept_behind c.args.out.now.items c.postings.out.items c.push_posting.new.out.items _
    c.postings.invariant c.in_err-push_posting.ensures.err)
