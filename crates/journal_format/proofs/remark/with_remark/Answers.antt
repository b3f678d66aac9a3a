use Rattle.std.proofs.Common.{arith, ◌∙◌, ◌<◌, ap, length, List}
use Rattle.std.proofs.lemmas.Grind.{common_steps}
use Rattle.journal_format.specs.declared.posting.Posting.{Posting}
use Rattle.journal_format.proofs.SizeLemmas.{remark_grows}
use Rattle.journal_format.proofs.remark.with_remark.Goals as goal

pub returns-clause-grown : goal.returns-clause-grown
returns-clause-grown c styles =
    let same = ap (λ (ps : List Posting). length ps) c.items.ensures in
    let some : 0 < length c.args.txn.postings = grind (arith, common_steps) in
    omega (
      arith,
      remark_grows styles c.in_ok-postings.postings c.args.txn.postings c.in_ok-text.text
          c.in-Some.comment.now c.in_ok-postings.ensures (c.in_ok-text.ensures.equal ∙ c.text_of.ensures) some,
      c.remark_size.ensures.size,
    )
