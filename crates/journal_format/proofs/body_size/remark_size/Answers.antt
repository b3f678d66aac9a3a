use Rattle.std.proofs.Common.{arith}
use Rattle.journal_format.proofs.SizeLemmas.{remark_is, comment_small}
use Rattle.journal_format.proofs.body_size.remark_size.Goals as goal

pub overflow_add-result : goal.overflow_add-result
overflow_add-result c = omega (arith, comment_small c.args.text.now, c.comment_len.ensures)

pub returns : goal.returns
returns c = record {
  size = omega (arith, remark_is c.args.text.now, c.comment_len.ensures);
  bound = omega (arith, comment_small c.args.text.now, c.comment_len.ensures);
}
