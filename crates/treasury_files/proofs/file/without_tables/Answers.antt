use Rattle.std.proofs.Common.{arith}
use Rattle.treasury_files.proofs.file.without_tables.Goals as goal

pub returns-clause-left : goal.returns-clause-left
returns-clause-left g c = (
  c.unopened_tables-why.new.conn,
  record {
    same = c.unopened_tables-why.ensures.same;
    clean = λ clean.
        omega (arith, c.unopened_tables-why.ensures.clean, clean);
  },
  c.left_refused.ensures,
)
