use Rattle.std.proofs.Common.{◌≡◌, ◌++◌, [], length, take, drop}
use Rattle.treasury_reports.specs.RegisterReport.{summed_behind, rows_since}
use Rattle.treasury_reports.specs.Written.{rows_in}
use Rattle.treasury_reports.specs.Lent.{AreSumsOfListed}
use Rattle.treasury_reports.proofs.register.rows_of.Given as goal

abbrev pub invariant-lines : goal.invariant-lines
invariant-lines l = record {
  wide : length l.sums.items ≡ length l.styles;
  sums : AreSumsOfListed l.styles l.sums.items (take l.one-index l.all);
  rows : l.rows.items ++ rows_in l.layout (rows_since l.styles l.from
      (summed_behind (take l.one-index l.all) (drop l.one-index l.all)))
      ≡ rows_in l.layout (rows_since l.styles l.from (summed_behind [] l.all));
}
