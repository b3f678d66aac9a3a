use Rattle.std.proofs.Common.{take, drop}
use Rattle.std.specs.Prelude.{◌↔◌}
use Rattle.std.specs.List.{AllByRecursion}
use Rattle.treasury_state.specs.Federation.{Branch}
use Rattle.treasury_state.specs.Good.{IsGoodBranch, IsGoodRecord, IsCarried}
use Rattle.treasury_rows.specs.Judged.{AreJudged}
use Rattle.treasury_rows.proofs.judging.judged_branches.Given as goal

abbrev pub invariant-loop-branch : goal.invariant-loop-branch
invariant-loop-branch g l = record {
  good : AllByRecursion (λ (b : Branch). IsGoodBranch l.styles b × IsCarried l.transfers b)
      (drop l.branch-index l.branches)
      ↔ AllByRecursion (λ (b : Branch). IsGoodBranch l.styles b × IsCarried l.transfers b) l.branches;
  records : AllByRecursion (λ (b : Branch). AllByRecursion (IsGoodRecord l.styles) b.records)
      (drop l.branch-index l.branches);
  judged : AreJudged g.L.Ledger.book (take l.branch-index l.branches) l.list.items;
}
