use Rattle.std.proofs.Common.{◌≡◌, ◌++◌}
use Rattle.std.specs.List.{AllByRecursion}
use Rattle.treasury_state.specs.Mark.{HaveOwnMarks}
use Rattle.treasury_state.specs.Good.{IsGoodRecord}
use Rattle.treasury_state.specs.Index.{IsIndexOf}
use Rattle.treasury_core.specs.Step.{new_in}
use Rattle.treasury_core.proofs.JudgedLemmas.{IsReached}
use Rattle.treasury_core.proofs.enter.new_of.Given as goal

-- those before the place are taken; after the old records and the new ones so far, the rest is taken as all is after
-- the old ones
abbrev pub invariant-rows : goal.invariant-rows
invariant-rows l = record {
  reached : IsReached l.styles l.lock l.base l.fn.rows l.new l.row-iterator.rest.items l.passed;
  all : l.new ++ new_in (l.base ++ l.new) l.row-iterator.rest.items ≡ new_in l.base l.fn.rows;
  found : IsIndexOf l.marks l.new;
  own : HaveOwnMarks (l.base ++ l.new);
  held : AllByRecursion (IsGoodRecord l.styles) (l.base ++ l.new);
  rest : AllByRecursion (IsGoodRecord l.styles) l.row-iterator.rest.items;
}
