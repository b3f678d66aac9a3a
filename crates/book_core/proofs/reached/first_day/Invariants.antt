use Rattle.std.proofs.Common.{take, ◌≤ℤ◌}
use Rattle.std.specs.List.{AllByRecursion}
use Rattle.book_core.specs.declared.entry.Entry.{Entry}
use Rattle.book_core.proofs.reached.first_day.Given as goal

abbrev pub invariant-loop-entry : goal.invariant-loop-entry
invariant-loop-entry l = AllByRecursion (λ (e : Entry). l.first.0 ≤ℤ e.day.0) (take l.entry-index l.entries)
