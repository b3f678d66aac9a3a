use Rattle.std.proofs.Common.{drop}
use Rattle.std.specs.Prelude.{◌↔◌}
use Rattle.std.specs.List.{AllByRecursion}
use Rattle.journal_format.specs.declared.txn.Located.{Located}
use Rattle.journal_format.specs.Printable.{IsPrintable}
use Rattle.treasury_core.proofs.command.are_printable.Given as goal

abbrev pub invariant-loop-located : goal.invariant-loop-located
invariant-loop-located l =
    AllByRecursion (λ (x : Located). IsPrintable l.styles x.txn) (drop l.located-index l.file)
    ↔ AllByRecursion (λ (x : Located). IsPrintable l.styles x.txn) l.file
