use Rattle.std.proofs.Common.{◌≡◌, ◌+◌, ◌++◌, drop, map}
use Rattle.std.specs.Borrow.{Bor}
use Rattle.treasury_state.specs.declared.record.Record.{Record}
use Rattle.treasury_reasons.specs.Failure.{touching}
use Rattle.treasury_reasons.proofs.touching.find_touching.Given as goal

-- those that are found, and those among the rest, are all
abbrev pub invariant-loop-row : goal.invariant-loop-row
invariant-loop-row l = record {
  all : map (λ (r : Bor Record). r.now) l.found.items ++ touching l.watched l.end l.number (drop l.row-index l.new)
      ≡ touching l.watched l.end l.first l.new;
  numbered : l.number ≡ l.first + l.row-index;
}
