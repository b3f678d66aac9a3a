use Rattle.std.proofs.Common.{◌≡◌, drop}
use Rattle.import_notes.specs.FarDays.{span_from, span_of}
use Rattle.import_notes.proofs.days.span_of.Given as goal

-- those so far, and with those of the rest
abbrev pub invariant-loop-record : goal.invariant-loop-record
invariant-loop-record l = span_from l.span (drop l.record-index l.records) ≡ span_of l.records
