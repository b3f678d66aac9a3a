use Rattle.std.proofs.Common.{◌≡◌, ◌++◌, drop, take}
use Rattle.treasury_core.specs.Step.{unbalanced, records_from, records_in_file}
use Rattle.treasury_core.specs.Counted.{AreCounted}
use Rattle.treasury_core.proofs.FileLemmas.{txns_of}
use Rattle.treasury_core.proofs.file.records_in_file.Given as goal

-- the rows so far, and those of the rest after the transactions so far, are those of the file
abbrev pub invariant-loop-located : goal.invariant-loop-located
invariant-loop-located l = record {
  all : l.rows.items ++ records_from l.styles (txns_of (take l.located-index l.file)) (drop l.located-index l.file)
      ≡ records_in_file l.styles l.file;
  balanced : unbalanced l.styles (drop l.located-index l.file) ≡ unbalanced l.styles l.file;
  counted : AreCounted l.styles l.counts (txns_of (take l.located-index l.file));
}
