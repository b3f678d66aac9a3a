-- Mirrors code: the parts that were cut, without where they lie in memory.
use Rattle.std.specs.Option.{option_map}
use Rattle.journal_lines.specs.declared.header.HeaderCut as cut
use Rattle.journal_lines.specs.declared.header.Coded as coded
use Rattle.journal_lines.specs.HeaderReading.{Coded, HeaderCut}

-- a code that was cut, and what follows it
abbrev pub coded_view : coded.Coded → Coded
coded_view c = record { code = option_map (λ t. t.now) c.code; rest = c.rest.now }

-- the parts that were cut
abbrev pub header_cut_view : cut.HeaderCut → HeaderCut
header_cut_view c = record {
  date = c.date.now;
  status = c.status;
  coded = option_map coded_view c.coded;
  comment = option_map (λ t. t.now) c.comment;
}
