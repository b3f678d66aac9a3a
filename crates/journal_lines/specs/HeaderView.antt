-- The parts of a header without where they lie in memory.
use Rattle.std.specs.Prelude.{ℕ, List, Option, Result, Ok, Err}
use Rattle.std.specs.Borrow.{Bor}
use Rattle.std.specs.Option.{option_map}
use Rattle.money_core.specs.declared.cause.Cause.{Cause}
use Rattle.journal_lines.specs.declared.header.Header as read
use Rattle.journal_lines.specs.Header.{HeaderParts}

-- a text, if there is one
abbrev pub text_of : Option (Bor (List ℕ)) → Option (List ℕ)
text_of text = option_map (λ t. t.now) text

-- the parts of a header
abbrev pub parts_of : read.Header → HeaderParts
parts_of h = record {
  day = h.day;
  status = h.status;
  code = text_of h.code;
  description = h.description.now;
  comment = text_of h.comment;
}

-- what reading a header answered
abbrev pub read_parts : Result read.Header Cause → Result HeaderParts Cause
read_parts (Ok h) = Ok (parts_of h)
read_parts (Err e) = Err e
