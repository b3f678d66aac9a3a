-- Mirrors code: how `read_header` cuts and judges a line. The rule is `Reads` of `HeaderForm`, and `HeaderFaults`.
use Rattle.std.specs.Prelude.{ℕ, ◌==◌, nat_lt, List, length, drop, slice_index, Bool, false, ◌||◌, if◌then◌else◌}
use Rattle.std.specs.Prelude.{Option, Some, None, Result, Ok, Err}
use Rattle.std.specs.List.{position_or_len, before_first, after_first}
use Rattle.money_core.specs.declared.day.Day.{Day}
use Rattle.money_core.specs.declared.cause.Cause.{Cause}
use Rattle.money_core.specs.declared.cause.Cause.TheVariants.{TooLong, Date as NoDate, Header as CodeIsOpen}
use Rattle.journal_lines.specs.declared.header.Status.{Status}
use Rattle.journal_lines.specs.Blank.{is_blank, first_word, trim_start, trim_end}
use Rattle.journal_lines.specs.Comment.{front_of, comment_of}
use Rattle.journal_lines.specs.DateReading.{date_of}
use Rattle.journal_lines.specs.Header.{code_limit, description_limit, comment_limit, HeaderParts, length_of, status_at}
use Rattle.journal_lines.specs.Header.{behind_status}

-- a code, if there is one, and what follows it
pub record Coded : Type 0 where
  pub code : Option (List ℕ)
  pub rest : List ℕ

-- a code up to the first `)`, and what follows it without blanks between; none where there is no `)`
abbrev pub closed_code : List ℕ → Option Coded
closed_code text =
    if nat_lt (position_or_len (λ b. b == 41) text) (length text)
    then Some (record {
      code = Some (before_first (λ b. b == 41) text);
      rest = trim_start (after_first (λ b. b == 41) text);
    })
    else None

-- the code at the front, from `(` on, and what follows it; all where there is no `(`
unfoldable pub code_at : List ℕ → Option Coded
code_at text =
    if slice_index text 0 == 40 then closed_code (drop 1 text) else Some (record { code = None; rest = text })

-- the parts of a header, cut by characters alone
pub record HeaderCut : Type 0 where
  pub date : List ℕ
  pub status : Option Status
  pub coded : Option Coded
  pub comment : Option (List ℕ)

-- what follows the text up to the first blank, without blanks between
unfoldable pub behind_date : List ℕ → List ℕ
behind_date front = trim_start (drop (position_or_len is_blank front) front)

-- how a line is cut
unfoldable pub cut_header : List ℕ → HeaderCut
cut_header line = record {
  date = first_word (front_of line);
  status = status_at (behind_date (front_of line));
  coded = code_at (behind_status (behind_date (front_of line)));
  comment = comment_of line;
}

-- the code or the description has too many bytes
abbrev pub is_coded_long : Option Coded → Bool
is_coded_long None = false
is_coded_long (Some coded) =
    nat_lt code_limit (length_of coded.code) || nat_lt description_limit (length (trim_end coded.rest))

-- a part has too many bytes
abbrev pub is_cut_long : HeaderCut → Bool
is_cut_long cut = is_coded_long cut.coded || nat_lt comment_limit (length_of cut.comment)

-- the parts of a header with its day
abbrev pub closed_header : HeaderCut → Day → Option Coded → Result HeaderParts Cause
closed_header cut day None = Err CodeIsOpen
closed_header cut day (Some coded) =
    Ok (record {
      day = day;
      status = cut.status;
      code = coded.code;
      description = trim_end coded.rest;
      comment = cut.comment;
    })

-- the parts of a header, if it has a day
abbrev pub dated_header : HeaderCut → Option Day → Result HeaderParts Cause
dated_header cut None = Err NoDate
dated_header cut (Some day) = closed_header cut day cut.coded

-- the parts of a header, or its first fault: a limit, then the date, then the code
unfoldable pub judged_header : HeaderCut → Result HeaderParts Cause
judged_header cut = if is_cut_long cut then Err TooLong else dated_header cut (date_of cut.date)

-- the parts of a header line, or its first fault
abbrev pub header_of : List ℕ → Result HeaderParts Cause
header_of line = judged_header (cut_header line)
