-- Postings with a day of their own (hledger manual, "Posting dates"; own rule: docs/RULES.md, "Notes").
use Rattle.std.specs.Prelude.{ℕ, nat_lt, Bool, false, List, [], ◌∷◌, drop, find, slice_get, codes, decimal}
use Rattle.std.specs.Prelude.{Option, Some, None}
use Rattle.std.specs.List.{list_any, filter, take_while, position_or_len}
use Rattle.std.specs.Str.{bytes_eq}
use Rattle.journal_lines.specs.Comment.{comment_of}
use Rattle.journal_lines.specs.LineKind.{kind_of}
use Rattle.journal_lines.specs.Lines.{numbered}
use Rattle.journal_lines.specs.Tag.{tags_of}
use Rattle.journal_format.specs.declared.posting.Posting.{Posting}
use Rattle.treasury_state.specs.declared.record.Record.{Record}
use Rattle.journal_hints.specs.OddAmount.{is_inner, is_posting_line}
use Rattle.treasury_messages.specs.declared.kind.MessageKind.TheVariants as is
use Rattle.treasury_messages.specs.Pieces.{shown_day}
use Rattle.treasury_messages.specs.Said.{Said, says}

-- a comment has the tag `date`
abbrev pub has_date : List ℕ → Bool
has_date comment = list_any (λ (t : List ℕ × List ℕ). bytes_eq t.0 (codes "date")) (tags_of comment)

-- a comment of a posting of the record's transaction has it
abbrev pub is_dated : Record → Bool
is_dated r = list_any (λ (p : Posting). list_any has_date p.comments) r.txn.postings

-- the comment of a line has it
abbrev pub has_date_if_any : Option (List ℕ) → Bool
has_date_if_any None = false
has_date_if_any (Some comment) = has_date comment

abbrev pub is_dated_line : ℕ × List ℕ → Bool
is_dated_line l = has_date_if_any (comment_of l.1)

-- the lines after that of a header, as far as they are indented
abbrev pub lines_behind : ℕ → List (ℕ × List ℕ) → List (ℕ × List ℕ)
lines_behind header ls =
    take_while (λ (l : ℕ × List ℕ). is_inner (kind_of l.1)) (filter (λ (l : ℕ × List ℕ). nat_lt header l.0) ls)

-- those from the first posting on
abbrev pub from_posting : List (ℕ × List ℕ) → List (ℕ × List ℕ)
from_posting ls = drop (position_or_len (λ (l : ℕ × List ℕ). is_posting_line l.1) ls) ls

-- the number of a line, or that of the header
abbrev pub line_or : ℕ → Option (ℕ × List ℕ) → ℕ
line_or header None = header
line_or header (Some l) = l.0

-- where the first tag stands on a posting of the transaction with that header
unfoldable pub dated_line : ℕ → List ℕ → ℕ
dated_line header text =
    line_or header (find is_dated_line (from_posting (lines_behind header (numbered 1 text))))

-- what is said of that tag of a record, if its header is found: where it stands, and which day the posting has
abbrev pub date_said_of : List ℕ → List ℕ → Option Record → Option ℕ → List Said
date_said_of source text None header = []
date_said_of source text (Some r) None = []
date_said_of source text (Some r) (Some header) =
    says is.DatedPosting (source ∷ decimal (dated_line header text) ∷ shown_day r.entry.day ∷ []) ∷ []

-- the same of the new record at a place, where the headers of the new ones stand on these lines
abbrev pub date_note_at : List ℕ → List ℕ → List Record → List ℕ → ℕ → List Said
date_note_at source text new lines place = date_said_of source text (slice_get new place) (slice_get lines place)
