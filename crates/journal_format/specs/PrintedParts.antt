-- Mirrors code: the parts of a canonical text one after another, each with the ends of its lines.
use Rattle.std.specs.Prelude.{ℕ, List, [], ◌∷◌, ◌++◌, length, nat_le, Bool, ◌&&◌, Option, Some, None}
use Rattle.std.specs.List.{flat_map, list_all}
use Rattle.money_core.specs.declared.style.Style.{Style}
use Rattle.journal_lines.specs.Printed.{header_line, comment_line}
use Rattle.journal_format.specs.Pieces.{posting_limit}
use Rattle.journal_format.specs.declared.posting.Posting.{Posting}
use Rattle.journal_format.specs.declared.txn.Txn.{Txn}
use Rattle.journal_format.specs.CanonicalText.{posting_line}
use Rattle.journal_format.specs.Mark.{bookid}
use Rattle.journal_format.specs.Printable.{is_mark_or_none, is_note, is_posting}

-- a line with its end
abbrev pub whole_line : List ℕ → List ℕ
whole_line line = line ++ 10 ∷ []

-- a comment below a header
abbrev pub comment_part : List ℕ → List ℕ
comment_part text = whole_line (comment_line text)

-- comments
abbrev pub comments_part : List (List ℕ) → List ℕ
comments_part texts = flat_map comment_part texts

-- a posting and its comments
abbrev pub posting_part : List Style → Posting → List ℕ
posting_part styles p = whole_line (posting_line styles p) ++ comments_part p.comments

-- postings
abbrev pub postings_part : List Style → List Posting → List ℕ
postings_part styles ps = flat_map (posting_part styles) ps

-- the header
abbrev pub header_part : Txn → List ℕ
header_part t = whole_line (header_line t.day t.status t.code t.description)

-- the line of a mark
abbrev pub mark_part : Option (List ℕ) → List ℕ
mark_part None = []
mark_part (Some mark) = whole_line (comment_line (bookid ++ mark))

-- what stands below header and mark
abbrev pub comments_and_postings_part : List Style → Txn → List ℕ
comments_and_postings_part styles t = comments_part t.comments ++ postings_part styles t.postings

-- what stands below a header is well formed
abbrev pub has_good_lines : List Style → Txn → Bool
has_good_lines styles t = is_mark_or_none t.mark && list_all is_note t.comments
    && list_all (is_posting styles) t.postings && nat_le (length t.postings) posting_limit
