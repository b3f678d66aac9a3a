-- The kinds of lines (hledger manual, "Journal format": transactions, directives, comments). Which directives are
-- known, and that some are skipped, are own rules.
use Rattle.std.specs.Prelude.{ℕ, ◌==◌, nat_eq, List, slice_index, codes, Bool, ◌||◌, if◌then◌else◌}
use Rattle.std.specs.List.{list_all}
use Rattle.std.specs.Char.{is_ascii_digit}
use lib.Pointwise.{pointwise}
use Rattle.journal_lines.specs.declared.line_kind.LineKind.{LineKind}
use Rattle.journal_lines.specs.declared.line_kind.LineKind.TheVariants.{Blank, Comment, Block, Header, Indented}
use Rattle.journal_lines.specs.declared.line_kind.LineKind.TheVariants.{Commodity, Skipped, Unknown}
use Rattle.journal_lines.specs.Blank.{is_blank, first_word, trim_start, trim_end}

-- two texts are the same
abbrev pub is_same : List ℕ → List ℕ → Bool
is_same text other = pointwise nat_eq text other

-- only blanks, or nothing
abbrev pub is_blank_line : List ℕ → Bool
is_blank_line line = list_all is_blank line

-- the byte `;`, `#` or `*` begins a comment line
abbrev pub is_comment_sign : ℕ → Bool
is_comment_sign b = (b == 59) || (b == 35) || (b == 42)

-- the word `comment`, blanks at the end dropped, starts a block
unfoldable pub is_block_start : List ℕ → Bool
is_block_start line = is_same (trim_end line) (codes "comment")

-- the words `end comment`, blanks at the end dropped, end it
unfoldable pub is_block_end : List ℕ → Bool
is_block_end line = is_same (trim_end line) (codes "end comment")

-- the directive that declares how a commodity is written
unfoldable pub is_commodity_word : List ℕ → Bool
is_commodity_word word = is_same word (codes "commodity")

-- the directives that are skipped
unfoldable pub is_skipped_word : List ℕ → Bool
is_skipped_word word = is_same word (codes "account") || is_same word (codes "payee") || is_same word (codes "tag")
    || is_same word (codes "P")

-- the kind of a line, by its first byte or its first word
abbrev pub kind_of : List ℕ → LineKind
kind_of line =
    if is_blank_line line then Blank
    else if is_comment_sign (slice_index line 0) then Comment
    else if is_block_start line then Block
    else if is_ascii_digit (slice_index line 0) then Header
    else if is_blank (slice_index line 0) then Indented
    else if is_commodity_word (first_word line) then Commodity
    else if is_skipped_word (first_word line) then Skipped
    else Unknown

-- an indented line is a comment line where `;` is its first byte after the blanks
unfoldable pub is_remark : List ℕ → Bool
is_remark line = slice_index (trim_start line) 0 == 59
