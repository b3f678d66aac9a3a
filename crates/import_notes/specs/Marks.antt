-- Comments that were to be marks, and are none; journals without a transaction (own rules; docs/RULES.md, "Marks and
-- repeats", "Notes").
use Rattle.std.specs.Prelude.{ℕ, Bool, true, false, not, ◌||◌, if◌then◌else◌, List, [], ◌∷◌, ◌++◌, map, take, find}
use Rattle.std.specs.Prelude.{codes, decimal, Option, Some, None, is_some}
use Rattle.std.specs.Char.{to_ascii_lowercase}
use Rattle.std.specs.List.{flat_map}
use Rattle.std.specs.Str.{bytes_eq}
use Rattle.journal_lines.specs.declared.line_kind.LineKind.{LineKind}
use Rattle.journal_lines.specs.declared.line_kind.LineKind.TheVariants.{Blank, Comment, Block, Header, Indented}
use Rattle.journal_lines.specs.declared.line_kind.LineKind.TheVariants.{Commodity as Directive, Skipped, Unknown}
use Rattle.journal_lines.specs.LineKind.{kind_of, is_block_end}
use Rattle.journal_lines.specs.Lines.{numbered}
use Rattle.journal_format.specs.declared.posting.Posting.{Posting}
use Rattle.treasury_messages.specs.declared.kind.MessageKind.TheVariants as is
use Rattle.treasury_messages.specs.Said.{Said, says}
use Rattle.treasury_state.specs.declared.record.Record.{Record}
use Rattle.journal_hints.specs.Listed.{most_notes, listed}
use Rattle.import_notes.specs.declared.marks.Unmarked.{Unmarked}

-- `bookid:` stands at the front, in small or capital letters
abbrev pub begins_mark : List ℕ → Bool
begins_mark text = bytes_eq (map to_ascii_lowercase (take 7 text)) (codes "bookid:")

-- it stands somewhere in a comment
abbrev pub names_mark : List ℕ → Bool
names_mark [] = false
names_mark (b ∷ bs) = begins_mark (b ∷ bs) || names_mark bs

-- the first such comment of a transaction or one of its postings; its mark is no comment
abbrev pub comments_below : List Posting → List (List ℕ)
comments_below ps = flat_map (λ (p : Posting). p.comments) ps

abbrev pub unmarked_comment : Record → Option (List ℕ)
unmarked_comment r = find names_mark (r.txn.comments ++ comments_below r.txn.postings)

abbrev pub is_unmarked : Record → Bool
is_unmarked r = is_some (unmarked_comment r)

-- the line of a transaction and that comment, if it has one
abbrev pub unmarked_view : Unmarked → ℕ × List ℕ
unmarked_view u = (u.line, u.comment.now)

abbrev pub unmarked_at : ℕ → Option (List ℕ) → List (ℕ × List ℕ)
unmarked_at line None = []
unmarked_at line (Some comment) = (line, comment) ∷ []

-- those of new transactions, each of which stands on its line
abbrev pub unmarked_in : (Record → ℕ) → List Record → List (ℕ × List ℕ)
unmarked_in line new = flat_map (λ (r : Record). unmarked_at (line r) (unmarked_comment r)) new

-- what is said of them
abbrev pub no_mark_said : List ℕ → ℕ × List ℕ → List Said
no_mark_said source u = says is.NoMark (source ∷ decimal u.0 ∷ u.1 ∷ []) ∷ []

abbrev pub no_marks_said : List ℕ → (Record → ℕ) → List Record → List Said
no_marks_said source line new = listed most_notes (no_mark_said source) (unmarked_in line new)

-- ---- a journal without a transaction: none of its lines outside a block of comment lines is a header
abbrev pub is_header : LineKind → Bool
is_header Blank = false
is_header Comment = false
is_header Block = false
is_header Header = true
is_header Indented = false
is_header Directive = false
is_header Skipped = false
is_header Unknown = false

abbrev pub is_block : LineKind → Bool
is_block Blank = false
is_block Comment = false
is_block Block = true
is_block Header = false
is_block Indented = false
is_block Directive = false
is_block Skipped = false
is_block Unknown = false

abbrev pub has_header : Bool → List (ℕ × List ℕ) → Bool
has_header in_block [] = false
has_header true (l ∷ ls) = has_header (not (is_block_end l.1)) ls
has_header false (l ∷ ls) = is_header (kind_of l.1) || has_header (is_block (kind_of l.1)) ls

abbrev pub has_transaction : List ℕ → Bool
has_transaction text = has_header false (numbered 1 text)

-- what is said of an import of one, or of a journal that has some
abbrev pub nothing_said : List ℕ → Bool → List Said
nothing_said source has_any = if has_any then [] else says is.NothingImported (source ∷ []) ∷ []
