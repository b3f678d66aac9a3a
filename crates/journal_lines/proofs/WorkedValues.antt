-- Values worked out by hand, so that a wrong definition does not check.
use Rattle.std.proofs.Common.{◌≡◌, refl, [], ◌∷◌, Some, None, true, false, codes, pos, Ok, lit≤, rules, arith}
use Rattle.journal_lines.specs.Lines.{lines}
use Rattle.journal_lines.specs.declared.line_kind.LineKind.TheVariants.{Block, Indented, Unknown}
use Rattle.journal_lines.specs.LineKind.{kind_of, is_block_start, is_skipped_word, is_commodity_word}
use Rattle.journal_lines.specs.Blank.{trim_end, first_word, trim_start}
use Rattle.journal_lines.specs.Comment.{front_of, comment_of}
use Rattle.journal_lines.specs.declared.header.Status.TheVariants.{Cleared}
use Rattle.journal_lines.specs.Header.{status_at, behind_status}
use Rattle.journal_lines.specs.HeaderReading.{header_of, judged_header, cut_header, behind_date, code_at}
use Rattle.jiff_core.specs.Calendar.{days_from_civil}
use Rattle.jiff_core.proofs.SignedLemmas.{signed_arith}
use Rattle.jiff_core.proofs.CalendarLemmas.{days_from_civil-day_count}
use Rattle.jiff_core.proofs.MarchLemmas.{day_count-early}
use Rattle.journal_lines.proofs.DateLemmas.{printed_date_is}
use Rattle.journal_lines.specs.Tag.{tags_of, first_tag, starts_tag, tag_at}
use Rattle.journal_lines.specs.AccountName.{is_account}
use Rattle.journal_lines.specs.Date.{printed_date}
use Rattle.journal_lines.specs.DateReading.{is_date, day_of, date_of}

-- one CR before LF belongs to the line's end, a lone CR does not, and an empty rest is no line
pub cr_lf : lines (codes "a\r\nb\rc\n") ≡ codes "a" ∷ codes "b\rc" ∷ []
cr_lf = refl

-- a CR at the end of the text belongs to the line's end, and an empty line is a line
pub cr_at_the_end : lines (codes "\na\r") ≡ [] ∷ codes "a" ∷ []
cr_at_the_end = refl

-- a value runs to the next comma, and reading goes on after it
pub two_tags : tags_of (codes "a b:c d:e, f:g") ≡ (codes "b", codes "c d:e") ∷ (codes "f", codes "g") ∷ []
unfolding first_tag starts_tag tag_at trim_start trim_end
two_tags = refl

-- a word must follow the start, a blank or a comma
pub no_tag : tags_of (233 ∷ codes ":1") ≡ []
unfolding first_tag starts_tag tag_at
no_tag = refl

-- a block starts at the word alone
pub block_starts : (kind_of (codes "comment ") ≡ Block) × (kind_of (codes "comment x") ≡ Unknown)
    × (kind_of (codes " comment") ≡ Indented)
unfolding is_block_start is_skipped_word is_commodity_word trim_end first_word
block_starts = (refl, refl, refl)

-- which names are well formed
pub names : (is_account (codes "assets:bank") ≡ true) × (is_account (codes "assets::x") ≡ false)
    × (is_account (codes "a  b") ≡ false) × (is_account (codes "a b") ≡ true)
unfolding is_account
names = (refl, refl, refl, refl)

-- both separators are the same, and the day exists
pub dates : (is_date (codes "2024-1-5") ≡ true) × (is_date (codes "2024-1/5") ≡ false)
    × (is_date (codes "2024-02-29") ≡ true) × (is_date (codes "2023-02-29") ≡ false)
dates = (refl, refl, refl, refl)

-- a day is printed with four, two and two digits
pub printed : printed_date (record { 0 = days_from_civil (pos 2024) 1 5 }) ≡ codes "2024-01-05"
printed = printed_date_is 2024 1 5 (lit≤ tt, (search rules, (lit≤ tt, lit≤ tt), (lit≤ tt, lit≤ tt)))

-- and that day is 19,727 days after 1970-01-01
pub number : days_from_civil (pos 2024) 1 5 ≡ pos 19727
number = omega (
  arith,
  signed_arith,
  days_from_civil-day_count,
  day_count-early (pos 2024) 12023 1 5 refl (omega arith) (omega arith) (omega arith),
)

-- a header with all its parts
pub header : header_of (codes "2024-01-05 *(7)hall ; rent ")
    ≡ Ok (record {
      day = day_of (codes "2024-01-05");
      status = Some Cleared;
      code = Some (codes "7");
      description = codes "hall";
      comment = Some (codes "rent");
    })
unfolding judged_header cut_header first_word behind_date trim_start trim_end front_of comment_of status_at
    behind_status code_at date_of
header = refl

-- only one status is read, and none after a code
pub one_status : (status_at (codes "* ! x") ≡ Some Cleared) × (behind_status (codes "* ! x") ≡ codes "! x")
    × (status_at (codes "(a) * x") ≡ None)
unfolding status_at behind_status trim_start
one_status = (refl, refl, refl)
