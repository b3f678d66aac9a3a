-- Amounts with a group mark where a decimal mark may have been meant (own rule; docs/RULES.md, "Notes").
use Rattle.std.specs.Prelude.{ℕ, ℤ, ◌==◌, nat_eq, List, [], ◌∷◌, ◌++◌, drop, slice_index, slice_get, codes, decimal}
use Rattle.std.specs.Prelude.{Bool, true, false, not, ◌&&◌, ◌||◌, if◌then◌else◌, Option, Some, None, Result, Ok, Err}
use Rattle.std.specs.List.{flat_map}
use Rattle.std.specs.Char.{is_ascii_digit}
use Rattle.std.specs.Str.{is_utf8}
use Rattle.money_core.specs.declared.cause.Cause.{Cause}
use Rattle.money_core.specs.declared.style.Style.{Style}
use Rattle.money_core.specs.declared.unit.Unit.{Unit as Commodity}
use Rattle.money_core.specs.declared.price.Price.{Price}
use Rattle.money_core.specs.Mark.{group_byte}
use Rattle.money_core.specs.Price.{cost_unit, is_price}
use Rattle.money_core.specs.PriceText.{printed_price}
use Rattle.money_core.specs.PriceReading.{price}
use Rattle.money_core.specs.Reading.{amount}
use Rattle.journal_lines.specs.declared.line_kind.LineKind.{LineKind}
use Rattle.journal_lines.specs.declared.line_kind.LineKind.TheVariants.{Blank, Comment, Block, Header, Indented}
use Rattle.journal_lines.specs.declared.line_kind.LineKind.TheVariants.{Commodity as Directive, Skipped, Unknown}
use Rattle.journal_lines.specs.LineKind.{kind_of, is_remark}
use Rattle.journal_lines.specs.Lines.{numbered}
use Rattle.journal_format.specs.PostingParts.{turned, amount_part_of, amount_text_in, price_text_in, claim_in}
use Rattle.journal_format.specs.PostingParts.{asserted_in}
use Rattle.journal_hints.specs.declared.odd.Seen.{Seen}
use Rattle.journal_hints.specs.declared.odd.ReadAs.{ReadAs}
use Rattle.journal_hints.specs.declared.odd.ReadAs.TheVariants as as_a
use Rattle.journal_hints.specs.declared.odd.Odd.{Odd}
use Rattle.treasury_messages.specs.declared.kind.MessageKind.TheVariants as is
use Rattle.treasury_messages.specs.Said.{Said, says}
use Rattle.treasury_messages.specs.Pieces.{shown_amount}

-- what stands before a byte: whether it stands in quotes, and whether a zero and another digit stand outside them
abbrev pub nothing_seen : Seen
nothing_seen = record { quoted = false; zero = false; other = false }

abbrev pub seen_with : Seen → ℕ → Seen
seen_with s b = record {
  quoted = turned s.quoted b;
  zero = s.zero || (not s.quoted && (b == 48));
  other = s.other || (not s.quoted && (is_ascii_digit b && not (b == 48)));
}

-- exactly three digits stand at the front
abbrev pub has_three : List ℕ → Bool
has_three rest =
    is_ascii_digit (slice_index rest 0) && is_ascii_digit (slice_index rest 1) && is_ascii_digit (slice_index rest 2)
    && not (is_ascii_digit (slice_index rest 3))

-- a group mark is odd: it has only zeros before it, or it is not before exactly three digits
abbrev pub is_odd_mark : Seen → List ℕ → Bool
is_odd_mark s rest = (s.zero && not s.other) || not (has_three rest)

-- one of the group marks outside quotes is
unfoldable pub is_odd_from : ℕ → Seen → List ℕ → Bool
is_odd_from group s [] = false
is_odd_from group s (b ∷ rest) =
    ((b == group) && (not s.quoted && is_odd_mark s rest)) || is_odd_from group (seen_with s b) rest

abbrev pub is_odd_amount : ℕ → List ℕ → Bool
is_odd_amount group text = is_odd_from group nothing_seen text

-- the text is odd in the style of a commodity
abbrev pub is_odd_style : List ℕ → Option Style → Bool
is_odd_style text None = false
is_odd_style text (Some style) = is_odd_amount (group_byte style.mark) text

abbrev pub is_odd_in : List Style → Commodity → List ℕ → Bool
is_odd_in styles unit text = is_odd_style text (slice_get styles unit.0)

-- a text that is UTF-8; no other one is an amount
abbrev pub text_if_utf8 : List ℕ → Option (List ℕ)
text_if_utf8 text = if is_utf8 text then Some text else None

-- what a text was read as, if it is odd in the style of that commodity
abbrev pub if_odd : List Style → Commodity → List ℕ → ReadAs → Option ReadAs
if_odd styles unit text read = if is_odd_in styles unit text then Some read else None

-- what a text was read as, if it is an amount that is odd in the style of its commodity
abbrev pub odd_read : List Style → List ℕ → Result (Commodity × ℤ) Cause → Option ReadAs
odd_read styles text (Ok a) = if_odd styles a.0 text (as_a.Amount a.0 a.1)
odd_read styles text (Err cause) = None

abbrev pub odd_if_text : List Style → Option (List ℕ) → Option ReadAs
odd_if_text styles None = None
odd_if_text styles (Some text) = odd_read styles text (amount styles text)

unfoldable pub odd_amount : List Style → List ℕ → Option ReadAs
odd_amount styles text = odd_if_text styles (text_if_utf8 text)

-- the same of a cost
abbrev pub odd_cost : List Style → List ℕ → Result Price Cause → Option ReadAs
odd_cost styles text (Ok p) = if_odd styles (cost_unit p) text (as_a.Cost p)
odd_cost styles text (Err cause) = None

abbrev pub odd_cost_if_text : List Style → Option (List ℕ) → Option ReadAs
odd_cost_if_text styles None = None
odd_cost_if_text styles (Some text) = odd_cost styles text (price styles text)

unfoldable pub odd_price : List Style → List ℕ → Option ReadAs
odd_price styles text = odd_cost_if_text styles (text_if_utf8 text)

-- an odd text of a line, with what it was read as
pub record OddText : Type 0 where
  pub line : ℕ
  pub text : List ℕ
  pub read : ReadAs

abbrev pub odd_view : Odd → OddText
odd_view o = record { line = o.line; text = o.text.now; read = o.read }

abbrev pub odd_at : ℕ → List ℕ → Option ReadAs → List OddText
odd_at n text None = []
odd_at n text (Some read) = record { line = n; text = text; read = read } ∷ []

-- the line is indented, and is a posting
abbrev pub is_inner : LineKind → Bool
is_inner Blank = false
is_inner Comment = false
is_inner Block = false
is_inner Header = false
is_inner Indented = true
is_inner Directive = false
is_inner Skipped = false
is_inner Unknown = false

abbrev pub is_posting_line : List ℕ → Bool
is_posting_line line = is_inner (kind_of line) && not (is_remark line)

-- the odd ones of a posting's amount part: its amount, its cost, its asserted balance
abbrev pub odd_parts : List Style → ℕ → List ℕ → List OddText
odd_parts styles n part =
    let asserted = asserted_in (claim_in part) in
    odd_at n (amount_text_in part) (odd_amount styles (amount_text_in part))
    ++ odd_at n (price_text_in part) (odd_price styles (price_text_in part))
    ++ odd_at n asserted (odd_amount styles asserted)

-- the odd ones of a line, which has them if it is a posting
unfoldable pub odd_line : List Style → ℕ × List ℕ → List OddText
odd_line styles l = if is_posting_line l.1 then odd_parts styles l.0 (amount_part_of l.1) else []

-- the lines of the transactions whose headers stand on these lines, which are in order: below a header, as far as they
-- are indented
abbrev pub is_next : List ℕ → ℕ → Bool
is_next [] n = false
is_next (head ∷ more) n = nat_eq head n

unfoldable pub lines_below : List ℕ → Bool → List (ℕ × List ℕ) → List (ℕ × List ℕ)
lines_below heads inside [] = []
lines_below heads inside (l ∷ rest) =
    if is_next heads l.0 then lines_below (drop 1 heads) true rest
    else if inside && is_inner (kind_of l.1) then l ∷ lines_below heads true rest
    else lines_below heads false rest

-- the odd ones of these transactions of a text
unfoldable pub odd_amounts : List Style → List ℕ → List ℕ → List OddText
odd_amounts styles heads text = flat_map (odd_line styles) (lines_below heads false (numbered 1 text))

-- a cost as it is shown
abbrev pub shown_price : List Style → Price → List ℕ
shown_price styles p = if is_price styles p then printed_price styles p else codes "?"

-- what a text was read as, as it is shown
abbrev pub read_text : List Style → ReadAs → List ℕ
read_text styles (as_a.Amount unit qty) = shown_amount styles unit qty
read_text styles (as_a.Cost p) = shown_price styles p

-- the note of an odd text that stands there
abbrev pub odd_at_said : List Style → List (List ℕ) → List ℕ → ReadAs → List Said
odd_at_said styles place text read = says is.OddAmount (place ++ text ∷ read_text styles read ∷ []) ∷ []

-- that of an odd text of a journal
abbrev pub odd_said : List Style → List ℕ → OddText → List Said
odd_said styles source o = odd_at_said styles (source ∷ decimal o.line ∷ []) o.text o.read

-- that of the amount of a dispatch, or of a part that is received, if it is odd
abbrev pub amount_said : List Style → List ℕ → Option ReadAs → List Said
amount_said styles text None = []
amount_said styles text (Some read) = odd_at_said styles (codes "--amount" ∷ []) text read
