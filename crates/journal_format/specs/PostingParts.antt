-- What stands where in a posting line, by its characters alone (hledger manual, "Postings", "Costs", "Balance
-- assertions"), whether it is well formed or not. A part that is not there is empty.
use Rattle.std.specs.Prelude.{ℕ, ◌+◌, ◌==◌, List, [], ◌∷◌, length, take, drop, slice_index, Bool, false, ◌&&◌, ◌||◌}
use Rattle.std.specs.Prelude.{not, if◌then◌else◌}
use Rattle.money_core.specs.declared.claim.ClaimKind.{ClaimKind}
use Rattle.money_core.specs.declared.claim.ClaimKind.TheVariants.{Exact, Sole, ExactIn, SoleIn}
use Rattle.journal_lines.specs.Blank.{trim_start, trim_end, trim}
use Rattle.journal_lines.specs.Comment.{front_of}
use Rattle.journal_lines.specs.Header.{behind_status}
use Rattle.journal_lines.specs.AccountName.{name_end}
use Rattle.journal_format.specs.PostingForm.{claim_sign}

-- a quote opens or closes
abbrev pub turned : Bool → ℕ → Bool
turned quoted b = if b == 34 then not quoted else quoted

-- where such a byte first stands outside quotes, or the length
unfoldable pub outside : (ℕ → Bool) → Bool → List ℕ → ℕ
outside wanted quoted [] = 0
outside wanted quoted (b ∷ bs) = if wanted b && not quoted then 0 else 1 + outside wanted (turned quoted b) bs

-- what stands before the first such byte outside quotes, without blanks at its end
abbrev pub before_mark : ℕ → List ℕ → List ℕ
before_mark mark text = trim_end (take (outside (λ b. b == mark) false text) text)

-- what stands from there on
abbrev pub from_mark : ℕ → List ℕ → List ℕ
from_mark mark text = drop (outside (λ b. b == mark) false text) text

-- the line after its indent and its status, and before its comment
abbrev pub posting_text : List ℕ → List ℕ
posting_text line = behind_status (trim_start (front_of line))

-- the account name
abbrev pub account_name_of : List ℕ → List ℕ
account_name_of line = take (name_end (posting_text line)) (posting_text line)

-- it is that of a virtual posting: it begins with `(` or `[` ("Virtual postings")
abbrev pub is_virtual : List ℕ → Bool
is_virtual name = (slice_index name 0 == 40) || (slice_index name 0 == 91)

-- the amount part after it
abbrev pub amount_part_of : List ℕ → List ℕ
amount_part_of line = trim (drop (name_end (posting_text line)) (posting_text line))

-- the assertion in an amount part, from the first `=` on
abbrev pub claim_in : List ℕ → List ℕ
claim_in part = from_mark 61 part

-- the price before it, from the first `@` on
abbrev pub price_text_in : List ℕ → List ℕ
price_text_in part = from_mark 64 (before_mark 61 part)

-- the amount before both
abbrev pub amount_text_in : List ℕ → List ℕ
amount_text_in part = before_mark 64 (before_mark 61 part)

-- the longest sign at the front of an assertion
unfoldable pub kind_at : List ℕ → ClaimKind
kind_at text =
    if slice_index text 1 == 61 then (if slice_index text 2 == 42 then SoleIn else Sole)
    else (if slice_index text 1 == 42 then ExactIn else Exact)

-- the asserted amount after it
abbrev pub asserted_in : List ℕ → List ℕ
asserted_in claim = trim_start (drop (length (claim_sign (kind_at claim))) claim)
