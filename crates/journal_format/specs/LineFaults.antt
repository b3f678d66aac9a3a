-- The faults of a line, for each kind of line in their order (own rule): its limits, its bytes, its parts from left to
-- right, the limit of a body.
use Rattle.std.specs.Prelude.{◌≡◌, ◌≢◌, ◌≤◌, ◌<◌, ◌⊎◌, ⊤, ℕ, List, [], ◌∷◌, ◌++◌, length, map, codes, true, false, Some}
use Rattle.std.specs.Prelude.{None}
use Rattle.money_core.specs.declared.style.Style.{Style}
use Rattle.money_core.specs.declared.unit.Unit.{Unit as Commodity}
use Rattle.money_core.specs.declared.cause.Cause.{Cause}
use Rattle.money_core.specs.declared.cause.Cause.TheVariants.{Utf8, TooLong, Date, Header, Directive, StrayLine}
use Rattle.money_core.specs.declared.cause.Cause.TheVariants.{Account, Amount, UnknownCommodity, Decimals}
use Rattle.money_core.specs.declared.cause.Cause.TheVariants.{CommodityStyle, Cost, Assignment, Virtual, Marks}
use Rattle.money_core.specs.Symbol.{WritesSymbol}
use Rattle.money_core.specs.Amount.{place_of, HasNoForm, NamesUndeclared, HasFurtherDecimals, IsOverLimit}
use Rattle.money_core.specs.Price.{HasNoPriceForm, NamesUndeclaredCost, HasNoCost}
use Rattle.money_core.specs.Style.{IsSample}
use Rattle.journal_lines.specs.LineKind.{is_remark}
use Rattle.journal_lines.specs.Blank.{first_word, trim_start}
use Rattle.journal_lines.specs.Comment.{front_of, comment_of}
use Rattle.journal_lines.specs.AccountName.{is_account}
use Rattle.journal_lines.specs.Header.{length_of, comment_limit}
use Rattle.journal_lines.specs.HeaderFaults.{HasLongPart, HasNoDate, HasOpenCode}
use Rattle.journal_lines.specs.Printed.{line_limit}
use Rattle.journal_format.specs.declared.txn.Txn.{Txn}
use Rattle.journal_format.specs.Line.{is_text}
use Rattle.journal_format.specs.Mark.{mark_of}
use Rattle.journal_format.specs.DirectiveForm.{IsSampleOf, IsSymbolOf, behind_word}
use Rattle.journal_format.specs.PostingParts.{account_name_of, is_virtual, amount_part_of, amount_text_in}
use Rattle.journal_format.specs.PostingParts.{price_text_in, claim_in, asserted_in}
use Rattle.journal_format.specs.Pieces.{IsEntryOf, posting_limit, transaction_limit, body_limit}

-- a fault that a line may have: its cause, and what is so where the line has it
abbrev pub LineFault : Type 1
LineFault = Cause × Type 0

-- the cause is that of the first fault in the list that the line has
abbrev pub IsFirst : List LineFault → Cause → Type 0
IsFirst [] c = ⊥
IsFirst (f ∷ rest) c = (f.1 × (c ≡ f.0)) ⊎ ((¬ f.1) × IsFirst rest c)

-- of every line: it is too long, or passes a limit of its kind; its bytes; then its parts
abbrev pub line_faults : List ℕ → List LineFault → List LineFault → List LineFault
line_faults line limits parts = (TooLong, line_limit < length line) ∷ (limits ++ ((Utf8, is_text line ≡ false) ∷ parts))

-- the entry of these lines is one with the line too, but for its body, which is too long
abbrev pub PassesBody : List Style → List (List ℕ) → List ℕ → Type 0
PassesBody styles part line = (t : Txn) × IsEntryOf (λ n. body_limit < n) styles (part ++ line ∷ []) t

-- of a header after so many transactions
abbrev pub header_faults : List Style → ℕ → List ℕ → List LineFault
header_faults styles count line = line_faults line
    ((TooLong, transaction_limit ≤ count) ∷ (TooLong, HasLongPart line) ∷ [])
    ((Date, HasNoDate line) ∷ (Header, HasOpenCode line) ∷ (TooLong, PassesBody styles [] line) ∷ [])

-- the comment line is a mark, which the transaction has already
pub record IsSecondMark (t : Txn) (line : List ℕ) : Type 0 where
  pub text : List ℕ
  pub mark : List ℕ
  pub reads : comment_of line ≡ Some text
  pub marked : mark_of text ≡ Some mark
  pub first : t.mark ≢ None
  -- after a posting a comment is no mark
  pub bare : t.postings ≡ []

-- of a comment line in the entry of these lines, which is that transaction so far
abbrev pub remark_faults : List Style → List (List ℕ) → Txn → List ℕ → List LineFault
remark_faults styles part t line = line_faults line
    ((TooLong, comment_limit < length_of (comment_of line)) ∷ [])
    ((Marks, IsSecondMark t line) ∷ (TooLong, PassesBody styles part line) ∷ [])

-- of a text that has to be an amount
abbrev pub amount_faults : List Style → List ℕ → List LineFault
amount_faults styles text =
    (Amount, HasNoForm styles text)
    ∷ (UnknownCommodity, NamesUndeclared styles text)
    ∷ (Decimals, HasFurtherDecimals styles text)
    ∷ (Amount, IsOverLimit styles text)
    ∷ []

-- of a text that has to be a price
abbrev pub price_faults : List Style → List ℕ → List LineFault
price_faults styles text =
    (Amount, HasNoPriceForm styles text)
    ∷ (UnknownCommodity, NamesUndeclaredCost styles text)
    ∷ (Cost, HasNoCost styles text)
    ∷ []

-- a fault of a text that may be left out
abbrev pub where_there : List ℕ → LineFault → LineFault
where_there text f = (f.0, (text ≢ []) × f.1)

-- of an amount part: a price or an assertion without an amount; then the amount, the price, the asserted amount
abbrev pub value_faults : List Style → List ℕ → List LineFault
value_faults styles part =
    (Amount, (amount_text_in part ≡ []) × (price_text_in part ≢ []))
    ∷ (Assignment, (amount_text_in part ≡ []) × (claim_in part ≢ []))
    ∷ (map (where_there (amount_text_in part)) (amount_faults styles (amount_text_in part))
    ++ (map (where_there (price_text_in part)) (price_faults styles (price_text_in part))
    ++ map (where_there (claim_in part)) (amount_faults styles (asserted_in (claim_in part)))))

-- of the parts of a posting line: its account, which may be that of a virtual posting, and its amount part
abbrev pub posting_part_faults : List Style → List ℕ → List LineFault
posting_part_faults styles line =
    (Virtual, is_virtual (account_name_of line) ≡ true)
    ∷ (Account, is_account (account_name_of line) ≢ true)
    ∷ value_faults styles (amount_part_of line)

-- of a posting line in the entry of these lines, which is that transaction so far
abbrev pub posting_faults : List Style → List (List ℕ) → Txn → List ℕ → List LineFault
posting_faults styles part t line = line_faults line
    ((TooLong, posting_limit ≤ length t.postings) ∷ (TooLong, comment_limit < length_of (comment_of line)) ∷ [])
    (posting_part_faults styles line ++ (TooLong, PassesBody styles part line) ∷ [])

-- the text is a sample of a commodity of that symbol, or the symbol
abbrev pub NamesUnit : List ℕ → List ℕ → Type 0
NamesUnit symbol text =
    ((sample : Style) × (IsSample text sample × (sample.symbol ≡ symbol))) ⊎ WritesSymbol symbol text

-- of the text after the word `commodity`: nothing, neither a sample nor a symbol, an undeclared one, a sample that
-- does not agree
abbrev pub directive_faults : List Style → List ℕ → List LineFault
directive_faults styles text =
    (Directive, text ≡ [])
    ∷ (Amount, (symbol : List ℕ) → ¬ (NamesUnit symbol text))
    ∷ (UnknownCommodity, (symbol : List ℕ) × (NamesUnit symbol text × (place_of styles symbol ≡ None)))
    ∷ (CommodityStyle, (unit : Commodity) → ¬ (IsSampleOf styles unit text ⊎ IsSymbolOf styles unit text))
    ∷ []

-- the first word of the indented line is `format`
abbrev pub IsFormat : List ℕ → Type 0
IsFormat line = first_word (trim_start line) ≡ codes "format"

-- what stands after it
abbrev pub behind_format : List ℕ → List ℕ
behind_format line = behind_word (trim_start (front_of line))

-- of a line below a directive of that commodity: after `format` no sample, or none of that commodity, declared or not
abbrev pub format_faults : List Style → Commodity → List ℕ → List LineFault
format_faults styles unit line =
    (Amount, IsFormat line × ((sample : Style) → ¬ (IsSample (behind_format line) sample)))
    ∷ (CommodityStyle, IsFormat line × ¬ (IsSampleOf styles unit (behind_format line)))
    ∷ []

-- of an indented line to which nothing is open
abbrev pub stray_faults : List ℕ → List LineFault
stray_faults line = line_faults line [] ((StrayLine, is_remark line ≡ false) ∷ [])

-- of a line of an unknown word
abbrev pub unknown_faults : List ℕ → List LineFault
unknown_faults line = line_faults line [] ((Directive, ⊤) ∷ [])

-- of a blank line, a comment line at the margin, a line of a block, a skipped line and what stands below it
abbrev pub plain_faults : List ℕ → List LineFault
plain_faults line = line_faults line [] []
