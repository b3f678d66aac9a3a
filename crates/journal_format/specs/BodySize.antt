-- Mirrors code: how long the body of a transaction is, part by part.
use Rattle.std.specs.Prelude.{◌≡◌, ℕ, ◌+◌, List, [], ◌∷◌, length, map}
use Rattle.std.specs.List.{flat_map}
use Rattle.money_core.specs.declared.style.Style.{Style}
use Rattle.journal_lines.specs.Printed.{header_line, comment_line, ended}
use Rattle.journal_format.specs.declared.posting.Posting.{Posting}
use Rattle.journal_format.specs.declared.txn.Txn.{Txn}
use Rattle.journal_format.specs.CanonicalText.{posting_line, posting_lines}

-- the header's line
abbrev pub head_size : Txn → ℕ
head_size t = length (ended (header_line t.day t.status t.code t.description ∷ []))

-- the lines of comments
unfoldable pub remarks_size : List (List ℕ) → ℕ
remarks_size texts = length (ended (map comment_line texts))

-- the lines of postings and their comments
unfoldable pub postings_size : List Style → List Posting → ℕ
postings_size styles ps = length (ended (flat_map (posting_lines styles) ps))

-- the line of a posting alone
unfoldable pub line_size : List Style → Posting → ℕ
line_size styles p = length (ended (posting_line styles p ∷ []))

-- the whole body
abbrev pub txn_size : List Style → Txn → ℕ
txn_size styles t = head_size t + (remarks_size t.comments + postings_size styles t.postings)

-- by so many bytes the body grew, in these styles
abbrev pub GrowsBy : List Style → Txn → Txn → ℕ → Type 0
GrowsBy styles before after grown = txn_size styles after ≡ txn_size styles before + grown

-- the same in all styles
abbrev pub BodyGrowsBy : Txn → Txn → ℕ → Type 0
BodyGrowsBy before after grown = (styles : List Style) → GrowsBy styles before after grown

-- the body has so many bytes, in all styles
abbrev pub IsSize : Txn → ℕ → Type 0
IsSize t size = (styles : List Style) → txn_size styles t ≡ size
