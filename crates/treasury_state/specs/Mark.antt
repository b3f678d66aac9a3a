-- Marks: what a transaction goes by in its branch, and when one is a repeat (own rules; docs/RULES.md, "Marks and
-- repeats").
use Rattle.std.specs.Prelude.{◌≡◌, ℕ, nat_eq, Bool, ◌&&◌, ◌||◌, not, List, [], ◌∷◌, ◌++◌, codes, decimal, Option, Some}
use Rattle.std.specs.Prelude.{None, is_some, find, ⊤}
use Rattle.std.specs.List.{starts_with, list_any, count_by}
use Rattle.std.specs.Str.{bytes_eq}
use Rattle.sha2.specs.Sha256.{sha256}
use Rattle.hex.specs.Hex.{encode_lower}
use Rattle.money_core.specs.declared.style.Style.{Style}
use Rattle.journal_format.specs.declared.txn.Txn.{Txn}
use Rattle.journal_format.specs.CanonicalText.{body_text}
use Rattle.money_core.specs.declared.day.Day.{Day}
use Rattle.journal_lines.specs.Date.{printed_date}
use Rattle.treasury_state.specs.declared.record.Record.{Record}

-- the mark that a text gets which is the n-th one of its file: `h-`, its hash, `-`, and n
unfoldable pub hash_mark : List ℕ → ℕ → List ℕ
hash_mark text n = codes "h-" ++ (encode_lower (sha256 text) ++ (codes "-" ++ decimal n))

-- the mark of a transaction: its own, or that of its canonical text
abbrev pub transaction_mark : List Style → Txn → ℕ → Option (List ℕ) → List ℕ
transaction_mark styles t n (Some mark) = mark
transaction_mark styles t n None = hash_mark (body_text styles t) n

-- how many unmarked transactions of the list have that canonical text
abbrev pub alike : List Style → List ℕ → List Txn → ℕ
alike styles text ts = count_by (λ (x : Txn). not (is_some x.mark) && bytes_eq (body_text styles x) text) ts

-- the record has that mark
abbrev pub has_mark : List ℕ → Record → Bool
has_mark m r = bytes_eq r.mark m

-- one of the records has it
abbrev pub is_held : List Record → List ℕ → Bool
is_held rs m = list_any (has_mark m) rs

-- the first record that has it
abbrev pub held : List Record → List ℕ → Option Record
held rs m = find (has_mark m) rs

-- no two have the same
abbrev pub HaveOwnMarks : List Record → Type 0
HaveOwnMarks [] = ⊤
HaveOwnMarks (r ∷ rs) = (held rs r.mark ≡ None) × HaveOwnMarks rs

-- one of the records has the record's mark, and an equal canonical text
abbrev pub is_repeat : List Style → List Record → Record → Bool
is_repeat styles rs r =
    list_any (λ (h : Record). bytes_eq h.mark r.mark && bytes_eq (body_text styles h.txn) (body_text styles r.txn)) rs

-- marks of dispatches and receipts
abbrev pub is_transfer_mark : List ℕ → Bool
is_transfer_mark m = starts_with nat_eq m (codes "out:") || starts_with nat_eq m (codes "in:")

-- marks of closings
abbrev pub is_closing_mark : List ℕ → Bool
is_closing_mark m = starts_with nat_eq m (codes "close:")

-- marks that belong to the product: of dispatches, receipts and closings
abbrev pub is_product_mark : List ℕ → Bool
is_product_mark m = is_transfer_mark m || is_closing_mark m

-- the record has the mark of a dispatch or a receipt
abbrev pub is_of_transfer : Record → Bool
is_of_transfer r = is_transfer_mark r.mark

-- the record has the mark of a closing
abbrev pub is_closing : Record → Bool
is_closing r = is_closing_mark r.mark

-- the mark of a closing: `close:DAY`
abbrev pub close_mark : Day → List ℕ
close_mark day = codes "close:" ++ printed_date day
