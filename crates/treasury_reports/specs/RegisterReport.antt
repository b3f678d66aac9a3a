-- The register of an account (own rule; docs/FORMATS.md, "Register report"; hledger manual, "register", "Tags").
use Rattle.std.specs.Prelude.{ℕ, ◌+◌, ◌==◌, nat_lt, Bool, true, ◌&&◌, ◌||◌, not, if◌then◌else◌, ℤ, int_le, List, []}
use Rattle.std.specs.Prelude.{◌∷◌, ◌++◌, map, length, take, drop, decimal, Option, Some, None}
use Rattle.std.specs.List.{list_any, filter, position_or_len}
use Rattle.std.specs.Str.{bytes_eq}
use Rattle.money_core.specs.declared.day.Day.{Day}
use Rattle.money_core.specs.declared.style.Style.{Style}
use Rattle.money_core.specs.AmountText.{printed_in}
use Rattle.book_core.specs.declared.leg.Leg.{Leg}
use Rattle.book_core.specs.Account.{is_inside}
use Rattle.book_core.specs.Balance.{value}
use Rattle.journal_lines.specs.Date.{printed_date}
use Rattle.journal_lines.specs.Tag.{tags_of}
use Rattle.journal_format.specs.declared.posting.Posting.{Posting}
use Rattle.journal_format.specs.declared.txn.Txn.{Txn}
use Rattle.treasury_state.specs.declared.record.Record.{Record}
use Rattle.treasury_state.specs.Federation.{Federation, records_of}
use Rattle.treasury_reports.specs.declared.listed.Listed.{Listed}
use Rattle.treasury_reports.specs.declared.rows.Layout.TheVariants.{Text}
use Rattle.treasury_reports.specs.declared.rows.Column.TheVariants.{Plain, Number, Amount, End, Note}
use Rattle.treasury_reports.specs.Rows.{Row, report_as}

-- where the first `=` of what is asked for stands; its length where there is none
abbrev pub cut : List ℕ → ℕ
cut asked = position_or_len (λ b. b == 61) asked

-- a tag, a name and a value, is the one that is asked for by `NAME`, with any value, or by `NAME=VALUE`
abbrev pub is_asked : List ℕ → List ℕ × List ℕ → Bool
is_asked asked tag =
    bytes_eq tag.0 (take (cut asked) asked)
    && (not (nat_lt (cut asked) (length asked)) || bytes_eq tag.1 (drop (cut asked + 1) asked))

-- a comment has it among its tags
abbrev pub comment_has : List ℕ → List ℕ → Bool
comment_has asked comment = list_any (is_asked asked) (tags_of comment)

-- one of the comments has it
abbrev pub have_tag : List ℕ → List (List ℕ) → Bool
have_tag asked comments = list_any (comment_has asked) comments

-- a comment of the transaction or of one of its postings has it; the mark is no comment
abbrev pub txn_has : List ℕ → Txn → Bool
txn_has asked t = have_tag asked t.comments || list_any (λ (p : Posting). have_tag asked p.comments) t.postings

-- the transaction has the tag, where one is asked for
abbrev pub is_wanted : Option (List ℕ) → Txn → Bool
is_wanted None t = true
is_wanted (Some asked) t = txn_has asked t

-- a leg of record n, as it is listed
abbrev pub listed_leg : ℕ → Record → Leg → Listed
listed_leg n r x = record { day = r.entry.day; number = n; leg = x; description = r.txn.description }

-- those of its legs that are on the account or a subaccount
abbrev pub listed_legs : List ℕ → ℕ → Record → List Leg → List Listed
listed_legs account n r [] = []
listed_legs account n r (x ∷ xs) =
    if is_inside account x.account then listed_leg n r x ∷ listed_legs account n r xs else listed_legs account n r xs

-- what is listed of record n
abbrev pub listed_in : List ℕ → Option (List ℕ) → ℕ → Record → List Listed
listed_in account tag n r = if is_wanted tag r.txn then listed_legs account n r r.entry.legs else []

-- and of records, numbered from n, in order of entry
abbrev pub listed_from : List ℕ → Option (List ℕ) → ℕ → List Record → List Listed
listed_from account tag n [] = []
listed_from account tag n (r ∷ rs) = listed_in account tag n r ++ listed_from account tag (n + 1) rs

-- before the first that is not earlier
abbrev pub put_by_day : Listed → List Listed → List Listed
put_by_day x [] = x ∷ []
put_by_day x (y ∷ ys) = if int_le x.day.0 y.day.0 then x ∷ (y ∷ ys) else y ∷ put_by_day x ys

-- by day, and on one day in the order in which they stood: so by place
abbrev pub by_day : List Listed → List Listed
by_day [] = []
by_day (x ∷ xs) = put_by_day x (by_day xs)

-- the legs that are listed
abbrev pub legs_in : List Listed → List Leg
legs_in xs = map (λ (x : Listed). x.leg) xs

-- day, entry number, amount, sum so far, account and description of a listed leg
unfoldable pub register_cells : List Style → Listed → ℤ → Row
register_cells styles x sum =
    (Plain, printed_date x.day) ∷ ((Number, decimal x.number) ∷ ((Amount, printed_in styles x.leg.unit x.leg.qty)
    ∷ ((Amount, printed_in styles x.leg.unit sum) ∷ ((End, x.leg.account) ∷ ((Note, x.description) ∷ [])))))

-- what is listed after others, each with the sum of all that is listed so far in its commodity
abbrev pub summed_behind : List Listed → List Listed → List (Listed × ℤ)
summed_behind before [] = []
summed_behind before (x ∷ xs) =
    (x, value x.leg.unit (legs_in (before ++ x ∷ []))) ∷ summed_behind (before ++ x ∷ []) xs

-- a day is not before the first that is asked for, where one is
abbrev pub is_since : Option Day → Day → Bool
is_since None day = true
is_since (Some first) day = int_le first.0 day.0

-- the rows of those whose day is not before that
abbrev pub rows_since : List Style → Option Day → List (Listed × ℤ) → List Row
rows_since styles from xs =
    map (λ (x : Listed × ℤ). register_cells styles x.0 x.1) (filter (λ (x : Listed × ℤ). is_since from x.0.day) xs)

-- the register of an account and its subaccounts in a branch, in order of place: from a day on, where one is asked for,
-- and the sums are those of the whole register
unfoldable pub register_rows : Federation → List ℕ → List ℕ → Option (List ℕ) → Option Day → List Row
register_rows f name account tag from =
    rows_since f.styles from (summed_behind [] (by_day (listed_from account tag 1 (records_of f name))))

-- the lines of all of it
abbrev pub register_text : Federation → List ℕ → List ℕ → Option (List ℕ) → List ℕ
register_text f name account tag = report_as Text (register_rows f name account tag None)
