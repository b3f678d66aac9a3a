-- New entries that may be held ones, edited, which the file has no more (own rule; docs/RULES.md, "Notes").
use Rattle.std.specs.Prelude.{ℕ, ℤ, pos, negsuc, ◌+◌, ◌+ℤ◌, nat_eq, nat_le, nat_lt, Bool, true, false, not, ◌&&◌, ◌||◌}
use Rattle.std.specs.Prelude.{if◌then◌else◌, is_some, List, [], ◌∷◌, ◌++◌, length, codes, decimal, Option, Some, None}
use Rattle.std.specs.Prelude.{slice_get}
use Rattle.std.specs.Cmp.Lexicographic.{pointwise}
use Rattle.std.specs.List.{flat_map, starts_with}
use Rattle.std.specs.Ordering.{int_eq}
use Rattle.std.specs.Str.{bytes_eq}
use Rattle.money_core.specs.declared.day.Day.{Day}
use Rattle.book_core.specs.declared.leg.Leg.{Leg}
use Rattle.journal_format.specs.declared.posting.Posting.{Posting}
use Rattle.treasury_state.specs.declared.record.Record.{Record}
use Rattle.treasury_state.specs.Index.{mark_place}
use Rattle.import_notes.specs.declared.days.Span.{Span}
use Rattle.import_notes.specs.declared.edited.Likeness.{Likeness}
use Rattle.import_notes.specs.declared.edited.Likeness.TheVariants as by
use Rattle.import_notes.specs.declared.edited.Edited.{Edited as EditedRecord}
use Rattle.treasury_reasons.specs.Failure.{same_legs, same_header}
use Rattle.import_notes.specs.FarDays.{holds, span_of}
use Rattle.import_notes.specs.Imported.{Imported}
use Rattle.treasury_messages.specs.declared.kind.MessageKind.{MessageKind}
use Rattle.treasury_messages.specs.declared.kind.MessageKind.TheVariants as is
use Rattle.treasury_messages.specs.Pieces.{header_values}
use Rattle.treasury_messages.specs.Said.{Said, says}

-- ---- what two records share

-- the least length of a mark that is made of a text: `h-`, 64 digits, `-` and a digit
abbrev pub least_hash_mark : ℕ
least_hash_mark = 68

-- the mark is the record's own, and not made of its text
abbrev pub is_marked : Record → Bool
is_marked r = not (starts_with nat_eq r.mark (codes "h-")) || nat_lt (length r.mark) least_hash_mark

-- two postings are on the same account
abbrev pub same_account : Posting → Posting → Bool
same_account p q = bytes_eq p.account q.account

-- two records have the same status, code and description, and their postings the same accounts, in order; an empty code
-- is as none
abbrev pub same_names : Record → Record → Bool
same_names r s = same_header r.txn s.txn && pointwise same_account r.txn.postings s.txn.postings

-- two legs have the same amount, and two records, leg by leg
abbrev pub same_amount : Leg → Leg → Bool
same_amount x y = nat_eq x.unit.0 y.unit.0 && int_eq x.qty y.qty

abbrev pub same_amounts : Record → Record → Bool
same_amounts r s = pointwise same_amount r.entry.legs s.entry.legs

abbrev pub unmarked_names : Record → Record → Bool
unmarked_names r s = not (is_marked r || is_marked s) && same_names r s

-- they share so much, and may be one transaction: two that have marks of their own are two, and without the same legs
-- so are two of which one has
abbrev pub shares : Likeness → Record → Record → Bool
shares by.Legs h r = same_legs h.entry.legs r.entry.legs && not (is_marked h && is_marked r)
shares by.Accounts h r = unmarked_names h r && not (same_amounts h r)
shares by.Amounts h r = unmarked_names h r && same_amounts h r

-- ---- the held ones that a new one may be

-- the places of records on a day, the first record at a place; of a day with more than 1,000 no one is looked at
abbrev pub places_on : ℤ → ℕ → List Record → List ℕ
places_on day at [] = []
places_on day at (h ∷ rest) = (if int_eq h.entry.day.0 day then at ∷ [] else []) ++ places_on day (at + 1) rest

abbrev pub if_few : List ℕ → List ℕ
if_few places = if nat_le (length places) 1000 then places else []

-- a new record and a held one by their places, if they share so much
abbrev pub shares_if : Likeness → Record → Option Record → Bool
shares_if likeness r None = false
shares_if likeness r (Some h) = shares likeness h r

abbrev pub pair_at : List Record → ℕ → Record → Likeness → ℕ → List EditedRecord
pair_at held at r likeness place =
    if shares_if likeness r (slice_get held place)
    then record { new = at; held = place; likeness = likeness } ∷ []
    else []

abbrev pub pairs_on : List Record → ℕ → Record → Likeness → ℤ → List EditedRecord
pairs_on held at r likeness day = flat_map (pair_at held at r likeness) (if_few (places_on day 0 held))

-- what it may share with those that are so many days later, in the order in which they are looked at: on its day its
-- legs, then on its day its accounts and not its amounts, then its accounts and its amounts on the nearest day, of two
-- as near on the one before it
abbrev pub near : List (Likeness × ℤ)
near =
    (by.Legs, pos 0) ∷ (by.Accounts, pos 0)
    ∷ (by.Amounts, negsuc 0) ∷ (by.Amounts, pos 1) ∷ (by.Amounts, negsuc 1) ∷ (by.Amounts, pos 2)
    ∷ (by.Amounts, negsuc 2) ∷ (by.Amounts, pos 3) ∷ (by.Amounts, negsuc 3) ∷ (by.Amounts, pos 4)
    ∷ (by.Amounts, negsuc 4) ∷ (by.Amounts, pos 5) ∷ (by.Amounts, negsuc 5) ∷ (by.Amounts, pos 6) ∷ []

abbrev pub pairs_near : List Record → ℕ → Record → Likeness × ℤ → List EditedRecord
pairs_near held at r x = pairs_on held at r x.0 (r.entry.day.0 +ℤ x.1)

abbrev pub pairs_of : List Record → ℕ → Record → List EditedRecord
pairs_of held at r = flat_map (pairs_near held at r) near

-- those of all new records, the first at a place
abbrev pub pairs_from : List Record → ℕ → List Record → List EditedRecord
pairs_from held at [] = []
pairs_from held at (r ∷ rest) = pairs_of held at r ++ pairs_from held (at + 1) rest

-- ---- those that the file has no more

-- the day is between the first and the last one, or one of them
abbrev pub in_span_of : Option Span → Day → Bool
in_span_of None day = false
in_span_of (Some s) day = holds s day

-- a file, of which these are the records, passes over a held one: the day of that is between the first and the last of
-- theirs, and none of them has its mark
abbrev pub passes_over : List Record → Record → Bool
passes_over file h = in_span_of (span_of file) h.entry.day && not (is_some (mark_place file h.mark))

abbrev pub passes_if : List Record → Option Record → Bool
passes_if file None = false
passes_if file (Some h) = passes_over file h

abbrev pub passes_at : List Record → List Record → ℕ → Bool
passes_at file held place = passes_if file (slice_get held place)

-- of each new record the first pair whose held one the file passes over; that of the new record before is given
abbrev pub is_next_new : Option ℕ → ℕ → Bool
is_next_new None new = true
is_next_new (Some last) new = not (nat_eq last new)

abbrev pub first_passed : (ℕ → Bool) → Option ℕ → List EditedRecord → List EditedRecord
first_passed passed last [] = []
first_passed passed last (e ∷ rest) =
    if is_next_new last e.new && passed e.held
    then e ∷ first_passed passed (Some e.new) rest
    else first_passed passed last rest

abbrev pub edited_of : List Record → List Record → List Record → List EditedRecord
edited_of file held new = first_passed (passes_at file held) None (pairs_from held 0 new)

-- ---- their notes

abbrev pub edited_kind : Likeness → MessageKind
edited_kind by.Legs = is.EditedLegs
edited_kind by.Accounts = is.EditedAccounts
edited_kind by.Amounts = is.EditedAmounts

-- the line and the header of the new transaction, and the number and the header of the held entry, which are there
abbrev pub edited_if : List ℕ → (Record → ℕ) → EditedRecord → Option Record → Option Record → List Said
edited_if source line e None held = []
edited_if source line e (Some new) None = []
edited_if source line e (Some new) (Some held) =
    says (edited_kind e.likeness) (source ∷ decimal (line new) ∷ header_values new.txn
    ++ (decimal (e.held + 1) ∷ header_values held.txn)) ∷ []

unfoldable pub edited_said : Imported → (Record → ℕ) → EditedRecord → List Said
edited_said it line e = edited_if it.source line e (slice_get it.new e.new) (slice_get it.held e.held)
