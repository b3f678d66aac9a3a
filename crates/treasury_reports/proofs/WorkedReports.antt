-- Values worked out by hand, so that a wrong definition does not check.
use Rattle.std.specs.Prelude.{◌≡◌, ℕ, ℤ, pos, negsuc, List, [], ◌∷◌, ◌++◌, codes, true, false, Some, None, refl}
use Rattle.money_core.specs.declared.style.Style.{Style}
use Rattle.money_core.specs.declared.unit.Unit.{Unit as Commodity}
use Rattle.money_core.specs.declared.day.Day.{Day}
use Rattle.book_core.specs.declared.leg.Leg.{Leg}
use Rattle.book_core.specs.Accounts.{ordered_names}
use Rattle.journal_format.specs.declared.txn.Txn.{Txn}
use Rattle.journal_format.specs.CanonicalText.{txn_text}
use Rattle.treasury_state.specs.declared.record.Record.{Record}
use Rattle.treasury_state.specs.declared.transfer.Transfer.{Transfer}
use Rattle.treasury_state.specs.Federation.{Branch, Federation}
use Rattle.treasury_reports.specs.declared.listed.Listed.{Listed}
use Rattle.journal_lines.specs.Tag.{first_tag, starts_tag, tag_at}
use Rattle.treasury_reports.specs.Columns.{right_aligned, left_aligned}
use Rattle.treasury_reports.specs.RegisterReport.{is_asked, txn_has, listed_from, by_day}
use Rattle.treasury_reports.specs.RegisterReport.{register_cells, summed_behind, rows_since}
use Rattle.treasury_reports.specs.TransitReport.{open_cells, transit_rows}
use Rattle.treasury_reports.specs.JournalReport.{branch_journal}

-- ---- columns
-- a character of three bytes takes one place
pub aligned : right_aligned 4 (226 ∷ 130 ∷ 172 ∷ 49 ∷ []) ≡ 32 ∷ 32 ∷ 226 ∷ 130 ∷ 172 ∷ 49 ∷ []
aligned = refl

-- what is longer stands as it is
pub too_long : right_aligned 2 (codes "abc") ≡ codes "abc"
too_long = refl

pub aligned_left : left_aligned 3 (codes "?") ≡ codes "?  "
aligned_left = refl

-- ---- accounts
-- each once, in byte order
pub names_once : ordered_names (codes "b" ∷ codes "A" ∷ codes "b" ∷ codes "a" ∷ [])
    ≡ codes "A" ∷ codes "a" ∷ codes "b" ∷ []
names_once = refl

-- ---- tags
-- a name asks for any value
pub any_value : is_asked (codes "x") (codes "x", codes "1") ≡ true
any_value = refl

pub other_name : is_asked (codes "x") (codes "xy", codes "1") ≡ false
other_name = refl

-- with `=`, for just that value
pub that_value : is_asked (codes "x=1=2") (codes "x", codes "1=2") ≡ true
that_value = refl

pub another_value : is_asked (codes "x=1") (codes "x", codes "12") ≡ false
another_value = refl

pub empty_value : is_asked (codes "x=") (codes "x", codes "1") ≡ false
empty_value = refl

pub just_empty : is_asked (codes "x=") (codes "x", []) ≡ true
just_empty = refl

-- an empty name is that of no other tag
pub no_name : is_asked (codes "=") (codes "x", []) ≡ false
no_name = refl

-- ---- the register
abbrev pub unit : ℕ → Commodity
unit n = record { 0 = n }

abbrev pub one : ℤ → ℕ → ℕ → ℤ → Listed
one day number commodity qty = record {
  day = record { 0 = day };
  number = number;
  leg = record { account = codes "a"; unit = unit commodity; qty = qty };
  description = [];
}

-- by day, and on one day in the order in which they stood
pub in_order : by_day (one (pos 2) 1 0 (pos 5) ∷ one (pos 1) 2 0 (pos 3) ∷ one (pos 2) 3 1 (pos 4)
    ∷ one (negsuc 0) 4 0 (pos 1) ∷ [])
    ≡ one (negsuc 0) 4 0 (pos 1) ∷ one (pos 1) 2 0 (pos 3) ∷ one (pos 2) 1 0 (pos 5) ∷ one (pos 2) 3 1 (pos 4) ∷ []
in_order = refl

abbrev legs : List Listed
legs = one (pos 1) 1 0 (pos 5) ∷ one (pos 1) 1 1 (pos 7) ∷ one (pos 2) 2 0 (negsuc 1) ∷ []

-- each commodity has its own sum
pub sums_so_far : (styles : List Style)
    → rows_since styles None (summed_behind [] legs)
    ≡ register_cells styles (one (pos 1) 1 0 (pos 5)) (pos 5)
    ∷ register_cells styles (one (pos 1) 1 1 (pos 7)) (pos 7)
    ∷ register_cells styles (one (pos 2) 2 0 (negsuc 1)) (pos 3) ∷ []
sums_so_far styles = refl

-- from a day on: that day is shown, and the sum goes on from what is left out
pub from_a_day : (styles : List Style)
    → rows_since styles (Some (record { 0 = pos 2 })) (summed_behind [] legs)
    ≡ register_cells styles (one (pos 2) 2 0 (negsuc 1)) (pos 3) ∷ []
from_a_day styles = refl

pub from_the_first_day : (styles : List Style)
    → rows_since styles (Some (record { 0 = pos 1 })) (summed_behind [] legs)
    ≡ rows_since styles None (summed_behind [] legs)
from_the_first_day styles = refl

pub from_a_later_day : (styles : List Style)
    → rows_since styles (Some (record { 0 = pos 3 })) (summed_behind [] legs) ≡ []
from_a_later_day styles = refl

abbrev pub txn : ℤ → List (List ℕ) → Txn
txn day comments = record {
  day = record { 0 = day };
  status = None;
  code = None;
  description = codes "d";
  comments = comments;
  mark = Some (codes "x:1");
  postings = [];
}

-- a comment of the transaction or of a posting, and not the mark
pub in_a_comment : txn_has (codes "x") (txn (pos 1) (codes "y, x:1" ∷ [])) ≡ true
unfolding first_tag starts_tag tag_at
in_a_comment = refl

pub not_in_the_mark : txn_has (codes "x") (txn (pos 1) []) ≡ false
not_in_the_mark = refl

-- ---- a federation: south and north, with one transfer from north to south that was received
abbrev pub leg_on : List ℕ → ℤ → Leg
leg_on account qty = record { account = account; unit = unit 0; qty = qty }

abbrev pub row : ℤ → List (List ℕ) → List Leg → Record
row day comments legs = record {
  mark = codes "x:1";
  txn = txn day comments;
  entry = record { day = record { 0 = day }; legs = legs; claims = [] };
}

-- the account and its subaccounts, of entries numbered in order of entry
pub legs_listed : listed_from (codes "a") None 1
    (row (pos 3) [] (leg_on (codes "a:b") (pos 1) ∷ leg_on (codes "ab") (pos 2) ∷ [])
    ∷ row (pos 1) [] (leg_on (codes "b") (pos 3) ∷ leg_on (codes "a") (pos 4) ∷ []) ∷ [])
    ≡ record { day = record { 0 = pos 3 }; number = 1; leg = leg_on (codes "a:b") (pos 1); description = codes "d" }
    ∷ record { day = record { 0 = pos 1 }; number = 2; leg = leg_on (codes "a") (pos 4); description = codes "d" } ∷ []
legs_listed = refl

abbrev pub day : ℤ → Day
day n = record { 0 = n }

abbrev pub sent : Transfer
sent = record {
  id = codes "t";
  source = codes "north";
  target = codes "south";
  unit = unit 0;
  qty = pos 5;
  day = day (pos 3);
  payer = codes "a";
  parts = [];
  receipt = Some (record { day = day (pos 4); payee = codes "b" });
}

abbrev pub branch : List ℕ → List Record → Branch
branch name records = record { name = name; locked = None; records = records }

abbrev pub federation : Style → Federation
federation style = record {
  styles = style ∷ [];
  branches = branch (codes "south") [] ∷ branch (codes "north") (row (pos 1) [] [] ∷ []) ∷ [];
  transfers = sent ∷ [];
}

-- nothing before its day; then its row, also where nothing is open
pub before_dispatch : (style : Style) → transit_rows (federation style) (day (pos 2)) ≡ []
unfolding transit_rows
before_dispatch style = refl

pub after_receipt : (style : Style)
    → transit_rows (federation style) (day (pos 4))
    ≡ open_cells (federation style) (day (pos 4)) (codes "north") (codes "south") (unit 0) ∷ []
unfolding transit_rows
after_receipt style = refl

-- a journal has each transaction and an empty line
pub journal_of_north : (style : Style)
    → branch_journal (federation style) (codes "north") ≡ (txn_text (style ∷ []) (txn (pos 1) []) ++ codes "\n") ++ []
unfolding branch_journal
journal_of_north style = refl
