-- Values worked out by hand, so that a wrong definition does not check.
use Rattle.std.specs.Prelude.{◌≡◌, ℕ, pos, negsuc, List, [], ◌∷◌, codes, Bool, true, false, Option, Some, None, refl}
use Rattle.money_core.specs.declared.style.Style.{Style}
use Rattle.money_core.specs.declared.mark.Mark.{Mark}
use Rattle.money_core.specs.declared.mark.Mark.TheVariants.{Point, Comma}
use Rattle.money_core.specs.declared.day.Day.{Day}
use Rattle.money_core.specs.AmountText.{printed_symbol}
use Rattle.journal_lines.specs.Date.{is_in_calendar}
use Rattle.treasury_state.specs.declared.transfer.Part.{Part}
use Rattle.treasury_state.specs.declared.transfer.Receipt.{Receipt}
use Rattle.treasury_state.specs.declared.transfer.Transfer.{Transfer}
use Rattle.treasury_state.specs.Transfer.{open_of}
use Rattle.treasury_reports.specs.BranchesReport.{lock_cell}
use Rattle.treasury_reports.specs.CommoditiesReport.{sample_number, sample_text}
use Rattle.treasury_reports.specs.TransfersReport.{pending}

-- ---- locks
pub unlocked : lock_cell None ≡ []
unlocked = refl

-- 9999-12-31 is the last day, 0001-01-01 the first
pub last_day : is_in_calendar (record { 0 = pos 2932896 }) ≡ true
last_day = refl

pub past_days : lock_cell (Some (record { 0 = pos 2932897 })) ≡ codes "?"
past_days = refl

pub first_day : is_in_calendar (record { 0 = negsuc 719161 }) ≡ true
first_day = refl

pub before_days : lock_cell (Some (record { 0 = negsuc 719162 })) ≡ codes "?"
before_days = refl

-- ---- samples
abbrev style : List ℕ → Bool → Bool → Mark → ℕ → Bool → Style
style symbol left spaced mark decimals grouped = record {
  symbol = symbol;
  left = left;
  spaced = spaced;
  mark = mark;
  decimals = decimals;
  grouped = grouped;
}

pub euros : sample_number (style (codes "EUR") false true Point 2 true) ≡ codes "1,000.00"
unfolding sample_number
euros = refl

-- the decimal mark stands there without decimals, too
pub yen : sample_number (style (codes "JPY") false true Point 0 false) ≡ codes "1000."
unfolding sample_number
yen = refl

pub with_commas : sample_number (style (codes "$") true false Comma 2 true) ≡ codes "1.000,00"
unfolding sample_number
with_commas = refl

-- a symbol that needs quotes has them
pub kilograms : sample_text (style (codes "kg 2") false true Comma 3 false) ≡ codes "1000,000 \"kg 2\""
unfolding sample_text sample_number printed_symbol
kilograms = refl

pub on_the_left : sample_text (style (codes "kg 2") true true Point 2 true) ≡ codes "\"kg 2\" 1,000.00"
unfolding sample_text sample_number printed_symbol
on_the_left = refl

-- ---- transfers
abbrev on : ℕ → Day
on n = record { 0 = pos n }

abbrev sent : List ℕ → ℕ → List Part → Option Receipt → Transfer
sent id day parts receipt = record {
  id = id;
  source = codes "north";
  target = codes "south";
  unit = record { 0 = 0 };
  qty = pos 50;
  day = on day;
  payer = codes "a";
  parts = parts;
  receipt = receipt;
}

abbrev part : ℕ → ℕ → Part
part qty day = record { key = codes "k"; qty = pos qty; day = on day; payee = codes "b" }

abbrev rest : ℕ → Option Receipt
rest day = Some (record { day = on day; payee = codes "b" })

-- whole, in part, settled on the day, settled on a later one, and dispatched later
abbrev whole : Transfer
whole = sent (codes "t1") 10 [] None

abbrev in_part : Transfer
in_part = sent (codes "t2") 11 (part 30 12 ∷ []) None

abbrev settled : Transfer
settled = sent (codes "t3") 10 (part 30 11 ∷ []) (rest 12)

abbrev settled_later : Transfer
settled_later = sent (codes "t4") 10 (part 30 12 ∷ []) (rest 13)

abbrev later : Transfer
later = sent (codes "t5") 13 [] None

pub through_12 : pending (on 12) (whole ∷ in_part ∷ settled ∷ settled_later ∷ later ∷ [])
    ≡ whole ∷ in_part ∷ settled_later ∷ []
through_12 = refl

pub all_open : open_of in_part (on 11) ≡ pos 50
all_open = refl

pub part_open : open_of in_part (on 12) ≡ pos 20
part_open = refl

pub later_open : open_of settled_later (on 12) ≡ pos 20
later_open = refl

-- on the last day that there is, what is listed is what may still be received
pub at_last : pending (on 2932896) (whole ∷ in_part ∷ settled ∷ settled_later ∷ later ∷ [])
    ≡ whole ∷ in_part ∷ later ∷ []
at_last = refl
