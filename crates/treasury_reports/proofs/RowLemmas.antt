-- Rows that were written one after another are those of the report.
use Rattle.std.proofs.Common.{◌≡◌, ◌∙◌, ◌++◌, ◌∷◌, ℕ, List, [], map, drop, refl, sym, ap, ap₂}
use Rattle.std.proofs.Common.{append-nil, Bool, true, false}
use Rattle.std.proofs.Common.{Result, Ok, Err, OnOk}
use Rattle.std.specs.Prelude.{codes, if◌then◌else◌}
use Rattle.std.specs.List.{flat_map}
use Rattle.std.proofs.lemmas.Grind.{flat_map-append}
use Rattle.json_text.specs.JsonText.{strings_text}
use Rattle.money_core.specs.declared.cause.Cause.{Cause}
use Rattle.money_core.specs.declared.style.Style.{Style}
use Rattle.journal_format.specs.declared.txn.Txn.{Txn}
use Rattle.journal_format.specs.CanonicalText.{txn_text, journal_text}
use Rattle.treasury_reports.specs.declared.rows.Layout.{Layout}
use Rattle.treasury_reports.specs.declared.rows.Layout.TheVariants.{Text, Json}
use Rattle.treasury_reports.specs.declared.rows.Column.{Column}
use Rattle.treasury_reports.specs.Rows.{Row, strings_of, row_line, report_as}
use Rattle.treasury_reports.specs.Written.{row_in, rows_in, written_in}
use Rattle.treasury_reports.specs.JournalReport.{txn_cells}
use Rattle.treasury_reports.proofs.ListLemmas.{flat_map-map}

-- a cell, and those after it
pub cell_then : (column : Column) (x y : List ℕ) (xs ys : Row) → x ≡ y → xs ≡ ys
    → (column, x) ∷ xs ≡ (column, y) ∷ ys
cell_then column x y xs ys e f = ap₂ (λ (text : List ℕ) (more : Row). (column, text) ∷ more) e f

-- all that were written
written_rows : (layout : Layout) (rows : List Row) → written_in layout (rows_in layout rows) ≡ report_as layout rows
written_rows Text rows = refl
written_rows Json rows =
    ap (λ (l : List ℕ). codes "[" ++ drop 1 l ++ codes "]")
    (flat_map-map strings_of (λ (strings : List (List ℕ)). codes "," ++ strings_text strings) rows)

-- what is appended, where a call did not fail
pub appended_rows : (layout : Layout) (r : Result (Unit {0}) Cause) (old new written : List ℕ) (rows : List Row)
    → written ≡ rows_in layout rows → OnOk r (new ≡ old ++ written_in layout written)
    → OnOk r (new ≡ old ++ report_as layout rows)
appended_rows layout (Ok x) old new written rows e h =
    h ∙ ap (λ (l : List ℕ). old ++ l) (ap (written_in layout) e ∙ written_rows layout rows)
appended_rows layout (Err x) old new written rows e h = tt

-- rows of one element each
pub mapped_rows : {X : Type 0} (layout : Layout) (row : X → Row) (xs : List X)
    → flat_map (λ x. row_in layout (row x)) xs ≡ rows_in layout (map row xs)
mapped_rows layout row xs = flat_map-map row (row_in layout) xs

-- rows of several elements each
pub joined_rows : {X : Type 0} (layout : Layout) (rows : X → List Row) (xs : List X)
    → flat_map (λ x. rows_in layout (rows x)) xs ≡ rows_in layout (flat_map rows xs)
joined_rows layout rows [] = refl
joined_rows {X} layout rows (x ∷ xs) =
    ap (λ (l : List ℕ). rows_in layout (rows x) ++ l) (joined_rows layout rows xs)
    ∙ sym (flat_map-append (row_in layout) (rows x) (flat_map rows xs))

-- a row that is there or not
pub row_if : (layout : Layout) (r : Result (Unit {0}) Cause) (old new : List ℕ) (b : Bool) (row : Row) → b ≡ true
    → OnOk r (new ≡ old ++ row_in layout row)
    → OnOk r (new ≡ old ++ rows_in layout (if b then row ∷ [] else []))
row_if layout (Ok x) old new b row e h =
    h ∙ ap (λ (l : List ℕ). old ++ l) (sym (append-nil (row_in layout row)))
    ∙ ap (λ (t : Bool). old ++ rows_in layout (if t then row ∷ [] else [])) (sym e)
row_if layout (Err x) old new b row e h = tt

pub no_row_if : (layout : Layout) (old : List ℕ) (b : Bool) (row : Row) → b ≡ false
    → old ≡ old ++ rows_in layout (if b then row ∷ [] else [])
no_row_if layout old b row e =
    sym (ap (λ (t : Bool). old ++ rows_in layout (if t then row ∷ [] else [])) e ∙ append-nil old)

-- a journal is the lines of its transactions
pub journal_lines : (styles : List Style) (ts : List Txn)
    → journal_text styles ts ≡ flat_map row_line (map (txn_cells styles) ts)
journal_lines styles [] = refl
journal_lines styles (t ∷ ts) =
    ap₂ (λ (l more : List ℕ). (l ++ codes "\n") ++ more)
    (sym (append-nil ((txn_text styles t ++ [])) ∙ append-nil (txn_text styles t))) (journal_lines styles ts)
