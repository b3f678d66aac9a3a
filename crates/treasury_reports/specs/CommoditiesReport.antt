-- The commodities, by their samples (own rule; docs/FORMATS.md, "Commodities report").
use Rattle.std.specs.Prelude.{◌≡◌, ℕ, Bool, if◌then◌else◌, List, ◌∷◌, ◌++◌, codes, replicate, slice_get, Some}
use Rattle.std.specs.Prelude.{[], map}
use Rattle.money_core.specs.declared.style.Style.{Style}
use Rattle.money_core.specs.declared.mark.Mark.{Mark}
use Rattle.money_core.specs.Mark.{decimal_byte, group_byte}
use Rattle.money_core.specs.AmountText.{gap, printed_symbol}
use Rattle.money_core.specs.Style.{IsSample}
use Rattle.treasury_state.specs.Federation.{Federation}
use Rattle.treasury_reports.specs.declared.rows.Column.TheVariants.{End}
use Rattle.treasury_reports.specs.Rows.{Row}

-- a thousand, in groups or not
abbrev pub thousand : Mark → Bool → List ℕ
thousand mark grouped = if grouped then codes "1" ++ group_byte mark ∷ codes "000" else codes "1000"

-- a thousand in a style, with its decimal mark, also where an amount would have none
unfoldable pub sample_number : Style → List ℕ
sample_number s = thousand s.mark s.grouped ++ decimal_byte s.mark ∷ replicate s.decimals 48

-- the canonical sample of a style
unfoldable pub sample_text : Style → List ℕ
sample_text s =
    if s.left then printed_symbol s.symbol ++ (gap s.spaced ++ sample_number s)
    else sample_number s ++ (gap s.spaced ++ printed_symbol s.symbol)

-- the sample alone
abbrev pub sample_cells : Style → Row
sample_cells s = (End, sample_text s) ∷ []

-- the report: the commodities, in declared order
abbrev pub commodities_rows : Federation → List Row
commodities_rows f = map sample_cells f.styles

-- what stands in each line is a sample of its style
abbrev pub AreSamples : List Style → Type 0
AreSamples styles = (i : ℕ) (s : Style) → slice_get styles i ≡ Some s → IsSample (sample_text s) s
