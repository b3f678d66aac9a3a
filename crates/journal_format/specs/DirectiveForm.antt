-- The form of a directive `commodity` and of the lines below it (hledger manual, "Declaring commodities"). That it
-- declares nothing, and has to agree with the declared styles, are own rules.
use Rattle.std.specs.Prelude.{◌≡◌, ◌≢◌, ℕ, List, [], ◌++◌, length, drop, codes, slice_get, true, Option, Some, ◌⊎◌}
use Rattle.std.specs.List.{list_all}
use Rattle.money_core.specs.declared.style.Style.{Style}
use Rattle.money_core.specs.declared.unit.Unit.{Unit as Commodity}
use Rattle.money_core.specs.Symbol.{WritesSymbol}
use Rattle.money_core.specs.Amount.{place_of}
use Rattle.money_core.specs.Style.{IsSample}
use Rattle.journal_lines.specs.Blank.{is_blank, first_word, trim_start, trim}
use Rattle.journal_lines.specs.HeaderForm.{IsRemark}

-- what follows the first word, without blanks at its ends
abbrev pub behind_word : List ℕ → List ℕ
behind_word text = trim (drop (length (first_word text)) text)

-- the text is a sample of the commodity, and shows the decimal mark and the number of decimals of its declared style
pub record IsSampleOf (styles : List Style) (unit : Commodity) (text : List ℕ) : Type 0 where
  pub sample : Style
  pub style : Style
  pub spelled : IsSample text sample
  pub declared : place_of styles sample.symbol ≡ Some unit.0
  pub its_style : slice_get styles unit.0 ≡ Some style
  pub mark : sample.mark ≡ style.mark
  pub decimals : sample.decimals ≡ style.decimals

-- the text is the symbol of the commodity, bare or in quotes
pub record IsSymbolOf (styles : List Style) (unit : Commodity) (text : List ℕ) : Type 0 where
  pub symbol : List ℕ
  pub written : WritesSymbol symbol text
  pub declared : place_of styles symbol ≡ Some unit.0

-- the line is that word, blanks, such a text, and a comment
pub record HasBehind (word : List ℕ) (is : List ℕ → Type 0) (line : List ℕ) : Type 0 where
  pub gap : List ℕ
  pub text : List ℕ
  pub end_gap : List ℕ
  pub remark : List ℕ
  pub written : line ≡ word ++ (gap ++ (text ++ (end_gap ++ remark)))
  pub blanks : list_all is_blank (gap ++ end_gap) ≡ true
  pub apart : gap ≢ []
  pub holds : is text
  pub comment : Option (List ℕ)
  pub commented : IsRemark comment remark

-- the line of a directive names a declared commodity, by a sample or by its symbol
abbrev pub NamesCommodity : List Style → Commodity → List ℕ → Type 0
NamesCommodity styles unit line =
    HasBehind (codes "commodity") (λ text. IsSampleOf styles unit text ⊎ IsSymbolOf styles unit text) line

-- a line below the directive of that commodity is skipped, unless its first word is `format`; then a sample of that
-- commodity follows
abbrev pub IsBelow : List Style → Commodity → List ℕ → Type 0
IsBelow styles unit line = (first_word (trim_start line) ≢ codes "format")
    ⊎ HasBehind (codes "format") (IsSampleOf styles unit) (trim_start line)
