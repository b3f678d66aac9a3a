-- Texts without the blanks at their ends, and up to the first blank (own rule).
use Rattle.std.specs.Prelude.{ℕ, ◌-◌, List, length, take, drop, reverse, slice_index, Bool, ◌&&◌, not}
use Rattle.std.specs.List.{position_or_len, before_first}
pub use Rattle.money_core.specs.Blank.{is_blank}

-- the text up to the first blank
unfoldable pub first_word : List ℕ → List ℕ
first_word text = before_first is_blank text

-- where the first byte stands that is no blank, or the length
abbrev pub first_solid : List ℕ → ℕ
first_solid text = position_or_len (λ b. not (is_blank b)) text

-- a text without the blanks at its front
unfoldable pub trim_start : List ℕ → List ℕ
trim_start text = drop (first_solid text) text

-- a text without the blanks at its end
unfoldable pub trim_end : List ℕ → List ℕ
trim_end text = take (length text - first_solid (reverse text)) text

-- a text without the blanks at both ends
abbrev pub trim : List ℕ → List ℕ
trim text = trim_end (trim_start text)

-- no blank stands at either end
abbrev pub is_trimmed : List ℕ → Bool
is_trimmed text = not (is_blank (slice_index text 0)) && not (is_blank (slice_index text (length text - 1)))
