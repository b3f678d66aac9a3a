-- What a commodity's symbol is (hledger manual, "Commodity"; which characters need quotes, and the length, are own
-- rules).
use Rattle.std.specs.Prelude.{◌≡◌, ℕ, ◌-◌, ◌==◌, nat_lt, nat_le, List, [], ◌∷◌, ◌++◌, length, slice_index, Bool, true}
use Rattle.std.specs.Prelude.{◌&&◌, not, ◌⊎◌}
use Rattle.std.specs.Char.{is_whitespace}
use Rattle.std.specs.List.{list_all, list_any}
use Rattle.std.specs.Str.{chars, is_utf8}
use Rattle.money_core.specs.declared.class.Class.TheVariants.{Symbol}
use Rattle.money_core.specs.Class.{is_of_class}

-- the greatest length of a symbol, in bytes
abbrev pub longest_symbol : ℕ
longest_symbol = 24

-- some bytes, and not too many
abbrev pub is_short_symbol : List ℕ → Bool
is_short_symbol symbol = nat_lt 0 (length symbol) && nat_le (length symbol) longest_symbol

-- a text of which no character is white space
abbrev pub is_dense : List ℕ → Bool
is_dense bytes = is_utf8 bytes && not (list_any is_whitespace (chars bytes))

-- a symbol that can stand without quotes
abbrev pub is_bare : List ℕ → Bool
is_bare symbol = is_short_symbol symbol && list_all (is_of_class Symbol) symbol && is_dense symbol

-- a byte that may stand in quotes: no ASCII control character, no `"`, `:` or `;`
abbrev pub is_quoted_byte : ℕ → Bool
is_quoted_byte b = nat_le 32 b && not (b == 127) && not (b == 34) && not (b == 58) && not (b == 59)

-- no two spaces stand together
abbrev pub no_double : List ℕ → Bool
no_double [] = true
no_double (b ∷ bs) = not ((b == 32) && (slice_index bs 0 == 32)) && no_double bs

-- no space stands at an end
abbrev pub has_no_outer_space : List ℕ → Bool
has_no_outer_space symbol = not (slice_index symbol 0 == 32) && not (slice_index symbol (length symbol - 1) == 32)

-- a symbol: one that can stand in quotes
abbrev pub is_symbol : List ℕ → Bool
is_symbol symbol =
    is_short_symbol symbol && is_utf8 symbol && list_all is_quoted_byte symbol && no_double symbol
    && has_no_outer_space symbol

-- the symbol in quotes
abbrev pub in_quotes : List ℕ → List ℕ
in_quotes symbol = 34 ∷ (symbol ++ 34 ∷ [])

-- this is how the symbol may be written: bare, or in quotes
abbrev pub WritesSymbol : List ℕ → List ℕ → Type 0
WritesSymbol symbol written =
    ((is_bare symbol ≡ true) × (written ≡ symbol)) ⊎ ((is_symbol symbol ≡ true) × (written ≡ in_quotes symbol))
