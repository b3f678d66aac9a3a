-- What a symbol has of a part of an account name (own rule; docs/FORMATS.md, "Account names").
use Rattle.std.specs.Prelude.{◌≡◌, ◌<◌, ◌≤◌, ℕ, ◌-◌, ◌==◌, nat_le, List, length, slice_index, Bool, true, false, ◌&&◌}
use Rattle.std.specs.Prelude.{not}
use Rattle.std.specs.List.{list_all}
use Rattle.std.specs.Str.{is_utf8}
use Rattle.money_core.specs.Symbol.{longest_symbol, no_double, is_symbol}

-- no ASCII control character, no `:` and no `;`
abbrev pub is_part_byte : ℕ → Bool
is_part_byte b = nat_le 32 b && not (b == 127) && not (b == 58) && not (b == 59)

-- it can stand in an account name between two bytes that are no spaces
pub record IsNamePart (bytes : List ℕ) : Type 0 where
  pub some : 0 < length bytes
  pub short : length bytes ≤ longest_symbol
  pub utf8 : is_utf8 bytes ≡ true
  pub good : list_all is_part_byte bytes ≡ true
  pub single : no_double bytes ≡ true
  pub first : (slice_index bytes 0 == 32) ≡ false
  pub last : (slice_index bytes (length bytes - 1) == 32) ≡ false

-- each symbol can stand so
abbrev pub SymbolsAreNameParts : Type 0
SymbolsAreNameParts = (symbol : List ℕ) → is_symbol symbol ≡ true → IsNamePart symbol
