-- Account names (hledger manual, "Account names"). What a well-formed name lacks and how long it is are own rules.
use Rattle.std.specs.Prelude.{ℕ, ◌≡◌, ◌+◌, ◌≤◌, ◌<◌, ◌==◌, nat_le, nat_lt, List, [], ◌∷◌, ◌++◌, length, slice_index}
use Rattle.std.specs.Prelude.{codes, Bool, true, false, not, ◌&&◌, ◌||◌, ◌⊎◌, if◌then◌else◌}
use Rattle.std.specs.List.{list_all, slice_split}
use Rattle.journal_lines.specs.Blank.{is_blank}
use Rattle.journal_lines.specs.Printed.{is_clean}

-- a byte that a name may have: no `;`, and no ASCII control character, tabs among them
abbrev pub is_account_name_byte : ℕ → Bool
is_account_name_byte b = not (b == 59) && nat_le 32 b && not (b == 127)

-- the parts of a name, between its colons
abbrev pub parts : List ℕ → List (List ℕ)
parts name = slice_split (λ b. b == 58) name

-- there is something
abbrev pub is_part : List ℕ → Bool
is_part part = nat_lt 0 (length part)

-- a space before another, or at the end
abbrev pub is_gap : ℕ → List ℕ → Bool
is_gap b [] = b == 32
is_gap b (next ∷ rest) = (b == 32) && (next == 32)

-- two spaces stand together, or one at the end
abbrev pub has_gap : List ℕ → Bool
has_gap [] = false
has_gap (b ∷ rest) = is_gap b rest || has_gap rest

-- a byte with which no name begins: a space, `*`, `!`, `(` or `[`
abbrev pub bars_start : ℕ → Bool
bars_start b = (b == 32) || (b == 42) || (b == 33) || (b == 40) || (b == 91)

-- the most bytes of a name
abbrev pub name_limit : ℕ
name_limit = 200

-- the name is well formed
pub record IsAccount (name : List ℕ) : Type 0 where
  pub short : length name ≤ name_limit
  pub parts : list_all is_part (parts name) ≡ true
  pub bytes : list_all is_account_name_byte name ≡ true
  pub gaps : has_gap name ≡ false
  pub start : bars_start (slice_index name 0) ≡ false

-- the same as a test
unfoldable pub is_account : List ℕ → Bool
is_account name =
    nat_le (length name) name_limit && list_all is_part (parts name) && list_all is_account_name_byte name
    && not (has_gap name) && not (bars_start (slice_index name 0))

-- a name ends before a tab, before a space that a blank follows, and before a single space at the end
abbrev pub ends_name : ℕ → List ℕ → Bool
ends_name b [] = (b == 9) || (b == 32)
ends_name b (next ∷ rest) = (b == 9) || ((b == 32) && is_blank next)

-- where the name at the front of a posting's text ends, its comment left out
unfoldable pub name_end : List ℕ → ℕ
name_end [] = 0
name_end (b ∷ rest) = if ends_name b rest then 0 else 1 + name_end rest

-- a name's byte ends it nowhere
abbrev pub is_unbroken : List ℕ → Bool
is_unbroken [] = true
is_unbroken (b ∷ rest) = not (ends_name b rest) && is_unbroken rest

-- what a cutter of lines may count on: the name has a first byte, which is no blank and begins no status, code or
-- comment, and no byte ends it
pub record IsWholeName (name : List ℕ) : Type 0 where
  pub some : 0 < length name
  pub short : length name ≤ name_limit
  pub bytes : list_all is_account_name_byte name ≡ true
  pub clean : list_all is_clean name ≡ true
  pub first : bars_start (slice_index name 0) ≡ false
  pub solid : is_blank (slice_index name 0) ≡ false
  pub unbroken : is_unbroken name ≡ true

-- the account under which branches keep what they owe one another
abbrev pub transit : List ℕ
transit = codes "assets:transit"

-- the account is the transit account or below it
abbrev pub IsReserved : List ℕ → Type 0
IsReserved account = (account ≡ transit) ⊎ ((rest : List ℕ) × (account ≡ transit ++ 58 ∷ rest))
