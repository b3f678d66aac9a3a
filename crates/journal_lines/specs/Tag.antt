-- The tags of a comment (hledger manual, "Tags"). What a tag's name may hold, and that it follows the start, a blank or
-- a comma, are own rules.
use Rattle.std.specs.Prelude.{ℕ, ◌≡◌, ◌<◌, ◌≤◌, ◌+◌, ◌++◌, ◌==◌, nat_lt, List, [], ◌∷◌, length, slice_index, take, drop}
use Rattle.std.specs.Prelude.{Bool, true, ◌&&◌, ◌||◌, not, if◌then◌else◌, Option, Some, None, option_to_list}
use Rattle.std.specs.Char.{is_ascii_digit, is_ascii_alphabetic}
use Rattle.std.specs.List.{list_all, position_or_len, slice_split, filter_map}
use Rattle.journal_lines.specs.Blank.{is_blank, trim}

-- a byte of a tag's name: an ASCII letter, a digit, `-` or `_`
abbrev pub is_tag_byte : ℕ → Bool
is_tag_byte b = is_ascii_alphabetic b || is_ascii_digit b || (b == 45) || (b == 95)

-- how many bytes of a name stand at the front
abbrev pub name_len : List ℕ → ℕ
name_len text = position_or_len (λ b. not (is_tag_byte b)) text

-- a name stands at the front, directly followed by `:`
unfoldable pub starts_tag : List ℕ → Bool
starts_tag text = nat_lt 0 (name_len text) && (slice_index text (name_len text) == 58)

-- the name and the value at the front
unfoldable pub tag_at : List ℕ → List ℕ × List ℕ
tag_at text = (take (name_len text) text, trim (drop (name_len text + 1) text))

-- the first tag of a text without commas, given whether its front is the start of a text or follows a blank
unfoldable pub first_tag : Bool → List ℕ → Option (List ℕ × List ℕ)
first_tag fresh [] = None
first_tag fresh (b ∷ rest) =
    if fresh && starts_tag (b ∷ rest) then Some (tag_at (b ∷ rest)) else first_tag (is_blank b) rest

-- the tags of a comment: a value runs to the next comma or the end, so each part between commas has one tag at most
abbrev pub tags_of : List ℕ → List (List ℕ × List ℕ)
tags_of comment = filter_map (first_tag true) (slice_split (λ b. b == 44) comment)

-- whether a name may begin after a text, given whether it may begin before it: where nothing was passed, or after a
-- blank
abbrev pub may_begin : Bool → List ℕ → Bool
may_begin fresh [] = fresh
may_begin fresh (b ∷ rest) = may_begin (is_blank b) rest

-- the text holds the tag: a name that may begin there, directly followed by `:`, and the value after it
pub record HasTag (fresh : Bool) (text : List ℕ) (tag : List ℕ × List ℕ) : Type 0 where
  pub front : List ℕ
  pub rest : List ℕ
  pub written : text ≡ front ++ (tag.0 ++ (58 ∷ rest))
  pub begins : may_begin fresh front ≡ true
  pub name : list_all is_tag_byte tag.0 ≡ true
  pub named : 0 < length tag.0
  pub value : tag.1 ≡ trim rest

-- the text holds the tag, and none before it
pub record IsFirstTag (fresh : Bool) (text : List ℕ) (tag : List ℕ × List ℕ) : Type 0 where
  pub has : HasTag fresh text tag
  pub first : (other : List ℕ × List ℕ) → (h : HasTag fresh text other) → length has.front ≤ length h.front

-- the first tag of a text, or that it holds none
abbrev pub IsTagOf : Bool → List ℕ → Option (List ℕ × List ℕ) → Type 0
IsTagOf fresh text None = (tag : List ℕ × List ℕ) → ¬ (HasTag fresh text tag)
IsTagOf fresh text (Some tag) = IsFirstTag fresh text tag

-- the parts of a comment between its commas
abbrev pub comment_parts : List ℕ → List (List ℕ)
comment_parts comment = slice_split (λ b. b == 44) comment

-- the tags of these parts in order: of each the first, if it has one
abbrev pub AreTagsOf : List (List ℕ) → List (List ℕ × List ℕ) → Type 0
AreTagsOf [] tags = tags ≡ []
AreTagsOf (part ∷ parts) tags =
    (found : Option (List ℕ × List ℕ)) × ((rest : List (List ℕ × List ℕ))
    × ((tags ≡ option_to_list found ++ rest) × (IsTagOf true part found × AreTagsOf parts rest)))
