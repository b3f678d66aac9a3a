-- The faults of a header line, from left to right (own rule: a part with too many bytes comes first, then the date,
-- then the code).
use Rattle.std.specs.Prelude.{◌≡◌, ◌<◌, ◌⊎◌, ℕ, ◌==◌, List, [], ◌∷◌, ◌++◌, length, slice_index, Bool, true, false, ◌||◌}
use Rattle.std.specs.Prelude.{not, Option, None}
use Rattle.std.specs.List.{list_all}
use Rattle.money_core.specs.declared.day.Day.{Day}
use Rattle.journal_lines.specs.declared.header.Status.{Status}
use Rattle.journal_lines.specs.Blank.{is_blank, is_trimmed}
use Rattle.journal_lines.specs.Comment.{has_no}
use Rattle.journal_lines.specs.Date.{IsDate}
use Rattle.journal_lines.specs.Header.{code_limit, description_limit, comment_limit, length_of}
use Rattle.journal_lines.specs.HeaderForm.{status_text, code_text, is_closed, IsRemark}

-- the byte is a status
abbrev pub is_sign : ℕ → Bool
is_sign b = (b == 42) || (b == 33)

-- a line, whatever its date is: a word, then after blanks a status and a text, each optional, then the comment
pub record IsCut (line word text : List ℕ) (comment : Option (List ℕ)) : Type 0 where
  pub status : Option Status
  pub gap : List ℕ
  pub status_gap : List ℕ
  pub remark : List ℕ
  pub written : line ≡ word ++ (gap ++ (status_text status ++ (status_gap ++ (text ++ remark))))
  pub solid : list_all (λ b. not (is_blank b)) word ≡ true
  pub blanks : list_all is_blank (gap ++ status_gap) ≡ true
  -- after a word without a blank nothing stands but the comment
  pub apart : gap ≡ [] → (status ≡ None) × ((status_gap ≡ []) × (text ≡ []))
  pub starts : is_blank (slice_index text 0) ≡ false
  pub begins : status ≡ None → is_sign (slice_index text 0) ≡ false
  pub uncommented : has_no 59 (word ++ text) ≡ true
  pub commented : IsRemark comment remark

-- the text is a code, which ends at the first `)`, and a description, each optional, with blanks after each
pub record IsCoded (text : List ℕ) (code : Option (List ℕ)) (description : List ℕ) : Type 0 where
  pub gap : List ℕ
  pub end_gap : List ℕ
  pub written : text ≡ code_text code ++ (gap ++ (description ++ end_gap))
  pub blanks : list_all is_blank (gap ++ end_gap) ≡ true
  pub closed : is_closed code ≡ true
  pub trimmed : is_trimmed description ≡ true
  pub begins : code ≡ None → (slice_index description 0 == 40) ≡ false

-- the code or the description has too many bytes
abbrev pub IsLongText : List ℕ → Type 0
IsLongText text =
    (code : Option (List ℕ)) × ((description : List ℕ)
    × (IsCoded text code description × ((code_limit < length_of code) ⊎ (description_limit < length description))))

-- a part has too many bytes: the code, the description or the comment
pub record HasLongPart (line : List ℕ) : Type 0 where
  pub word : List ℕ
  pub text : List ℕ
  pub comment : Option (List ℕ)
  pub cut : IsCut line word text comment
  pub long : IsLongText text ⊎ (comment_limit < length_of comment)

-- no part has too many bytes, and what stands before the first blank or `;` is no date
pub record HasNoDate (line : List ℕ) : Type 0 where
  pub word : List ℕ
  pub text : List ℕ
  pub comment : Option (List ℕ)
  pub cut : IsCut line word text comment
  pub short : ¬ (HasLongPart line)
  pub undated : (day : Day) → ¬ (IsDate word day)

-- no part has too many bytes, the date is one, and after it stands `(` without `)`
pub record HasOpenCode (line : List ℕ) : Type 0 where
  pub word : List ℕ
  pub rest : List ℕ
  pub comment : Option (List ℕ)
  pub day : Day
  pub cut : IsCut line word (40 ∷ rest) comment
  pub short : ¬ (HasLongPart line)
  pub dated : IsDate word day
  pub unclosed : has_no 41 rest ≡ true
