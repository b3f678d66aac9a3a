-- The kinds of lines, and of those that are printed.
use Rattle.std.proofs.Common.{◌≡◌, ◌≤◌, ◌<◌, ◌-◌, ◌++◌, ◌==◌, ℕ, zero, suc, List, [], ◌∷◌, true, false, not, length}
use Rattle.std.proofs.Common.{take, slice_index, arith, refl, ap, ◌∙◌, sym, subst, Option, Some, inl, inr, nat_eq}
use Rattle.std.proofs.Common.{nat_lt, codes, reverse}
use Rattle.std.specs.Prelude.{is_some}
use Rattle.std.proofs.lemmas.Grind.{common_steps}
use Rattle.std.proofs.lemmas.Bool.{cases_Bool, and_parts, eqb-true, ltb-false}
use Rattle.std.specs.List.{list_all, position_or_len, after_first}
use Rattle.std.specs.Char.{is_ascii_digit}
use Rattle.std.proofs.lemmas.List.{get_or_append_left}
use lib.Pointwise.{pointwise}
use Rattle.money_core.specs.declared.day.Day.{Day}
use Rattle.journal_lines.specs.declared.header.Status.{Status}
use Rattle.journal_lines.specs.declared.line_kind.LineKind.TheVariants as kind
use Rattle.journal_lines.specs.Blank.{is_blank, first_solid, trim_start, trim_end, trim}
use Rattle.journal_lines.specs.Comment.{comment_of}
use Rattle.journal_lines.specs.LineKind.{kind_of, is_blank_line, is_block_start, is_comment_sign, is_remark}
use Rattle.journal_lines.specs.Date.{printed_date, IsDateText}
use Rattle.journal_lines.specs.Printed.{header_status, header_code, header_line, spaced_text, comment_line}
use Rattle.journal_lines.proofs.CutLemmas.{before_none, all_trim_start, trim_start_blanks}
use Rattle.journal_lines.proofs.HeaderLemmas.{comment_shows}

-- a line whose first byte is not `c` starts no block
no_block : (b : ℕ) (bs : List ℕ) → nat_eq b 99 ≡ false → (n : ℕ)
    → pointwise nat_eq (take n (b ∷ bs)) (codes "comment") ≡ false
no_block b bs h zero = refl
no_block b bs h (suc n) = rw h refl

-- a line after a blank is indented
pub kind_indented : (line : List ℕ) → is_blank (slice_index line 0) ≡ true → 0 < length (trim_start line)
    → kind_of line ≡ kind.Indented
unfolding is_block_start trim_end
kind_indented [] blank some = absurd cc
kind_indented (b ∷ bs) blank some = elim (cases_Bool (is_blank_line (b ∷ bs))) [
  | inl blanks ↦ absurd (omega (arith, some, ap length (trim_start_blanks (b ∷ bs) blanks)))
  | inr solid ↦ rw (
    solid,
    no_sign b blank,
    no_block b bs (no_c b blank) (length (b ∷ bs) - first_solid (reverse (b ∷ bs))),
    no_digit b blank,
    blank,
  ) refl
]
  where
    no_sign : (b : ℕ) → is_blank b ≡ true → is_comment_sign b ≡ false
    no_sign b h = grind (arith, common_steps)

    no_c : (b : ℕ) → is_blank b ≡ true → nat_eq b 99 ≡ false
    no_c b h = grind (arith, common_steps)

    no_digit : (b : ℕ) → is_blank b ≡ true → is_ascii_digit b ≡ false
    no_digit b h = grind (arith, common_steps)

-- a line that begins with a digit is a header
pub kind_header : (line : List ℕ) → is_ascii_digit (slice_index line 0) ≡ true → kind_of line ≡ kind.Header
unfolding is_block_start trim_end
kind_header [] h = absurd cc
kind_header (b ∷ bs) h =
    rw (solid b h, no_sign b h, no_block b bs (no_c b h) (length (b ∷ bs) - first_solid (reverse (b ∷ bs))), h) refl
  where
    solid : (b : ℕ) → is_ascii_digit b ≡ true → is_blank b ≡ false
    solid b h = grind (arith, common_steps)

    no_sign : (b : ℕ) → is_ascii_digit b ≡ true → is_comment_sign b ≡ false
    no_sign b h = grind (arith, common_steps)

    no_c : (b : ℕ) → is_ascii_digit b ≡ true → nat_eq b 99 ≡ false
    no_c b h = grind (arith, common_steps)

-- a printed header line
pub header_kind : (day : Day) (status : Option Status) (code : Option (List ℕ)) (text : List ℕ)
    → IsDateText day (printed_date day) → kind_of (header_line day status code text) ≡ kind.Header
unfolding header_line
header_kind day status code text date =
    let rest = header_status status ++ (header_code code ++ spaced_text text) in
    kind_header (printed_date day ++ rest)
    (ap is_ascii_digit (get_or_append_left (printed_date day) rest 0 0 (omega (arith, date.ten))) ∙ date.first)

-- a printed comment line
pub comment_kind : (text : List ℕ) → kind_of (comment_line text) ≡ kind.Indented
unfolding comment_line
comment_kind text =
    kind_indented (32 ∷ 32 ∷ 32 ∷ 32 ∷ 59 ∷ spaced_text text) refl (omega (arith, ap length (comment_shows text)))

pub comment_remark : (text : List ℕ) → is_remark (comment_line text) ≡ true
unfolding is_remark
comment_remark text = rw (comment_shows text) refl

-- a remark line has a comment
pub remark_text : (line : List ℕ) → is_remark line ≡ true → (text : List ℕ) × (comment_of line ≡ Some text)
unfolding is_remark comment_of
remark_text line h = elim (cases_Bool (nat_lt (position_or_len (λ b. b == 59) line) (length line))) [
  | inl found ↦ (trim (after_first (λ b. b == 59) line), rw found refl)
  | inr lacks ↦
      let whole : take (position_or_len (λ b. b == 59) line) line ≡ line =
      take_all (position_or_len (λ b. b == 59) line) line
      (ltb-false (position_or_len (λ b. b == 59) line) (length line) lacks) in
      let free : list_all (λ b. not (b == 59)) line ≡ true =
      subst (λ (xs : List ℕ). list_all (λ b. not (b == 59)) xs ≡ true) whole (before_none (λ b. b == 59) line) in
      absurd (no_sign (trim_start line) (all_trim_start (λ b. not (b == 59)) line free) h)
]
  where
    take_all : (n : ℕ) (xs : List ℕ) → length xs ≤ n → take n xs ≡ xs
    take_all n xs h = grind (arith, common_steps)

    no_sign : (xs : List ℕ) → list_all (λ b. not (b == 59)) xs ≡ true → (slice_index xs 0 == 59) ≡ true → ⊥
    no_sign [] k e = absurd cc
    no_sign (x ∷ xs) k e = let parts = and_parts (not (x == 59)) _ k in let one = ap not e in absurd cc

pub remark_has_comment : (line : List ℕ) → is_remark line ≡ true → is_some (comment_of line) ≡ true
remark_has_comment line h = ap is_some (remark_text line h).1

pub shown_remark : (line text : List ℕ) (first : ℕ) → text ≡ trim_start line → first ≡ slice_index text 0
    → (first == 59) ≡ true → is_some (comment_of line) ≡ true
unfolding is_remark
shown_remark line text first shown is sign =
    remark_has_comment line
    (ap (λ (t : List ℕ). slice_index t 0 == 59) (sym shown) ∙ (ap (λ (b : ℕ). b == 59) (sym is) ∙ sign))

-- a blank line shows nothing
pub blank_shows : (line : List ℕ) → is_blank_line line ≡ true → length (trim_start line) ≡ 0
blank_shows line h = ap length (trim_start_blanks line h)

-- what begins a block begins neither with a digit nor with a blank
pub block_first : (line : List ℕ) → is_block_start line ≡ true
    → (is_ascii_digit (slice_index line 0) ≡ false) × (is_blank (slice_index line 0) ≡ false)
unfolding is_block_start trim_end
block_first [] h = (refl, refl)
block_first (b ∷ bs) h = elim (cases_Bool (nat_eq b 99)) [
  | inl c ↦ (let is : b ≡ 99 = eqb-true b 99 c in (ap is_ascii_digit is, ap is_blank is))
  | inr other ↦ absurd (let e = no_block b bs other (length (b ∷ bs) - first_solid (reverse (b ∷ bs))) in cc)
]
