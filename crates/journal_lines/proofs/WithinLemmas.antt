-- No part of a line has more bytes than the line, so that a short line has no part of too many.
use Rattle.std.proofs.Common.{◌≡◌, ◌≤◌, ◌==◌, ◌+◌, ℕ, List, Bool, true, false, ◌||◌, length, take, drop, slice_index}
use Rattle.std.proofs.Common.{arith, refl, sym, subst, Some, None, nat_lt, if◌then◌else◌}
use Rattle.std.proofs.lemmas.Bool.{le-ltb}
use Rattle.std.proofs.lemmas.List.{length-take, length-drop}
use Rattle.std.proofs.Math.Nat.{min-le_right}
use Rattle.std.specs.List.{position_or_len, before_first, after_first}
use Rattle.journal_lines.specs.Blank.{is_blank, trim, trim_start, trim_end, first_solid}
use Rattle.journal_lines.specs.Comment.{front_of, comment_of}
use Rattle.journal_lines.specs.Header.{length_of, behind_status}
use Rattle.journal_lines.specs.HeaderReading.{closed_code, code_at, behind_date, cut_header, is_coded_long, is_cut_long}

take_within : (n : ℕ) (xs : List ℕ) → length (take n xs) ≤ length xs
take_within n xs = subst (λ (k : ℕ). k ≤ length xs) (sym (length-take n xs)) (min-le_right n (length xs))

drop_within : (n : ℕ) (xs : List ℕ) → length (drop n xs) ≤ length xs
drop_within n xs = omega (arith, length-drop n xs)

trim_start_within : (xs : List ℕ) → length (trim_start xs) ≤ length xs
unfolding trim_start
trim_start_within xs = drop_within (first_solid xs) xs

trim_end_within : (xs : List ℕ) → length (trim_end xs) ≤ length xs
unfolding trim_end
trim_end_within xs = take_within _ xs

front_within : (line : List ℕ) → length (front_of line) ≤ length line
unfolding front_of
front_within line = take_within _ line

behind_date_within : (front : List ℕ) → length (behind_date front) ≤ length front
unfolding behind_date
behind_date_within front = let rest =
    drop (position_or_len is_blank front) front in omega
    (arith, trim_start_within rest, drop_within (position_or_len is_blank front) front)

behind_status_within : (text : List ℕ) → length (behind_status text) ≤ length text
unfolding behind_status
behind_status_within text = at ((slice_index text 0 == 42) || (slice_index text 0 == 33))
  where
    at : (b : Bool) → length (if b then trim_start (drop 1 text) else text) ≤ length text
    at true = omega (arith, trim_start_within (drop 1 text), drop_within 1 text)
    at false = omega arith

-- the comment of a line
pub comment_within : (line : List ℕ) → length_of (comment_of line) ≤ length line
unfolding comment_of
comment_within line = at (nat_lt (position_or_len (λ b. b == 59) line) (length line))
  where
    at : (b : Bool) → length_of (if b then Some (trim (after_first (λ b. b == 59) line)) else None) ≤ length line
    at true =
        let rest = after_first (λ b. b == 59) line in
        omega (
          arith,
          trim_end_within (trim_start rest),
          trim_start_within rest,
          drop_within (position_or_len (λ b. b == 59) line + 1) line,
        )
    at false = omega arith

coded_within : (text : List ℕ) → length text ≤ 100 → is_coded_long (code_at text) ≡ false
unfolding code_at
coded_within text short = at (slice_index text 0 == 40)
  where
    inner : List ℕ
    inner = drop 1 text

    closed : (b : Bool) → is_coded_long
        (if b then Some
        (record {
          code = Some (before_first (λ b. b == 41) inner);
          rest = trim_start (after_first (λ b. b == 41) inner);
        }) else None) ≡ false
    closed true =
        let place = position_or_len (λ b. b == 41) inner in
        let rest = after_first (λ b. b == 41) inner in
        rw (
          le-ltb 100 (length (before_first (λ b. b == 41) inner))
              (omega (arith, short, drop_within 1 text, take_within place inner)),
          le-ltb 500 (length (trim_end (trim_start rest)))
              (omega (
                arith,
                short,
                drop_within 1 text,
                drop_within (place + 1) inner,
                trim_start_within rest,
                trim_end_within (trim_start rest),
              )),
        ) refl
    closed false = refl

    at : (b : Bool) → is_coded_long (if b then closed_code inner else Some (record { code = None; rest = text }))
        ≡ false
    at true = closed (nat_lt (position_or_len (λ b. b == 41) inner) (length inner))
    at false = le-ltb 500 (length (trim_end text)) (omega (arith, short, trim_end_within text))

-- the parts of a header as short as a code may be
pub header_within : (line : List ℕ) → length line ≤ 100 → is_cut_long (cut_header line) ≡ false
unfolding cut_header
header_within line short =
    let front = front_of line in
    let fits : length (behind_status (behind_date front)) ≤ 100 =
    omega (arith, short, front_within line, behind_date_within front, behind_status_within (behind_date front)) in
    rw (
      coded_within (behind_status (behind_date front)) fits,
      le-ltb 900 (length_of (comment_of line)) (omega (arith, short, comment_within line)),
    ) refl
