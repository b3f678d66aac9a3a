-- A printed number reads as the quantity that was printed.
use Rattle.std.proofs.Common.{◌≡◌, ◌≤◌, ◌<◌, ◌+◌, ◌*◌, ◌/◌, ◌%◌, ◌^◌, ◌++◌, ◌==◌, ℕ, zero, suc, List, [], ◌∷◌, Bool}
use Rattle.std.proofs.Common.{true, false, not, ◌&&◌, length, take, drop, arith, filter, replicate, refl, ◌∙◌}
use Rattle.std.proofs.Common.{append-nil, inl, inr, sym, decimal, nat_lt, length-append, lit<}
use Rattle.std.proofs.lemmas.Grind.{common_steps}
use Rattle.std.proofs.Math.Nat.{pow-suc, mul_assoc}
use Rattle.std.proofs.lemmas.Bool.{cases_lt, cases_Bool, and_parts, not-true, eq-eqb, ne_eqb}
use Rattle.std.specs.Char.{is_ascii_digit, digit_value}
use Rattle.std.specs.List.{list_all, slice_split, onto_first, position_or_len}
use Rattle.std.specs.Str.Parse.{digits_value_after}
use Rattle.std.proofs.lemmas.Fmt.{decimal_by_steps, decimal_nonempty}
use Rattle.std.proofs.lemmas.List.Folds.{list_all-append}
use Rattle.money_core.specs.Number.{is_group, whole_part, fraction_part}
use Rattle.money_core.specs.NumberText.{WritesQuantity}
use Rattle.money_core.specs.declared.mark.Mark.{Mark}
use Rattle.money_core.specs.declared.mark.Mark.TheVariants.{Point, Comma}
use Rattle.money_core.specs.Mark.{decimal_byte, group_byte}
use Rattle.std.proofs.Math.Seq.{take-append_seam, drop-append-add, take-length}
use Rattle.std.proofs.lemmas.Nat.{div-add-mod', mod_below}
use Rattle.std.proofs.Math.Nat.{one-le-pow, div-le_self}
use Rattle.money_core.specs.Printed.{places, grouped, printed_whole, printed_number}
use Rattle.money_core.proofs.PrintedLemmas.{places_suc, places_zero, grouped_small, grouped_step}

-- a digit of a number
pub digit_is_digit : (n : ℕ) → n < 10 → is_ascii_digit (48 + n) ≡ true
digit_is_digit n h = grind (arith, common_steps)

pub digit_value_is : (n : ℕ) → n < 10 → digit_value (48 + n) ≡ n
digit_value_is n h = grind (arith, common_steps)

-- reading on
pub value_after_append : (v : ℕ) (xs ys : List ℕ)
    → digits_value_after 10 v (xs ++ ys) ≡ digits_value_after 10 (digits_value_after 10 v xs) ys
value_after_append v [] ys = refl
value_after_append v (x ∷ xs) ys = value_after_append (v * 10 + digit_value x) xs ys

-- the last digits of a number that has no more
pub value_after_places : (k v m : ℕ) → m < 10 ^ k → digits_value_after 10 v (places k m) ≡ v * 10 ^ k + m
value_after_places zero v m h = rw (places_zero m) (omega (arith))
value_after_places (suc k) v m h =
    let small : m / 10 < 10 ^ k = let e = rw pow-suc at h in omega (arith, e) in
    let before = value_after_places k v (m / 10) small in
    let last = digit_value_is (m % 10) (omega arith) in
    rw (places_suc k m, value_after_append v (places k (m / 10)) ((48 + m % 10) ∷ []), before, last, pow-suc 10 k)
    (let e : v * (10 ^ k * 10) ≡ v * 10 ^ k * 10 = sym (mul_assoc v (10 ^ k) 10) in omega (arith, e))

pub all_digits_places : (k m : ℕ) → list_all is_ascii_digit (places k m) ≡ true
all_digits_places zero m = rw (places_zero m) refl
all_digits_places (suc k) m =
    rw (
      places_suc k m,
      list_all-append is_ascii_digit (places k (m / 10)) ((48 + m % 10) ∷ []),
      all_digits_places k (m / 10),
      digit_is_digit (m % 10) (omega arith),
    ) refl

pub length-places : (k m : ℕ) → length (places k m) ≡ k
length-places zero m = rw (places_zero m) refl
length-places (suc k) m = rw (places_suc k m, length-append, length-places k (m / 10)) (omega arith)

pub all_digits_decimal : (n : ℕ) → n < 2 ^ 64 → list_all is_ascii_digit (decimal n) ≡ true
all_digits_decimal n h =
    decimal_by_steps (λ n ds. list_all is_ascii_digit ds ≡ true) (λ n l. rw (digit_is_digit n l) refl)
    (λ n ds l p. rw (list_all-append is_ascii_digit ds ((48 + n % 10) ∷ []), p, digit_is_digit (n % 10) (omega arith))
    refl) n h

pub value_decimal : (n : ℕ) → n < 2 ^ 64 → digits_value_after 10 0 (decimal n) ≡ n
value_decimal n h =
    decimal_by_steps (λ n ds. digits_value_after 10 0 ds ≡ n) (λ n l. rw (digit_value_is n l) (omega arith))
    (λ n ds l p. rw (value_after_append 0 ds ((48 + n % 10) ∷ []), p, digit_value_is (n % 10) (omega arith))
    (omega arith)) n h

-- where no byte of the front is the mark, the text is cut after the front
pub before_mark : (p : ℕ → Bool) (xs ys : List ℕ) (y : ℕ) → list_all (λ b. not (p b)) xs ≡ true → p y ≡ true
    → position_or_len p (xs ++ y ∷ ys) ≡ length xs
before_mark p [] ys y h k = rw k refl
before_mark p (x ∷ xs) ys y h k =
    let parts = and_parts (not (p x)) _ h in rw (parts.0, before_mark p xs ys y parts.1 k) (omega arith)

pub no_mark : (p : ℕ → Bool) (xs : List ℕ) → list_all (λ b. not (p b)) xs ≡ true → position_or_len p xs ≡ length xs
no_mark p [] h = refl
no_mark p (x ∷ xs) h = let parts = and_parts (not (p x)) _ h in rw (parts.0, no_mark p xs parts.1) (omega arith)

-- there is a first part
pub split_some : (p : ℕ → Bool) (xs : List ℕ) → 0 < length (slice_split p xs)
split_some p [] = lit< tt
split_some p (x ∷ xs) =
    elim (cases_Bool (p x)) [ inl here ↦ rw here (omega arith) | inr other ↦ rw other (onto_some x (slice_split p xs)) ]
  where
    onto_some : (x : ℕ) (parts : List (List ℕ)) → 0 < length (onto_first x parts)
    onto_some x [] = lit< tt
    onto_some x (part ∷ parts) = omega arith

pub onto_first-append : (x : ℕ) (ps qs : List (List ℕ)) → 0 < length ps
    → onto_first x (ps ++ qs) ≡ onto_first x ps ++ qs
onto_first-append x [] qs h = absurd (omega arith)
onto_first-append x (p ∷ ps) qs h = refl

-- the parts on both sides of a mark
pub split_at_mark : (p : ℕ → Bool) (xs ys : List ℕ) (y : ℕ) → p y ≡ true
    → slice_split p (xs ++ y ∷ ys) ≡ slice_split p xs ++ slice_split p ys
split_at_mark p [] ys y k = rw k refl
split_at_mark p (x ∷ xs) ys y k =
    elim (cases_Bool (p x)) [
      | inl here ↦ rw (here, split_at_mark p xs ys y k) refl
      | inr other ↦ rw (other, split_at_mark p xs ys y k)
          (onto_first-append x (slice_split p xs) (slice_split p ys) (split_some p xs))
    ]

-- a text without the mark is one part
pub split_none : (p : ℕ → Bool) (xs : List ℕ) → list_all (λ b. not (p b)) xs ≡ true → slice_split p xs ≡ xs ∷ []
split_none p [] h = refl
split_none p (x ∷ xs) h =
    let parts = and_parts (not (p x)) _ h in rw (not-true (p x) parts.0, split_none p xs parts.1) refl

-- a digit is no mark
pub digits_no_mark : (mark : ℕ) (xs : List ℕ) → mark < 48 → list_all is_ascii_digit xs ≡ true
    → list_all (λ b. not (b == mark)) xs ≡ true
digits_no_mark mark [] l h = refl
digits_no_mark mark (x ∷ xs) l h =
    let parts = and_parts (is_ascii_digit x) _ h in
    rw (digit_no_mark mark x l parts.0, digits_no_mark mark xs l parts.1) refl
  where
    digit_no_mark : (mark x : ℕ) → mark < 48 → is_ascii_digit x ≡ true → (x == mark) ≡ false
    digit_no_mark mark x l h = grind (arith, common_steps)

pub filter_digits : (xs : List ℕ) → list_all is_ascii_digit xs ≡ true → filter is_ascii_digit xs ≡ xs
filter_digits [] h = refl
filter_digits (x ∷ xs) h = let parts = and_parts (is_ascii_digit x) _ h in rw (parts.0, filter_digits xs parts.1) refl

pub filter-append : (xs ys : List ℕ)
    → filter is_ascii_digit (xs ++ ys) ≡ filter is_ascii_digit xs ++ filter is_ascii_digit ys
filter-append [] ys = refl
filter-append (x ∷ xs) ys = elim (cases_Bool (is_ascii_digit x))
    [ inl here ↦ rw (here, filter-append xs ys) refl | inr other ↦ rw (other, filter-append xs ys) refl ]

-- what reading needs of the digits of a whole part
pub record ReadsAs (group dec n : ℕ) (text : List ℕ) : Type 0 where
  pub groups : list_all is_group (slice_split (λ b. b == group) text) ≡ true
  pub some : 0 < length text
  pub unmarked : list_all (λ b. not (b == dec)) text ≡ true
  pub value : digits_value_after 10 0 (filter is_ascii_digit text) ≡ n

pub is_group_digits : (xs : List ℕ) → list_all is_ascii_digit xs ≡ true → 0 < length xs → is_group xs ≡ true
is_group_digits xs h l = rw (ne_eqb (length xs) 0 (omega arith), h) refl

pub one_group : (group dec n : ℕ) (text : List ℕ) → group < 48 → dec < 48 → list_all is_ascii_digit text ≡ true
    → 0 < length text → digits_value_after 10 0 text ≡ n → ReadsAs group dec n text
one_group group dec n text g d h l v = record {
  groups = rw (split_none (λ b. b == group) text (digits_no_mark group text g h), is_group_digits text h l) refl;
  some = l;
  unmarked = digits_no_mark dec text d h;
  value = rw (filter_digits text h) v;
}

pub decimal_reads : (group dec n : ℕ) → group < 48 → dec < 48 → n < 2 ^ 64 → ReadsAs group dec n (decimal n)
decimal_reads group dec n g d l =
    one_group group dec n (decimal n) g d (all_digits_decimal n l) (decimal_nonempty n l) (value_decimal n l)

pub more_groups : (group dec n r : ℕ) (text : List ℕ) → group < 48 → dec < 48 → (group ≡ dec → ⊥) → r < 1000
    → ReadsAs group dec n text → ReadsAs group dec (n * 1000 + r) (text ++ group ∷ places 3 r)
more_groups group dec n r text g d ne l h =
    let digits = all_digits_places 3 r in
    let three = length-places 3 r in
    record {
      groups = rw (
        split_at_mark (λ b. b == group) text (places 3 r) group (eq-eqb group group refl),
        list_all-append is_group (slice_split (λ b. b == group) text) (slice_split (λ b. b == group) (places 3 r)),
        h.groups,
        split_none (λ b. b == group) (places 3 r) (digits_no_mark group (places 3 r) g digits),
        is_group_digits (places 3 r) digits (omega arith),
      ) refl;
      some = rw length-append (omega (arith, h.some));
      unmarked = rw (
        list_all-append (λ b. not (b == dec)) text (group ∷ places 3 r),
        h.unmarked,
        ne_eqb group dec ne,
        digits_no_mark dec (places 3 r) d digits,
      ) refl;
      value = rw (
        filter-append text (group ∷ places 3 r),
        no_digit group g,
        filter_digits (places 3 r) digits,
        value_after_append 0 (filter is_ascii_digit text) (places 3 r),
        h.value,
      ) (value_after_places 3 n r l);
    }
  where
    no_digit : (x : ℕ) → x < 48 → is_ascii_digit x ≡ false
    no_digit x l = grind (arith, common_steps)

pub grouped_reads : (turns group dec n : ℕ) → n < turns → group < 48 → dec < 48 → (group ≡ dec → ⊥) → n < 2 ^ 64
    → ReadsAs group dec n (grouped group n)
grouped_reads zero group dec n t g d ne l = absurd (omega arith)
grouped_reads (suc turns) group dec n t g d ne l =
    elim (cases_lt n 1000) [
      | inl small ↦ rw (grouped_small group n small) (decimal_reads group dec n g d l)
      | inr large ↦
          let before = grouped_reads turns group dec (n / 1000) (omega arith) g d ne (omega arith) in
          let whole =
          more_groups group dec (n / 1000) (n % 1000) (grouped group (n / 1000)) g d ne (omega arith) before in
          let e : n / 1000 * 1000 + n % 1000 ≡ n = omega arith in
          rw (grouped_step group n large) (rw e at whole)
    ]

-- the whole part that is printed
pub whole_reads : (mark : Mark) (groups : Bool) (n : ℕ) → n < 2 ^ 64
    → ReadsAs (group_byte mark) (decimal_byte mark) n (printed_whole mark groups n)
whole_reads Point true n l = grouped_reads (n + 1) 44 46 n (omega arith) (lit< tt) (lit< tt) (λ e. omega (arith, e)) l
whole_reads Point false n l = decimal_reads 44 46 n (lit< tt) (lit< tt) l
whole_reads Comma true n l = grouped_reads (n + 1) 46 44 n (omega arith) (lit< tt) (lit< tt) (λ e. omega (arith, e)) l
whole_reads Comma false n l = decimal_reads 46 44 n (lit< tt) (lit< tt) l

-- a whole part with the mark and a fraction after it
pub reads_with_mark : (mark : Mark) (decimals n r : ℕ) (text fraction : List ℕ)
    → ReadsAs (group_byte mark) (decimal_byte mark) n text
    → list_all is_ascii_digit fraction ≡ true → length fraction ≡ decimals → digits_value_after 10 n fraction ≡ r
    → WritesQuantity mark decimals r (text ++ decimal_byte mark ∷ fraction)
reads_with_mark mark decimals n r text fraction h digits len value =
    let all = text ++ decimal_byte mark ∷ fraction in
    let p : ℕ → Bool = λ b. b == decimal_byte mark in
    let at = before_mark p text fraction (decimal_byte mark) h.unmarked
    (eq-eqb (decimal_byte mark) (decimal_byte mark) refl) in
    let whole : whole_part mark all ≡ text = rw at (take-append_seam text (decimal_byte mark ∷ fraction)) in
    let rest : fraction_part mark all ≡ fraction = rw at (drop_behind text fraction (decimal_byte mark)) in
    record {
      form = rw (
        whole,
        rest,
        ne_eqb (length text + length fraction) 0 (omega (arith, h.some)),
        ne_eqb (length text) 0 (omega (arith, h.some)),
        h.groups,
        digits,
      ) refl;
      decimals_fit = rw (rest, drop_past fraction decimals (omega arith)) refl;
      value = rw (
        whole,
        rest,
        take_padded fraction decimals len,
        value_after_append 0 (filter is_ascii_digit text) fraction,
        h.value,
      ) value;
    }
  where
    drop_behind : (xs ys : List ℕ) (y : ℕ) → drop (length xs + 1) (xs ++ y ∷ ys) ≡ ys
    drop_behind xs ys y = drop-append-add xs (y ∷ ys) 1

    drop_past : (xs : List ℕ) (n : ℕ) → length xs ≤ n → drop n xs ≡ []
    drop_past xs n l = grind (arith, common_steps)

    take_padded : (xs : List ℕ) (n : ℕ) → length xs ≡ n → take n (xs ++ replicate n 48) ≡ xs
    take_padded xs n e = rw (← e) (take-append_seam xs (replicate (length xs) 48))

-- a whole part alone
pub reads_alone : (mark : Mark) (n : ℕ) (text : List ℕ) → ReadsAs (group_byte mark) (decimal_byte mark) n text
    → WritesQuantity mark 0 n text
reads_alone mark n text h =
    let p : ℕ → Bool = λ b. b == decimal_byte mark in
    let at = no_mark p text h.unmarked in
    let whole : whole_part mark text ≡ text = rw at (take-length text) in
    let rest : fraction_part mark text ≡ [] = rw at (drop_past text (length text + 1) (omega arith)) in
    record {
      form = rw (
        whole,
        rest,
        ne_eqb (length text + 0) 0 (omega (arith, h.some)),
        ne_eqb (length text) 0 (omega (arith, h.some)),
        h.groups,
      ) refl;
      decimals_fit = rw rest refl;
      value = rw (whole, append-nil) h.value;
    }
  where
    drop_past : (xs : List ℕ) (n : ℕ) → length xs ≤ n → drop n xs ≡ []
    drop_past xs n l = grind (arith, common_steps)

-- What is printed reads as the quantity.
pub printed_reads : (mark : Mark) (groups : Bool) (decimals q : ℕ) → q < 2 ^ 64
    → WritesQuantity mark decimals q (printed_number mark groups decimals q)
printed_reads mark groups zero q l =
    let one : q / 10 ^ 0 ≡ q = omega arith in
    let h = whole_reads mark groups q l in
    rw one (elim (cases_Bool (groups && not (nat_lt q 1000))) [
      | inl marked ↦ rw marked (reads_with_mark mark 0 q q (printed_whole mark groups q) [] h refl refl refl)
      | inr bare ↦ rw (bare, append-nil) (reads_alone mark q (printed_whole mark groups q) h)
    ])
printed_reads mark groups (suc k) q l =
    let d = suc k in
    let some : 0 < 10 ^ d = one-le-pow d 10 (lit< tt) in
    let whole = whole_reads mark groups (q / 10 ^ d) (quotient_small q (10 ^ d) some l) in
    let r = q % 10 ^ d in
    let value : digits_value_after 10 (q / 10 ^ d) (places d r) ≡ q =
    value_after_places d (q / 10 ^ d) r (mod_below q (10 ^ d) some) ∙ div-add-mod' q (10 ^ d) in
    rw (ne_eqb (suc k) 0 (omega arith))
    (reads_with_mark mark d (q / 10 ^ d) q (printed_whole mark groups (q / 10 ^ d)) (places d r) whole
    (all_digits_places d r) (length-places d r) value)
  where
    quotient_small : (q m : ℕ) → 0 < m → q < 2 ^ 64 → q / m < 2 ^ 64
    quotient_small q m some l = omega (arith, div-le_self q m)
