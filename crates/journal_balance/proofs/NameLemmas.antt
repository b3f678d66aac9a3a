-- A conversion account is a well-formed name.
use Rattle.std.proofs.Common.{◌≡◌, ◌∙◌, ◌≤◌, ◌<◌, ◌+◌, ◌-◌, ◌==◌, ◌&&◌, ◌||◌, ℕ, zero, suc, Bool, true, false, not}
use Rattle.std.proofs.Common.{List, [], ◌∷◌, ◌++◌, length, slice_index, refl, sym, ap, subst, arith, append_assoc}
use Rattle.std.proofs.Common.{length-append, All}
use Rattle.std.specs.Prelude.{codes, nat_lt, nat_le}
use Rattle.std.specs.Ordering.{is_lt}
use Rattle.std.specs.List.{list_all, slice_split, AllByRecursion}
use Rattle.std.specs.Str.{is_utf8}
use Rattle.std.proofs.lemmas.Bool.{and_parts, and_from, not-true, not_from_false}
use Rattle.std.proofs.lemmas.Bool.Decides.{nat_tests}
use Rattle.std.proofs.lemmas.Grind.{common_steps}
use Rattle.std.proofs.lemmas.List.Folds.{list_all-append}
use Rattle.std.proofs.lemmas.List.Elements.{All-from_recursion}
use Rattle.std.proofs.lemmas.List.Splits.{slice_split_at, slice_split_none}
use Rattle.money_core.specs.NamePart.{is_part_byte, IsNamePart}
use Rattle.money_core.specs.Symbol.{no_double}
use Rattle.money_core.proofs.Utf8Lemmas.{utf8_joined, utf8_low}
use Rattle.money_core.proofs.TestLemmas.{if_either}
use Rattle.book_core.specs.Account.{name_cmp}
use Rattle.journal_lines.specs.AccountName.{is_account_name_byte, is_part, is_gap, has_gap, is_account}
use Rattle.journal_balance.specs.Conversion.{lesser, greater, conversion_account}

-- ---- gaps

-- no space at the end
abbrev ends_solid : List ℕ → Bool
ends_solid [] = false
ends_solid (b ∷ []) = not (b == 32)
ends_solid (b ∷ (next ∷ rest)) = ends_solid (next ∷ rest)

ends_by_last : (xs : List ℕ) → 0 < length xs → (slice_index xs (length xs - 1) == 32) ≡ false → ends_solid xs ≡ true
ends_by_last [] some e = absurd (omega arith)
ends_by_last (b ∷ []) some e = ap not e
ends_by_last (b ∷ (next ∷ rest)) some e =
    let at : length (b ∷ (next ∷ rest)) - 1 ≡ suc (length (next ∷ rest) - 1) = omega arith in
    ends_by_last (next ∷ rest) (omega arith) (subst (λ (n : ℕ). (slice_index (b ∷ (next ∷ rest)) n == 32) ≡ false) at e)

pub no_gap : (b : ℕ) (rest : List ℕ) → (b == 32) ≡ false → is_gap b rest ≡ false
no_gap b [] e = e
no_gap b (next ∷ rest) e = ap (λ (t : Bool). t && (next == 32)) e

double_gap : (b next : ℕ) (rest : List ℕ) → no_double (b ∷ (next ∷ rest)) ≡ true → ((b == 32) && (next == 32)) ≡ false
double_gap b next rest h = not-true _ (and_parts (not ((b == 32) && (next == 32))) (no_double (next ∷ rest)) h).0

-- a text with single spaces before one that begins with none
gap_joined : (xs : List ℕ) (y : ℕ) (ys : List ℕ) → no_double xs ≡ true → ends_solid xs ≡ true → has_gap (y ∷ ys) ≡ false
    → has_gap (xs ++ y ∷ ys) ≡ false
gap_joined [] y ys h e g = absurd cc
gap_joined (b ∷ []) y ys h e g = rw (no_gap b (y ∷ ys) (not-true _ e), g) refl
gap_joined (b ∷ (next ∷ rest)) y ys h e g =
    rw (double_gap b next rest h) (gap_joined (next ∷ rest) y ys
    (and_parts (not ((b == 32) && (next == 32))) (no_double (next ∷ rest)) h).1 e g)

gap_last : (xs : List ℕ) → no_double xs ≡ true → ends_solid xs ≡ true → has_gap xs ≡ false
gap_last [] h e = refl
gap_last (b ∷ []) h e = rw (not-true _ e) refl
gap_last (b ∷ (next ∷ rest)) h e =
    rw (double_gap b next rest h)
    (gap_last (next ∷ rest) (and_parts (not ((b == 32) && (next == 32))) (no_double (next ∷ rest)) h).1 e)

-- ---- bytes

named_byte : (b : ℕ) → is_part_byte b ≡ true → is_account_name_byte b ≡ true
named_byte b h = grind (arith, common_steps)

no_colon_byte : (b : ℕ) → is_part_byte b ≡ true → (b == 58) ≡ false
no_colon_byte b h = grind (arith, common_steps)

all_named : (xs : List ℕ) → list_all is_part_byte xs ≡ true → list_all is_account_name_byte xs ≡ true
all_named [] h = refl
all_named (b ∷ bs) h =
    let p = and_parts (is_part_byte b) (list_all is_part_byte bs) h in and_from (is_account_name_byte b)
    (list_all is_account_name_byte bs) (named_byte b p.0) (all_named bs p.1)

no_colons : (xs : List ℕ) → list_all is_part_byte xs ≡ true → AllByRecursion (λ (b : ℕ). (b == 58) ≡ false) xs
no_colons [] h = tt
no_colons (b ∷ bs) h =
    let p = and_parts (is_part_byte b) (list_all is_part_byte bs) h in (no_colon_byte b p.0, no_colons bs p.1)

some_part : (n : ℕ) → 0 < n → nat_lt 0 n ≡ true
some_part n h = grind (arith, nat_tests)

at_most_200 : (n : ℕ) → n ≤ 200 → nat_le n 200 ≡ true
at_most_200 n h = grind (arith, nat_tests)

-- ---- the name

abbrev between : List ℕ → List ℕ → List ℕ
between x y = x ++ 45 ∷ y

abbrev tail_of : List ℕ → List ℕ → List ℕ → List ℕ
tail_of x y own = x ++ 45 ∷ (y ++ 58 ∷ own)

module _ (x y own : List ℕ) (is_x : IsNamePart x) (is_y : IsNamePart y) (is_own : IsNamePart own) where
  length_of_tail : length (tail_of x y own) ≤ 74
  length_of_tail = omega (
    arith,
    length-append x (45 ∷ (y ++ 58 ∷ own)),
    length-append y (58 ∷ own),
    is_x.short,
    is_y.short,
    is_own.short,
  )

  between_bytes : list_all is_part_byte (between x y) ≡ true
  between_bytes = list_all-append is_part_byte x (45 ∷ y) ∙ and_from _ _ is_x.good (and_from _ _ refl is_y.good)

  tail_split : slice_split (λ b. b == 58) (tail_of x y own) ≡ between x y ∷ own ∷ []
  tail_split =
      ap (slice_split (λ b. b == 58)) (sym (append_assoc x (45 ∷ y) (58 ∷ own)))
      ∙ (slice_split_at (λ b. b == 58) (between x y) 58 own
      (All-from_recursion (λ (b : ℕ). (b == 58) ≡ false) (between x y) (no_colons (between x y) between_bytes)) refl
      ∙ ap (λ l. between x y ∷ l) (slice_split_none (λ b. b == 58) own
      (All-from_recursion (λ (b : ℕ). (b == 58) ≡ false) own (no_colons own is_own.good))))

  parts_of_tail : list_all is_part (slice_split (λ b. b == 58) (tail_of x y own)) ≡ true
  parts_of_tail =
      ap (list_all is_part) tail_split
      ∙ and_from _ _ (some_part (length (between x y)) (omega (arith, length-append x (45 ∷ y))))
      (and_from _ _ (some_part (length own) is_own.some) refl)

  bytes_of_tail : list_all is_account_name_byte (tail_of x y own) ≡ true
  bytes_of_tail =
      list_all-append is_account_name_byte x (45 ∷ (y ++ 58 ∷ own))
      ∙ and_from _ _ (all_named x is_x.good)
      (and_from _ _ refl
      (list_all-append is_account_name_byte y (58 ∷ own) ∙ and_from _ _ (all_named y is_y.good)
      (and_from _ _ refl (all_named own is_own.good))))

  gap_of_tail : has_gap (tail_of x y own) ≡ false
  gap_of_tail =
      let last = gap_last own is_own.single (ends_by_last own is_own.some is_own.last) in
      let second : has_gap (y ++ 58 ∷ own) ≡ false =
      gap_joined y 58 own is_y.single (ends_by_last y is_y.some is_y.last) (rw (no_gap 58 own refl, last) refl) in
      gap_joined x 45 (y ++ 58 ∷ own) is_x.single (ends_by_last x is_x.some is_x.last)
      (rw (no_gap 45 (y ++ 58 ∷ own) refl, second) refl)

  account_of_tail : is_account (codes "equity:conversion:" ++ tail_of x y own) ≡ true
  unfolding is_account
  account_of_tail =
      let short = at_most_200 (length (codes "equity:conversion:" ++ tail_of x y own))
      (omega (arith, length_of_tail)) in
      let whole : has_gap (codes "equity:conversion:" ++ tail_of x y own) ≡ false =
      rw (no_gap 58 (tail_of x y own) refl, gap_of_tail) refl in
      and_from _ _ (and_from _ _ (and_from _ _ (and_from _ _ short parts_of_tail) bytes_of_tail)
      (not_from_false _ whole)) refl

  utf8_of_tail : is_utf8 (codes "equity:conversion:" ++ tail_of x y own) ≡ true
  utf8_of_tail =
      utf8_joined (codes "equity:conversion:") (tail_of x y own) (utf8_low (codes "equity:conversion:") refl)
      (utf8_joined x (45 ∷ (y ++ 58 ∷ own)) is_x.utf8
      (utf8_joined (45 ∷ []) (y ++ 58 ∷ own) (utf8_low (45 ∷ []) refl)
      (utf8_joined y (58 ∷ own) is_y.utf8 (utf8_joined (58 ∷ []) own (utf8_low (58 ∷ []) refl) is_own.utf8))))

-- an account of a conversion is a well-formed name, and a text
pub conversion_formed : (a b own : List ℕ) → IsNamePart a → IsNamePart b → IsNamePart own
    → (is_account (conversion_account a b own) ≡ true) × (is_utf8 (conversion_account a b own) ≡ true)
unfolding conversion_account
conversion_formed a b own h k o =
    let x = if_either IsNamePart (is_lt (name_cmp b a)) b a k h in
    let y = if_either IsNamePart (is_lt (name_cmp b a)) a b h k in
    (account_of_tail (lesser a b) (greater a b) own x y o, utf8_of_tail (lesser a b) (greater a b) own x y o)

-- so are both of an exchange
pub both_formed : (a b : List ℕ) → IsNamePart a → IsNamePart b
    → (is_account (conversion_account a b (lesser a b)) ≡ true)
    × (is_account (conversion_account a b (greater a b)) ≡ true)
both_formed a b h k =
    let x = if_either IsNamePart (is_lt (name_cmp b a)) b a k h in
    let y = if_either IsNamePart (is_lt (name_cmp b a)) a b h k in
    ((conversion_formed a b (lesser a b) h k x).0, (conversion_formed a b (greater a b) h k y).0)
