-- the records of a file: each is good, with a well-formed mark, and the new ones are new
use Rattle.std.proofs.Common.{◌≡◌, ◌≤◌, ◌<◌, ◌+◌, ◌^◌, ℕ, suc, Bool, true, false, ◌&&◌, List, [], ◌∷◌, ◌++◌, length}
use Rattle.std.proofs.Common.{refl, ◌∙◌, sym, subst, arith, append_assoc, append-nil, length-append, map, Option, Some}
use Rattle.std.proofs.Common.{None, Ok, Err, ◌*◌, ◌/◌, ◌%◌, ◌||◌, zero, ap}
use Rattle.std.proofs.lemmas.List.Sums.{count_by-le-length}
use Rattle.std.proofs.lemmas.Bool.{and_from, and_parts}
use Rattle.std.proofs.lemmas.Bool.Decides.{nat_tests}
use Rattle.std.proofs.lemmas.Fmt.{length-decimal-le}
use Rattle.std.specs.Prelude.{if◌then◌else◌, Result, is_some, not, decimal, nat_lt, ◌==◌, slice_index}
use Rattle.std.specs.Option.{option_or}
use Rattle.std.specs.List.{list_any, AllByRecursion, list_all}
use Rattle.std.specs.Str.{bytes_eq}
use Rattle.std.specs.Char.{is_ascii_digit, is_ascii_alphabetic}
use Rattle.std.specs.Int.{w32, to_be_bytes}
use Rattle.money_core.specs.declared.style.Style.{Style}
use Rattle.money_core.specs.declared.day.Day.{Day}
use Rattle.money_core.specs.declared.cause.Cause.{Cause}
use Rattle.money_core.proofs.RoundTrip.{all_digits_decimal}
use Rattle.money_core.proofs.ClassLemmas.{all_joined}
use Rattle.money_core.proofs.ListLemmas.{all-append, all_weaker}
use Rattle.book_core.specs.declared.entry.Entry.{Entry}
use Rattle.book_core.specs.declared.refusal.Refusal.{Refusal}
use Rattle.journal_format.specs.declared.txn.Txn.{Txn}
use Rattle.journal_format.specs.declared.txn.Located.{Located}
use Rattle.journal_format.specs.Printable.{IsPrintable, is_mark_or_none}
use Rattle.journal_format.specs.CanonicalText.{body_text, marked}
use Rattle.journal_format.specs.Mark.{is_mark, is_mark_byte}
use Rattle.journal_balance.specs.Legs.{balanced_entry, balancing_fault}
use Rattle.sha2.specs.Sha256.{sha256, digest_bytes}
use Rattle.sha2.proofs.Facts256.{length-sha256}
use Rattle.hex.specs.Hex.{encode_lower, encode_with, lower_digits}
use Rattle.hex.proofs.HexLemmas.{length-encode_with}
use Rattle.treasury_state.specs.declared.record.Record.{Record}
use Rattle.treasury_state.specs.Mark.{is_held, HaveOwnMarks, is_repeat, is_product_mark, transaction_mark, hash_mark}
use Rattle.treasury_state.specs.Transfer.{is_transit}
use Rattle.treasury_state.specs.Federation.{is_locked}
use Rattle.treasury_state.specs.Good.{IsGoodRecord}
use Rattle.treasury_state.proofs.HeldLemmas.{own_push, not_held}
use Rattle.treasury_core.specs.Step.{number_in, recorded, records_from, refusal_of, refused_in, new_in, IsNew}
use Rattle.treasury_core.proofs.HeldLemmas.{fewer_held, repeat_held}

-- bytes, and their digits
bytes_of_word : (x : ℕ) → AllByRecursion (λ (b : ℕ). b < 256) (to_be_bytes w32 x)
bytes_of_word x = (omega arith, (omega arith, (omega arith, (omega arith, tt))))

digest_bytes_small : (h : List ℕ) (n : ℕ) → AllByRecursion (λ (b : ℕ). b < 256) (digest_bytes h n)
unfolding digest_bytes
digest_bytes_small h zero = tt
digest_bytes_small h (suc n) = all-append (λ (b : ℕ). b < 256) (digest_bytes h n) (to_be_bytes w32 (slice_index h n))
    (digest_bytes_small h n) (bytes_of_word (slice_index h n))

hash_bytes : (m : List ℕ) → AllByRecursion (λ (b : ℕ). b < 256) (sha256 m)
unfolding sha256
hash_bytes m = digest_bytes_small _ 8

all_at : (p : ℕ → Bool) (xs : List ℕ) (i : ℕ) → list_all p xs ≡ true → i < length xs → p (slice_index xs i) ≡ true
all_at p [] i h l = absurd (omega arith)
all_at p (x ∷ xs) zero h l = (and_parts (p x) (list_all p xs) h).0
all_at p (x ∷ xs) (suc i) h l = all_at p xs i (and_parts (p x) (list_all p xs) h).1 (omega arith)

digit_fits : (k : ℕ) → k < 16 → is_mark_byte (slice_index lower_digits k) ≡ true
digit_fits k h = all_at is_mark_byte lower_digits k refl h

hex_fits : (xs : List ℕ) → AllByRecursion (λ (b : ℕ). b < 256) xs
    → list_all is_mark_byte (encode_with lower_digits xs) ≡ true
unfolding encode_with
hex_fits [] h = refl
hex_fits (b ∷ bs) h = and_from _ _ (digit_fits (b / 16) (let l : b < 256 = h.0 in omega arith))
    (and_from _ _ (digit_fits (b % 16) (omega arith)) (hex_fits bs h.1))

digit_is : (b : ℕ) → is_ascii_digit b ≡ true → is_mark_byte b ≡ true
digit_is b h = rw h (by_test (is_ascii_alphabetic b))
  where
    by_test : (t : Bool) → ((((t || true) || (b == 45)) || (b == 46)) || (b == 95)) || (b == 58) ≡ true
    by_test true = refl
    by_test false = refl

digits_fit : (xs : List ℕ) → list_all is_ascii_digit xs ≡ true → list_all is_mark_byte xs ≡ true
digits_fit [] h = refl
digits_fit (x ∷ xs) h = let parts =
    and_parts (is_ascii_digit x) (list_all is_ascii_digit xs) h in and_from _ _ (digit_is x parts.0)
    (digits_fit xs parts.1)

is_mark_of : (rest : List ℕ) → length rest ≤ 85 → list_all is_mark_byte rest ≡ true → is_mark (104 ∷ 45 ∷ rest) ≡ true
is_mark_of rest l h =
    let high : 0 < length (104 ∷ 45 ∷ rest) = omega arith in
    let some : nat_lt 0 (length (104 ∷ 45 ∷ rest)) ≡ true = grind (arith, nat_tests) in
    let low : length (104 ∷ 45 ∷ rest) < 101 = omega (arith, l) in
    let few : nat_lt (length (104 ∷ 45 ∷ rest)) 101 ≡ true = grind (arith, nat_tests) in
    and_from (nat_lt 0 (length (104 ∷ 45 ∷ rest)) && nat_lt (length (104 ∷ 45 ∷ rest)) 101)
    (list_all is_mark_byte (104 ∷ 45 ∷ rest)) (and_from _ _ some few) h

-- the hash's text is a mark
pub hash_is_mark : (text : List ℕ) (n : ℕ) → n < 2 ^ 64 → is_mark (hash_mark text n) ≡ true
unfolding hash_mark
hash_is_mark text n small =
    let hex = encode_lower (sha256 text) in
    let sized : length hex ≡ 64 = length-encode_with lower_digits (sha256 text) ∙ ap (λ (k : ℕ). 2 * k)
    (length-sha256 text) in
    let number : length (decimal n) ≤ 20 = length-decimal-le 20 n (omega arith) (omega (arith, small)) small in
    let tail : length (hex ++ (45 ∷ decimal n)) ≤ 85 =
    omega (arith, length-append hex (45 ∷ decimal n), sized, number) in
    let bytes : list_all is_mark_byte (hex ++ (45 ∷ decimal n)) ≡ true =
    all_joined is_mark_byte hex (45 ∷ decimal n) (hex_fits (sha256 text) (hash_bytes text))
    (and_from _ _ refl (digits_fit (decimal n) (all_digits_decimal n small))) in
    is_mark_of (hex ++ (45 ∷ decimal n)) tail bytes

mark_fits : (styles : List Style) (t : Txn) (n : ℕ) (o : Option (List ℕ)) → n < 2 ^ 64 → is_mark_or_none o ≡ true
    → is_mark (transaction_mark styles t n o) ≡ true
mark_fits styles t n (Some m) small h = h
mark_fits styles t n None small h = hash_is_mark (body_text styles t) n small

pub printable_marked : (styles : List Style) (t : Txn) (n : ℕ) → n < 2 ^ 64 → IsPrintable styles t
    → IsPrintable styles (marked t (Some (transaction_mark styles t n t.mark)))
printable_marked styles t n small h = record {
  header = h.header;
  code = h.code;
  description = h.description;
  mark = mark_fits styles t n t.mark small h.mark;
  comments = h.comments;
  postings = h.postings;
  few = h.few;
  small = h.small;
}

-- the mark plays no part in what a transaction does
pub legs_of-marked : (styles : List Style) (t : Txn) (mark : Option (List ℕ))
    → balanced_entry styles (marked t mark) ≡ balanced_entry styles t
unfolding balanced_entry balancing_fault
legs_of-marked styles t mark = refl

recorded_good : (styles : List Style) (t : Txn) (n : ℕ) (r : Result Entry Cause) → n < 2 ^ 64 → IsPrintable styles t
    → balanced_entry styles t ≡ r
    → AllByRecursion (IsGoodRecord styles) (recorded t (transaction_mark styles t n t.mark) r)
recorded_good styles t n (Ok e) small printable h = (
  record {
    marked = refl;
    printable = printable_marked styles t n small printable;
    legs = legs_of-marked styles t (Some (transaction_mark styles t n t.mark)) ∙ h;
  },
  tt,
)
recorded_good styles t n (Err cause) small printable h = tt

pub number_small : (styles : List Style) (before : List Txn) (t : Txn) → number_in styles before t ≤ length before + 1
number_small styles before t =
    let few = count_by-le-length (λ (y : Txn).
    not (is_some y.mark) && bytes_eq (body_text styles y) (body_text styles t)) before in
    omega (arith, few)

pub records_good : (styles : List Style) (before : List Txn) (file : List Located)
    → length before + length file < 2 ^ 64 → AllByRecursion (λ (x : Located). IsPrintable styles x.txn) file
    → AllByRecursion (IsGoodRecord styles) (records_from styles before file)
records_good styles before [] small printable = tt
records_good styles before (x ∷ xs) small printable =
    let bound : number_in styles before x.txn < 2 ^ 64 = omega (arith, number_small styles before x.txn, small) in
    let more : length (before ++ x.txn ∷ []) + length xs < 2 ^ 64 =
    omega (arith, small, length-append before (x.txn ∷ [])) in
    all-append (IsGoodRecord styles)
    (recorded x.txn (transaction_mark styles x.txn (number_in styles before x.txn) x.txn.mark)
    (balanced_entry styles x.txn)) (records_from styles (before ++ x.txn ∷ []) xs)
    (recorded_good styles x.txn (number_in styles before x.txn) (balanced_entry styles x.txn) bound printable.0 refl)
    (records_good styles (before ++ x.txn ∷ []) xs more printable.1)

-- what holds of all holds of the new ones
new_at : (P : Record → Type 0) (r : Record) (xs ys : List Record) (t : Bool) → P r → AllByRecursion P xs
    → AllByRecursion P ys → AllByRecursion P (if t then xs else r ∷ ys)
new_at P r xs ys true p h k = h
new_at P r xs ys false p h k = (p, k)

pub all-new : (P : Record → Type 0) (before rs : List Record) → AllByRecursion P rs
    → AllByRecursion P (new_in before rs)
all-new P before [] h = tt
all-new P before (r ∷ rs) h = new_at P r (new_in before rs) (new_in (before ++ r ∷ []) rs) (is_held before r.mark) h.0
    (all-new P before rs h.1) (all-new P (before ++ r ∷ []) rs h.1)

-- with the new ones no mark stands twice
own_at : (r : Record) (before xs ys : List Record) (t : Bool) → is_held before r.mark ≡ t → HaveOwnMarks before
    → HaveOwnMarks (before ++ xs) → (HaveOwnMarks (before ++ r ∷ []) → HaveOwnMarks ((before ++ r ∷ []) ++ ys))
    → HaveOwnMarks (before ++ (if t then xs else r ∷ ys))
own_at r before xs ys true e h i k = i
own_at r before xs ys false e h i k =
    subst HaveOwnMarks (append_assoc before (r ∷ []) ys) (k (own_push before r h (not_held before r.mark e)))

pub own-new : (before rs : List Record) → HaveOwnMarks before → HaveOwnMarks (before ++ new_in before rs)
own-new before [] h = subst HaveOwnMarks (sym (append-nil before)) h
own-new before (r ∷ rs) h = own_at r before (new_in before rs) (new_in (before ++ r ∷ []) rs) (is_held before r.mark)
    refl h (own-new before rs h) (own-new (before ++ r ∷ []) rs)

-- two refusals that do not come
pub neither_refusal : (o p : Option Refusal) → option_or o p ≡ None → (o ≡ None) × (p ≡ None)
neither_refusal None p h = (refl, h)
neither_refusal (Some e) p h = absurd cc

-- a transaction that is not refused is new
no_case : (a b c d : Bool) (w x y z : Refusal)
    → (if a then Some w else if b then Some x else if c then Some y else if d then Some z else None) ≡ None
    → (a ≡ false) × ((b ≡ false) × ((c ≡ false) × (d ≡ false)))
no_case true b c d w x y z h = absurd cc
no_case false true c d w x y z h = absurd cc
no_case false false true d w x y z h = absurd cc
no_case false false false true w x y z h = absurd cc
no_case false false false false w x y z h = (refl, (refl, (refl, refl)))

pub not_refused : (lock : Option Day) (before : List Record) (r : Record) → refusal_of lock before r ≡ None
    → IsNew lock before r
not_refused lock before r h =
    let parts = no_case (is_held before r.mark) (is_product_mark r.mark) (list_any is_transit r.entry.legs)
    (is_locked lock r.entry.day) _ _ _ _ h in
    record { absent = parts.0; own = parts.1.0; clear = parts.1.1.0; unlocked = parts.1.1.1 }

earlier_new : (lock : Option Day) (before : List Record) (x r : Record) → IsNew lock (before ++ x ∷ []) r
    → IsNew lock before r
earlier_new lock before x r h =
    record { absent = fewer_held before (x ∷ []) r.mark h.absent; own = h.own; clear = h.clear; unlocked = h.unlocked }

first_new : (lock : Option Day) (before xs ys : List Record) (r : Record) (u : Bool) → u ≡ false → IsNew lock before r
    → AllByRecursion (IsNew lock (before ++ r ∷ [])) ys
    → AllByRecursion (IsNew lock before) (if u then xs else r ∷ ys)
first_new lock before xs ys r true e n h = absurd cc
first_new lock before xs ys r false e n h =
    (n, all_weaker (IsNew lock (before ++ r ∷ [])) (IsNew lock before) ys (λ x k. earlier_new lock before r x k) h)

fresh_at : (lock : Option Day) (before xs ys : List Record) (o p : Option Refusal) (r : Record) (t u : Bool)
    → is_held before r.mark ≡ u → (t ≡ true → u ≡ true)
    → (if t then o else option_or (refusal_of lock before r) p) ≡ None
    → (o ≡ None → AllByRecursion (IsNew lock before) xs)
    → (p ≡ None → AllByRecursion (IsNew lock (before ++ r ∷ [])) ys)
    → AllByRecursion (IsNew lock before) (if u then xs else r ∷ ys)
fresh_at lock before xs ys o p r true true e k h i j = i h
fresh_at lock before xs ys o p r true false e k h i j = absurd (let x : false ≡ true = k refl in cc)
fresh_at lock before xs ys o p r false u e k h i j =
    let parts = neither_refusal (refusal_of lock before r) p h in
    let new = not_refused lock before r parts.0 in
    first_new lock before xs ys r u (sym e ∙ new.absent) new (j parts.1)

pub all_fresh : (styles : List Style) (lock : Option Day) (before rs : List Record)
    → refused_in styles lock before rs ≡ None → AllByRecursion (IsNew lock before) (new_in before rs)
all_fresh styles lock before [] h = tt
all_fresh styles lock before (r ∷ rs) h =
    fresh_at lock before (new_in before rs) (new_in (before ++ r ∷ []) rs) (refused_in styles lock before rs)
    (refused_in styles lock (before ++ r ∷ []) rs) r
    (is_repeat styles before r) (is_held before r.mark) refl (repeat_held styles before r) h
    (all_fresh styles lock before rs) (all_fresh styles lock (before ++ r ∷ []) rs)

-- there are no more new ones than there are transactions
fewer_at : (r : Record) (xs ys : List Record) (n : ℕ) (t : Bool) → length xs ≤ n → length ys ≤ n
    → length (if t then xs else r ∷ ys) ≤ suc n
fewer_at r xs ys n true h k = omega (arith, h)
fewer_at r xs ys n false h k = omega (arith, k)

pub length-new : (before rs : List Record) → length (new_in before rs) ≤ length rs
length-new before [] = omega arith
length-new before (r ∷ rs) = fewer_at r (new_in before rs) (new_in (before ++ r ∷ []) rs) (length rs)
    (is_held before r.mark) (length-new before rs) (length-new (before ++ r ∷ []) rs)

recorded_once : (t : Txn) (m : List ℕ) (r : Result Entry Cause) → length (recorded t m r) ≤ 1
recorded_once t m (Ok e) = omega arith
recorded_once t m (Err cause) = omega arith

pub length-records : (styles : List Style) (before : List Txn) (file : List Located)
    → length (records_from styles before file) ≤ length file
length-records styles before [] = omega arith
length-records styles before (x ∷ xs) =
    let front =
    recorded x.txn (transaction_mark styles x.txn (number_in styles before x.txn) x.txn.mark)
    (balanced_entry styles x.txn) in
    let one =
    recorded_once x.txn (transaction_mark styles x.txn (number_in styles before x.txn) x.txn.mark)
    (balanced_entry styles x.txn) in
    omega (
      arith,
      one,
      length-records styles (before ++ x.txn ∷ []) xs,
      length-append front (records_from styles (before ++ x.txn ∷ []) xs),
    )

-- the transactions of a file
abbrev pub txns_of : List Located → List Txn
txns_of file = map (λ (x : Located). x.txn) file
