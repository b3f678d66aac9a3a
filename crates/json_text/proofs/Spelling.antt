-- What a reader of JSON makes of the bytes of a string.
use Rattle.std.proofs.Common.{◌≡◌, ◌∙◌, ◌++◌, ◌∷◌, ◌<◌, ◌≤◌, ◌/◌, ◌%◌, ◌==◌, ◌⊎◌, ℕ, zero, suc, List, [], Bool, true}
use Rattle.std.proofs.Common.{false}
use Rattle.std.proofs.Common.{cond, Option, Some, None, inl, inr, refl, sym, ap, subst, arith, append_assoc}
use Rattle.std.specs.Prelude.{◌&&◌, ◌||◌, not, nat_lt}
use Rattle.std.specs.List.{flat_map}
use Rattle.std.proofs.lemmas.Bool.{cases_eq, cases_lt, ne_eqb, le-ltb, lt-ltb, and_parts, or_parts, eqb-true}
use Rattle.std.proofs.lemmas.Bool.{not-true}
use Rattle.std.proofs.lemmas.Str.{encode_ascii}
use Rattle.json.specs.Text.{content, plain, prepend, code_unit, short_escape, is_high_surrogate, is_low_surrogate}
use Rattle.json.specs.Word.{is_operator, is_space}
use Rattle.json.specs.Lex.{Lexeme, Mode, lex, lex_byte, between, in_string, operator, space, other}
use Rattle.json_text.specs.JsonText.{hex_digit, escaped}

-- what the two readers of a string make of what stands for a byte, before any text
pub record Passes (b : ℕ) : Type 0 where
  pub spelled : (r : List ℕ) → content plain (escaped b ++ r) ≡ prepend (b ∷ []) (content plain r)
  pub passed : (r : List ℕ) → lex in_string (escaped b ++ r) ≡ lex in_string r

-- ---- what stands for a byte, case by case

pub escaped_small : (b high low : ℕ) → ((b == 34) || (b == 92)) ≡ false → nat_lt b 32 ≡ true → high ≡ hex_digit (b / 16)
    → low ≡ hex_digit (b % 16) → 92 ∷ (117 ∷ (48 ∷ (48 ∷ (high ∷ (low ∷ []))))) ≡ escaped b
unfolding escaped
escaped_small b high low marked small e f = rw (marked, small, e, f) refl

pub escaped_other : (b : ℕ) → ((b == 34) || (b == 92)) ≡ false → nat_lt b 32 ≡ false → b ∷ [] ≡ escaped b
unfolding escaped
escaped_other b marked large = rw (marked, large) refl

-- ---- quotes and backslashes

quote_passes : Passes 34
unfolding escaped content lex short_escape
quote_passes = record { spelled = λ r. refl; passed = λ r. refl }

backslash_passes : Passes 92
unfolding escaped content lex short_escape
backslash_passes = record { spelled = λ r. refl; passed = λ r. refl }

-- ---- bytes as they are

stays_inside : (o s : Bool) (x : ℕ) (r : List ℕ) (k : Mode → List Lexeme)
    → lex_byte in_string (cond o operator (cond s space other)) x r k ≡ k in_string
stays_inside true s x r k = refl
stays_inside false true x r k = refl
stays_inside false false x r k = refl

-- a byte that is neither is passed over
byte_passed : (x : ℕ) (r : List ℕ) → (x == 34) ≡ false → (x == 92) ≡ false → lex in_string (x ∷ r) ≡ lex in_string r
unfolding lex
byte_passed x r q b = rw (q, b) (stays_inside (is_operator x) (is_space x) x r (λ m. lex m r))

-- one that is large enough, too, stands for itself
byte_spelled : (x : ℕ) (r : List ℕ) → (x == 34) ≡ false → (x == 92) ≡ false → nat_lt x 32 ≡ false
    → content plain (x ∷ r) ≡ prepend (x ∷ []) (content plain r)
unfolding content
byte_spelled x r q b l = rw (q, b, l) refl

plain_passes : (x : ℕ) → (x ≡ 34 → ⊥) → (x ≡ 92 → ⊥) → 32 ≤ x → Passes x
unfolding escaped
plain_passes x q b l =
    let no_quote = ne_eqb x 34 q in
    let no_slash = ne_eqb x 92 b in
    let large = le-ltb x 32 l in
    record {
      spelled = λ r. rw (no_quote, no_slash, large) (byte_spelled x r no_quote no_slash large);
      passed = λ r. rw (no_quote, no_slash, large) (byte_passed x r no_quote no_slash);
    }

-- ---- bytes below the blank

abbrev is_unit : ℕ → Option ℕ → Bool
is_unit x None = false
is_unit x (Some y) = y == x

-- neither a quote nor a backslash
abbrev is_inside : ℕ → Bool
is_inside x = not ((x == 34) || (x == 92))

-- the two digits of a byte spell it, and it is no half of a pair
abbrev are_its_digits : ℕ → Bool
are_its_digits x =
    is_unit x (code_unit 48 48 (hex_digit (x / 16)) (hex_digit (x % 16)))
    && (not (is_high_surrogate x || is_low_surrogate x)
    && (is_inside (hex_digit (x / 16)) && is_inside (hex_digit (x % 16))))

abbrev all_below : (ℕ → Bool) → ℕ → Bool
all_below test zero = true
all_below test (suc n) = test n && all_below test n

below_all : (test : ℕ → Bool) (n : ℕ) → all_below test n ≡ true → (x : ℕ) → x < n → test x ≡ true
below_all test zero h x lt = absurd (omega arith)
below_all test (suc n) h x lt =
    let both = and_parts (test n) _ h in
    elim (cases_eq x n) [ inl same ↦ rw same both.0 | inr less ↦ below_all test n both.1 x (omega arith) ]

all_digits : all_below are_its_digits 32 ≡ true
unfolding code_unit
all_digits = refl

unit_is : (x : ℕ) (o : Option ℕ) → is_unit x o ≡ true → o ≡ Some x
unit_is x None h = absurd (cc)
unit_is x (Some y) h = ap (λ (n : ℕ). Some n) (eqb-true y x h)

inside_parts : (x : ℕ) → is_inside x ≡ true → ((x == 34) ≡ false) × ((x == 92) ≡ false)
inside_parts x h = or_parts (x == 34) (x == 92) (not-true ((x == 34) || (x == 92)) h)

-- two bytes that are neither are passed over
two_passed : (x y : ℕ) (r : List ℕ) → is_inside x ≡ true → is_inside y ≡ true
    → lex in_string (x ∷ y ∷ r) ≡ lex in_string r
two_passed x y r h k =
    let first = inside_parts x h in
    let second = inside_parts y k in
    byte_passed x (y ∷ r) first.0 first.1 ∙ byte_passed y r second.0 second.1

control_passes : (x : ℕ) → x < 32 → Passes x
unfolding escaped content lex
control_passes x h =
    let high = hex_digit (x / 16) in
    let low = hex_digit (x % 16) in
    let surrogate = is_high_surrogate x || is_low_surrogate x in
    let inside = is_inside high && is_inside low in
    let row = and_parts (is_unit x (code_unit 48 48 high low)) (not surrogate && inside)
    (below_all are_its_digits 32 all_digits x h) in
    let rest = and_parts (not surrogate) inside row.1 in
    let pair = or_parts (is_high_surrogate x) (is_low_surrogate x) (not-true surrogate rest.0) in
    let digits = and_parts (is_inside high) (is_inside low) rest.1 in
    let no_quote = ne_eqb x 34 (λ e. omega arith) in
    let no_slash = ne_eqb x 92 (λ e. omega arith) in
    let small = lt-ltb x 32 h in
    let unit = unit_is x (code_unit 48 48 high low) row.0 in
    let one = encode_ascii x (omega arith) in
    record {
      spelled = λ r. rw (no_quote, no_slash, small) (rw (unit, pair.0, pair.1, one) refl);
      passed = λ r. rw (no_quote, no_slash, small)
          (two_passed high low r digits.0 digits.1);
    }

-- ---- each byte, and a text

pub passes : (x : ℕ) → Passes x
passes x = by_kind (cases_eq x 34) (cases_eq x 92) (cases_lt x 32)
  where
    by_kind : (x ≡ 34) ⊎ (x ≡ 34 → ⊥) → (x ≡ 92) ⊎ (x ≡ 92 → ⊥) → (x < 32) ⊎ (32 ≤ x) → Passes x
    by_kind (inl e) b c = subst Passes (sym e) quote_passes
    by_kind (inr q) (inl e) c = subst Passes (sym e) backslash_passes
    by_kind (inr q) (inr b) (inl c) = control_passes x c
    by_kind (inr q) (inr b) (inr l) = plain_passes x q b l

-- up to its quote, a string is the text
pub content-escaped : (s r : List ℕ) → content plain (flat_map escaped s ++ 34 ∷ r) ≡ Some s
unfolding content
content-escaped [] r = refl
content-escaped (x ∷ s) r =
    ap (content plain) (append_assoc (escaped x) (flat_map escaped s) (34 ∷ r)) ∙ (passes x).spelled _
    ∙ ap (prepend (x ∷ [])) (content-escaped s r)

-- and what follows is read after its quote
pub lex-escaped : (s r : List ℕ) → lex in_string (flat_map escaped s ++ 34 ∷ r) ≡ lex between r
unfolding lex
lex-escaped [] r = refl
lex-escaped (x ∷ s) r =
    ap (lex in_string) (append_assoc (escaped x) (flat_map escaped s) (34 ∷ r)) ∙ (passes x).passed _ ∙ lex-escaped s r
