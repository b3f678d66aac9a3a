-- The bytes of a reply are cut at the first CR after each name, so that they are one reply alone.
use Rattle.std.proofs.Common.{◌≡◌, ◌==◌, ◌<◌, ◌^◌, ◌+◌, ◌++◌, ℕ, zero, suc, Bool, true, false, not, cond, List, [], ◌∷◌}
use Rattle.std.proofs.Common.{length, take, drop, codes, decimal, Option, Some, None, refl, sym, ap, ◌∙◌, subst}
use Rattle.std.proofs.Common.{inl, inr, arith}
use Rattle.std.proofs.lemmas.Bool.Decides.{Decides-eqb}
use Rattle.std.proofs.lemmas.List.{append_cancel_left}
use Rattle.std.proofs.lemmas.Str.{is_utf8-from_IsUtf8, IsUtf8-from_is_utf8}
use Rattle.std.specs.Prelude.{if◌then◌else◌, ◌||◌}
use Rattle.std.specs.Str.{IsUtf8, is_utf8}
use Rattle.std.specs.List.{list_all, list_any, position_or_len}
use Rattle.std.specs.Char.{is_ascii_digit}
use Rattle.money_core.proofs.RoundTrip.{all_digits_decimal}
use Rattle.serde_json.specs.Data.{Data}
use Rattle.serde_json.specs.Read.{read}
use Rattle.treasury_client.specs.Reply.{IsOnLine, IsReply, length_text, http_reply_text, value_in}
use Rattle.treasury_client.specs.Parts.{EndsLine}

first_of : (x y : ℕ) (xs ys : List ℕ) → x ∷ xs ≡ y ∷ ys → x ≡ y
first_of x y xs ys same = cc

rest_of : (x y : ℕ) (xs ys : List ℕ) → x ∷ xs ≡ y ∷ ys → xs ≡ ys
rest_of x y xs ys same = cc

none_is_some : (x : ℕ) (xs : List ℕ) → [] ≡ x ∷ xs → ⊥
none_is_some x xs same = absurd cc

-- a text on one line does not begin with a CR
no_cr : (x : ℕ) (xs : List ℕ) → IsOnLine (x ∷ xs) → x ≡ 13 → ⊥
no_cr x xs line is =
    let clash : true ≡ false = subst (λ (n : ℕ). list_any (λ byte. byte == 13) (n ∷ xs) ≡ false) is line in absurd cc

or_false_right : (b : Bool) (rest : Bool) → (b || rest) ≡ false → rest ≡ false
or_false_right false rest h = h
or_false_right true rest h = let clash : true ≡ false = h in absurd cc

on_line_rest : (x : ℕ) (xs : List ℕ) → IsOnLine (x ∷ xs) → IsOnLine xs
on_line_rest x xs line = or_false_right (x == 13) (list_any (λ byte. byte == 13) xs) line

-- a text is cut at its first CR in one way
pub one_cut : (a b rest behind : List ℕ) → IsOnLine a → EndsLine rest → IsOnLine b → a ++ rest ≡ b ++ 13 ∷ behind
    → (a ≡ b) × (rest ≡ 13 ∷ behind)
one_cut [] [] rest behind la ends lb same = (refl, same)
one_cut [] (y ∷ b) rest behind la (inl none) lb same = absurd (none_is_some y (b ++ 13 ∷ behind) (sym none ∙ same))
one_cut [] (y ∷ b) rest behind la (inr some) lb same =
    absurd (no_cr y b lb (sym (first_of 13 y some.0 (b ++ 13 ∷ behind) (sym some.1 ∙ same))))
one_cut (x ∷ a) [] rest behind la ends lb same =
    absurd (no_cr x a la (first_of x 13 (a ++ rest) behind same))
one_cut (x ∷ a) (y ∷ b) rest behind la ends lb same =
    let cut = one_cut a b rest behind (on_line_rest x a la) ends (on_line_rest y b lb)
    (rest_of x y (a ++ rest) (b ++ 13 ∷ behind) same) in
    let first = first_of x y (a ++ rest) (b ++ 13 ∷ behind) same in
    (ap (λ (n : ℕ). n ∷ a) first ∙ ap (λ (t : List ℕ). y ∷ t) cut.0, cut.1)

-- digits stand on one line
digit_is_no_cr : (x : ℕ) → is_ascii_digit x ≡ true → (x == 13) ≡ false
digit_is_no_cr x digit = grind arith

digits_on_line : (xs : List ℕ) → list_all is_ascii_digit xs ≡ true → IsOnLine xs
digits_on_line [] all = refl
digits_on_line (x ∷ xs) all = grind (arith, digit_is_no_cr x, digits_on_line xs)

pub decimal_on_line : (n : ℕ) → n < 2 ^ 64 → IsOnLine (decimal n)
decimal_on_line n fits = digits_on_line (decimal n) (all_digits_decimal n fits)

-- the end of a head after its CR
abbrev behind_length : List ℕ → List ℕ
behind_length body =
    codes "\nContent-Length: " ++ (decimal (length body) ++ (codes "\r\nConnection: close\r\n\r\n" ++ body))

-- the bytes of one reply are those of no other
pub one_reply : (bytes status kind body status2 kind2 body2 : List ℕ) → IsReply bytes status kind body
    → IsReply bytes status2 kind2 body2 → (status ≡ status2) × (kind ≡ kind2) × (body ≡ body2)
one_reply bytes status kind body status2 kind2 body2 one two =
    let same = append_cancel_left (codes "HTTP/1.1 ")
    (status ++ (codes "\r\nContent-Type: " ++ (kind ++ length_text body)))
    (status2 ++ (codes "\r\nContent-Type: " ++ (kind2 ++ length_text body2))) (sym one.written ∙ two.written) in
    let cut = one_cut status status2 (codes "\r\nContent-Type: " ++ (kind ++ length_text body))
    (codes "\nContent-Type: " ++ (kind2 ++ length_text body2)) one.status_line
    (inr (codes "\nContent-Type: " ++ (kind ++ length_text body), refl)) two.status_line same in
    let kinds = append_cancel_left (codes "\r\nContent-Type: ") (kind ++ length_text body) (kind2 ++ length_text body2)
    cut.1 in
    let cut2 = one_cut kind kind2 (length_text body) (behind_length body2) one.kind_line
    (inr (behind_length body, refl)) two.kind_line kinds in
    let lengths = append_cancel_left (codes "\r\nContent-Length: ")
    (decimal (length body) ++ (codes "\r\nConnection: close\r\n\r\n" ++ body))
    (decimal (length body2) ++ (codes "\r\nConnection: close\r\n\r\n" ++ body2)) cut2.1 in
    let cut3 = one_cut (decimal (length body)) (decimal (length body2)) (codes "\r\nConnection: close\r\n\r\n" ++ body)
    (codes "\nConnection: close\r\n\r\n" ++ body2) (decimal_on_line (length body) one.fits)
    (inr (codes "\nConnection: close\r\n\r\n" ++ body, refl)) (decimal_on_line (length body2) two.fits) lengths in (
      cut.0,
      cut2.0,
      append_cancel_left (codes "\r\nConnection: close\r\n\r\n") body body2 cut3.1,
    )

-- ---- how a call is put together

-- with one more piece after what there was
pub pushed_behind_front : (old new piece front : List ℕ) → new ≡ old ++ piece → old ≡ front → new ≡ front ++ piece
pushed_behind_front old new piece front is was = is ∙ ap (λ (t : List ℕ). t ++ piece) was

pub three_alike : (f : List ℕ → List ℕ → List ℕ → List ℕ) (a b d a2 b2 d2 : List ℕ) → a ≡ a2 → b ≡ b2 → d ≡ d2
    → f a b d ≡ f a2 b2 d2
three_alike f a b d a2 b2 d2 one two three =
    ap (λ (x : List ℕ). f x b d) one ∙ (ap (λ (x : List ℕ). f a2 x d) two ∙ ap (λ (x : List ℕ). f a2 b2 x) three)

-- ---- how a reply is read

-- a text is cut at the place of its first CR
place_first : (k : ℕ) (b : Bool) → 0 ≡ cond (not b) (1 + k) 0 → b ≡ true
place_first k true e = refl
place_first k false e = absurd (omega (arith, e))

place_later : (k n : ℕ) (b : Bool) → suc n ≡ cond (not b) (1 + k) 0 → (b ≡ false) × (n ≡ k)
place_later k n true e = absurd cc
place_later k n false e = (refl, omega (arith, e))

on_line_more : (x : ℕ) (xs : List ℕ) → (x == 13) ≡ false → IsOnLine xs → IsOnLine (x ∷ xs)
on_line_more x xs other line = ap (λ (b : Bool). b || list_any (λ byte. byte == 13) xs) other ∙ line

pub cut_at : (xs : List ℕ) (n : ℕ) → n ≡ position_or_len (λ b. b == 13) xs → IsOnLine (take n xs) × EndsLine (drop n xs)
cut_at [] zero e = (refl, inl refl)
cut_at [] (suc n) e = (refl, inl refl)
cut_at (x ∷ xs) zero e =
    let is : x ≡ 13 = (Decides-eqb x 13).0 (place_first (position_or_len (λ b. b == 13) xs) (x == 13) e) in
    (refl, inr (xs, ap (λ (y : ℕ). y ∷ xs) is))
cut_at (x ∷ xs) (suc n) e =
    let step = place_later (position_or_len (λ b. b == 13) xs) n (x == 13) e in
    let rest = cut_at xs n step.1 in
    (on_line_more x (take n xs) step.0 rest.0, rest.1)

-- bytes that do not begin so are no reply
pub no_first : (bytes : List ℕ) → ((rest : List ℕ) → bytes ≡ codes "HTTP/1.1 " ++ rest → ⊥)
    → (status kind body : List ℕ) → IsReply bytes status kind body → ⊥
no_first bytes none status kind body is =
    none (status ++ (codes "\r\nContent-Type: " ++ (kind ++ length_text body))) is.written

-- what stands after the status of a reply
status_cut : (bytes status rest status2 kind body : List ℕ) → bytes ≡ codes "HTTP/1.1 " ++ (status ++ rest)
    → IsOnLine status → EndsLine rest → IsReply bytes status2 kind body
    → rest ≡ codes "\r\nContent-Type: " ++ (kind ++ length_text body)
status_cut bytes status rest status2 kind body at line ends is =
    (one_cut status status2 rest (codes "\nContent-Type: " ++ (kind ++ length_text body)) line ends is.status_line
    (append_cancel_left (codes "HTTP/1.1 ") (status ++ rest)
    (status2 ++ (codes "\r\nContent-Type: " ++ (kind ++ length_text body))) (sym at ∙ is.written))).1

pub no_second : (bytes status rest : List ℕ) → bytes ≡ codes "HTTP/1.1 " ++ (status ++ rest) → IsOnLine status
    → EndsLine rest → ((behind : List ℕ) → rest ≡ codes "\r\nContent-Type: " ++ behind → ⊥)
    → (status2 kind body : List ℕ) → IsReply bytes status2 kind body → ⊥
no_second bytes status rest at line ends none status2 kind body is =
    none (kind ++ length_text body) (status_cut bytes status rest status2 kind body at line ends is)

pub no_third : (bytes status rest kind more : List ℕ) → bytes ≡ codes "HTTP/1.1 " ++ (status ++ rest) → IsOnLine status
    → EndsLine rest → rest ≡ codes "\r\nContent-Type: " ++ (kind ++ more) → IsOnLine kind → EndsLine more
    → ((body : List ℕ) → length body < 2 ^ 64 → more ≡ length_text body → ⊥)
    → (status2 kind2 body : List ℕ) → IsReply bytes status2 kind2 body → ⊥
no_third bytes status rest kind more at line ends of line2 ends2 none status2 kind2 body is =
    none body is.fits
    (one_cut kind kind2 more (behind_length body) line2 ends2 is.kind_line
    (append_cancel_left (codes "\r\nContent-Type: ") (kind ++ more) (kind2 ++ length_text body)
    (sym of ∙ status_cut bytes status rest status2 kind2 body at line ends is))).1

-- the length of a body, and that
pub length_cut : (text digits rest body : List ℕ) → text ≡ codes "\r\nContent-Length: " ++ (digits ++ rest)
    → IsOnLine digits → EndsLine rest → length body < 2 ^ 64 → text ≡ length_text body
    → (digits ≡ decimal (length body)) × (rest ≡ codes "\r\nConnection: close\r\n\r\n" ++ body)
length_cut text digits rest body at line ends fits same =
    one_cut digits (decimal (length body)) rest (codes "\nConnection: close\r\n\r\n" ++ body) line ends
    (decimal_on_line (length body) fits)
    (append_cancel_left (codes "\r\nContent-Length: ") (digits ++ rest)
    (decimal (length body) ++ (codes "\r\nConnection: close\r\n\r\n" ++ body)) (sym at ∙ same))

pub other_length : (text digits rest found body : List ℕ) → text ≡ codes "\r\nContent-Length: " ++ (digits ++ rest)
    → IsOnLine digits → EndsLine rest → rest ≡ codes "\r\nConnection: close\r\n\r\n" ++ found
    → (digits ≡ decimal (length found) → ⊥) → length body < 2 ^ 64 → text ≡ length_text body → ⊥
other_length text digits rest found body at line ends of other fits same =
    let cut = length_cut text digits rest body at line ends fits same in
    let bodies = append_cancel_left (codes "\r\nConnection: close\r\n\r\n") found body (sym of ∙ cut.1) in
    other (cut.0 ∙ ap (λ (b : List ℕ). decimal (length b)) (sym bodies))

pub length_told : (text digits rest body : List ℕ) → text ≡ codes "\r\nContent-Length: " ++ (digits ++ rest)
    → rest ≡ codes "\r\nConnection: close\r\n\r\n" ++ body → digits ≡ decimal (length body) → text ≡ length_text body
length_told text digits rest body at of is =
    at ∙ (ap (λ (r : List ℕ). codes "\r\nContent-Length: " ++ (digits ++ r)) of
    ∙ ap (λ (d : List ℕ). codes "\r\nContent-Length: " ++ (d ++ (codes "\r\nConnection: close\r\n\r\n" ++ body))) is)

pub reply_told : (bytes status rest kind more body : List ℕ) → bytes ≡ codes "HTTP/1.1 " ++ (status ++ rest)
    → rest ≡ codes "\r\nContent-Type: " ++ (kind ++ more) → more ≡ length_text body
    → bytes ≡ http_reply_text status kind body
reply_told bytes status rest kind more body at of is =
    at ∙ (ap (λ (r : List ℕ). codes "HTTP/1.1 " ++ (status ++ r)) of
    ∙ ap (λ (m : List ℕ). codes "HTTP/1.1 " ++ (status ++ (codes "\r\nContent-Type: " ++ (kind ++ m)))) is)

-- ---- the value of a body

value_if : (body : List ℕ) (t : Bool) → is_utf8 body ≡ t → (IsUtf8 body → ⊥)
    → (if t then read body else None) ≡ None
value_if body true e lacks = absurd (lacks (IsUtf8-from_is_utf8 body e))
value_if body false e lacks = refl

pub value_in-no_utf8 : (body : List ℕ) → (IsUtf8 body → ⊥) → value_in body ≡ None
unfolding value_in
value_in-no_utf8 body lacks = value_if body (is_utf8 body) refl lacks

pub value_in-utf8 : (body : List ℕ) → IsUtf8 body → value_in body ≡ read body
unfolding value_in
value_in-utf8 body text =
    ap (λ (t : Bool). let held : Option Data = (if t then read body else None) in held) (is_utf8-from_IsUtf8 body text)

-- what is read of a text is the value of the body that has it
pub value_read : (body text : List ℕ) (o : Option Data) → (text ≡ body) × IsUtf8 body → read text ≡ o
    → value_in body ≡ o
value_read body text o (same, utf8) reads = value_in-utf8 body utf8 ∙ (ap read (sym same) ∙ reads)
