-- A reply of HTTP: its head, and how it is written part by part.
use Rattle.std.proofs.Common.{◌≡◌, ◌≤◌, ◌<◌, ◌+◌, ◌++◌, ℕ, List, [], length, take, drop, codes, decimal, Option, arith}
use Rattle.std.proofs.Common.{ap, ◌∙◌, sym, subst, refl, append_assoc, append-nil, length-append, Result, Ok, Err, OnOk}
use Rattle.std.proofs.lemmas.List.{drop_at, take_at, take-append-le}
use Rattle.std.proofs.Math.Seq.{take-add}
use Rattle.std.proofs.KnownBytes.{Appends-trans}
use Rattle.std.specs.Io.KnownBytes.{Appends}
use Rattle.http.specs.StatusCode.{code_digits}
use Rattle.http_request.specs.declared.call.Form.{Form}
use Rattle.http_request.specs.declared.call.Form.TheVariants as form
use Rattle.treasury_api.specs.declared.web.status.Status.{Status}
use Rattle.treasury_api.specs.declared.web.status.Status.TheVariants.{Done, BadRequest, Forbidden, NotFound, Conflict}
use Rattle.treasury_api.specs.declared.web.status.Status.TheVariants.{Unprocessable, Internal, Unavailable}
use Rattle.treasury_api.specs.WebReply.{reason_of, type_of, reply_head, whole_reply}
use Rattle.treasury_api.specs.WebServing.{code_of}

-- ---- the head

-- its pieces, as they are appended
abbrev pub pieces : List ℕ → List ℕ → List ℕ → List ℕ → List ℕ
pieces digits reason type bytes =
    codes "HTTP/1.1 " ++ (digits ++ (codes " "
    ++ (reason ++ (codes "\r\nContent-Type: "
    ++ (type ++ (codes "\r\nContent-Length: "
    ++ (bytes ++ (codes "\r\nConnection: close\r\n\r\n" ++ []))))))))

append_assoc_thirteen : (h a s b x1 x2 k x3 x4 c y1 y2 y3 : List ℕ)
    → h ++ (a ++ (s ++ (b ++ ((x1 ++ x2) ++ (k ++ ((x3 ++ x4) ++ (c ++ ((y1 ++ (y2 ++ y3)) ++ []))))))))
    ≡ h ++ a ++ s ++ b ++ x1 ++ x2 ++ k ++ x3 ++ x4 ++ c ++ y1 ++ y2 ++ y3
append_assoc_thirteen h a s b x1 x2 k x3 x4 c y1 y2 y3 = simp (append_assoc, append-nil)

pieces_are : (digits reason type bytes : List ℕ) (form : Form) (status size : ℕ) → digits ≡ code_digits status
    → reason ≡ reason_of status → type ≡ type_of form → bytes ≡ decimal size
    → pieces digits reason type bytes ≡ reply_head form status size
pieces_are digits reason type bytes form status size d r k b =
    ap (λ (x : List ℕ). pieces x reason type bytes) d ∙
    (ap (λ (x : List ℕ). pieces (code_digits status) x type bytes) r ∙
    (ap (λ (x : List ℕ). pieces (code_digits status) (reason_of status) x bytes) k ∙
    (ap (λ (x : List ℕ). pieces (code_digits status) (reason_of status) (type_of form) x) b
    ∙ append_assoc_thirteen (codes "HTTP/1.1 ") (code_digits status) (codes " ") (reason_of status) (codes "\r\n")
    (codes "Content-Type: ") (type_of form) (codes "\r\n") (codes "Content-Length: ") (decimal size) (codes "\r\n")
    (codes "Connection: close\r\n") (codes "\r\n"))))

pub head_appended : {T E : Type 0} (result : Result T E) (old new digits reason type bytes : List ℕ) (form : Form)
    (status size : ℕ)
    → digits ≡ code_digits status → reason ≡ reason_of status → type ≡ type_of form → bytes ≡ decimal size
    → OnOk result (new ≡ old ++ pieces digits reason type bytes)
    → OnOk result (new ≡ old ++ reply_head form status size)
head_appended (Ok x) old new digits reason type bytes form status size d r k b told =
    told ∙ ap (λ (t : List ℕ). old ++ t) (pieces_are digits reason type bytes form status size d r k b)
head_appended (Err e) old new digits reason type bytes form status size d r k b told = tt

length_of_reply_parts : (h a s b m k n c l : List ℕ)
    → length (h ++ (a ++ (s ++ (b ++ (m ++ (k ++ (n ++ (c ++ (l ++ [])))))))))
    ≡ length h + (length a + (length s + (length b + (length m + (length k + (length n + (length c + length l)))))))
length_of_reply_parts h a s b m k n c l = simp (length-append, append-nil)

pub head_fits : (n cap : ℕ) (digits reason type bytes : List ℕ) → length digits ≡ 3 → length reason ≤ 21
    → length type ≤ 25 → length bytes ≤ 40
    → n + 192 ≤ cap → n + length (pieces digits reason type bytes) ≤ cap
head_fits n cap digits reason type bytes d r k b fits =
    let e = length_of_reply_parts (codes "HTTP/1.1 ") digits (codes " ") reason (codes "\r\nContent-Type: ") type
    (codes "\r\nContent-Length: ") bytes (codes "\r\nConnection: close\r\n\r\n") in
    omega (arith, e)

pub type_short : (f : Form) → length (type_of f) ≤ 25
type_short form.Text = omega arith
type_short form.Json = omega arith

pub reason_short : (s : Status) → length (reason_of (code_of s)) ≤ 21
reason_short Done = omega arith
reason_short BadRequest = omega arith
reason_short Forbidden = omega arith
reason_short NotFound = omega arith
reason_short Conflict = omega arith
reason_short Unprocessable = omega arith
reason_short Internal = omega arith
reason_short Unavailable = omega arith

-- ---- written

-- a first part of the head
torn_head : (a b : Option (List ℕ)) (taken : ℕ) (head body : List ℕ) → taken < length head
    → Appends a b (take taken head)
    → (n : ℕ) × (n < length (head ++ body)) × Appends a b (take n (head ++ body))
torn_head a b taken head body less part = (
  taken,
  (let sum = length-append head body in omega (arith, less, sum)),
  subst (λ (t : List ℕ). Appends a b t) (sym (take-append-le taken head body (omega (arith, less)))) part,
)

take_seam : (xs ys : List ℕ) (n : ℕ) → take (length xs + n) (xs ++ ys) ≡ xs ++ take n ys
take_seam xs ys n =
    take-add (length xs) n (xs ++ ys)
    ∙ (ap (λ (t : List ℕ). t ++ take n (drop (length xs) (xs ++ ys))) (take_at xs ys (length xs) refl) ∙ ap
    (λ (t : List ℕ). xs ++ take n t) (drop_at xs ys (length xs) refl))

-- the head, and a first part of the body
pub torn_body : (a b c : Option (List ℕ)) (taken : ℕ) (head body : List ℕ) → Appends a b head → taken < length body
    → Appends b c (take taken body) → (n : ℕ) × (n < length (head ++ body)) × Appends a c (take n (head ++ body))
torn_body a b c taken head body first less part = (
  length head + taken,
  (let sum = length-append head body in omega (arith, less, sum)),
  subst (λ (t : List ℕ). Appends a c t) (sym (take_seam head body taken))
      (Appends-trans a b c head (take taken body) first part),
)

module _ (form : Form) (status : ℕ) (body : List ℕ) where
  pub head_torn : (a b : Option (List ℕ)) (taken : ℕ) (slice : List ℕ) → slice ≡ reply_head form status (length body)
      → taken < length slice → Appends a b (take taken slice)
      → (n : ℕ) × (n < length (whole_reply form status body)) × Appends a b (take n (whole_reply form status body))
  head_torn a b taken slice is less part =
      torn_head a b taken (reply_head form status (length body)) body
      (subst (λ (t : List ℕ). taken < length t) is less)
      (subst (λ (t : List ℕ). Appends a b (take taken t)) is part)

  pub body_torn : (a b c : Option (List ℕ)) (taken : ℕ) (slice text : List ℕ) → slice
      ≡ reply_head form status (length body)
      → text ≡ body → Appends a b slice → taken < length text → Appends b c (take taken text)
      → (n : ℕ) × (n < length (whole_reply form status body)) × Appends a c (take n (whole_reply form status body))
  body_torn a b c taken slice text is same first less part =
      torn_body a b c taken (reply_head form status (length body)) body (subst (λ (t : List ℕ). Appends a b t) is first)
      (subst (λ (t : List ℕ). taken < length t) same less)
      (subst (λ (t : List ℕ). Appends b c (take taken t)) same part)

  pub both_written : (a b c : Option (List ℕ)) (slice text : List ℕ) → slice ≡ reply_head form status (length body)
      → text ≡ body → Appends a b slice → Appends b c text → Appends a c (whole_reply form status body)
  both_written a b c slice text is same first second =
      Appends-trans a b c (reply_head form status (length body)) body (subst (λ (t : List ℕ). Appends a b t) is first)
      (subst (λ (t : List ℕ). Appends b c t) same second)
