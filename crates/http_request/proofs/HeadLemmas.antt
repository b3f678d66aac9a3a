-- Heads within their limits.
use Rattle.std.proofs.Common.{◌⊎◌, ◌≡◌, ◌≤◌, ◌+◌, ℕ, List, [], ◌∷◌, ◌++◌, take, drop, length, Option, arith, sym, subst}
use Rattle.std.proofs.Common.{ap, ◌∙◌, map, append-nil}
use Rattle.std.proofs.lemmas.Grind.{common_steps}
use Rattle.std.proofs.lemmas.List.{length-map, length-append, take-append-drop, take-append-le, take_at}
use Rattle.std.proofs.Math.Seq.{take-append_seam}
use Rattle.std.specs.Io.KnownBytes.{Consumes}
use Rattle.httparse.specs.Grammar.{HasNoRequest, MayBecomeRequest, RequestHead, print_request, Field}
use Rattle.httparse.specs.Spans.{RequestOverflows, AreFieldsAt, header_bytes, name_and_value, IsRequestWithin}
use Rattle.httparse.specs.Spans.{IsRequestOf}
use Rattle.httparse.specs.declared.spans.HeaderSpan.{HeaderSpan}
use Rattle.httparse.specs.declared.spans.RequestSpans.{RequestSpans}
use Rattle.httparse.proofs.GrammarLemmas.{print_request-append}
use Rattle.http_request.specs.Head.{IsHead, NeverHead}
use Rattle.http_request.specs.Call.{StopsAtHead}
use Rattle.http_request.specs.Found.{HasHead}

pub record Reading (r0 r1 : Option (List ℕ)) (text : List ℕ) : Type 0 where
  pub read : Consumes r0 r1 text
  pub within : length text ≤ 16_384
  pub none : HasNoRequest text
  pub may : (text ≡ []) ⊎ MayBecomeRequest text

-- a text with a byte in it is not empty
not_empty : (a b c : List ℕ) (x : ℕ) → [] ≡ a ++ (b ++ x ∷ c) → ⊥
not_empty a b c x e = (let l : 0 ≡ length a + (length b + (length c + 1)) =
    ap length e ∙ (length-append a (b ++ x ∷ c) ∙ ap (λ n. length a + n) (length-append b (x ∷ c) ∙ omega arith)) in
    omega arith)

-- nothing is no head
pub HasNoRequest-nil : HasNoRequest []
HasNoRequest-nil head rest reads = not_empty _ _ _ _ (reads.1 ∙ print_request-append head rest)

-- where nothing that was read has a head, the last part is empty
pub all_before : (text : List ℕ) → HasNoRequest text → StopsAtHead text
all_before text none =
    record { before = text; last = []; split = sym (append-nil text); none = none; short = omega arith }

-- a text of all the bytes that a head may have, and with none in it
pub never_full : (text : List ℕ) → length text ≡ 16_384 → HasNoRequest text → NeverHead text
never_full text full none more head rest is_head =
    let p = print_request head in
    let e : text ++ more ≡ p ++ rest = is_head.reads.1 in
    let small : length p ≤ length text = (let s = is_head.small in omega arith) in
    let front : take (length p) text ≡ p =
    sym (take-append-le (length p) text more small) ∙ ap (take (length p)) e ∙ take-append_seam p rest in
    let whole : text ≡ p ++ drop (length p) text =
    sym (take-append-drop (length p) text) ∙ ap (λ t. t ++ drop (length p) text) front in
    none head (drop (length p) text) (is_head.reads.0, whole)

pub never_few : (text : List ℕ) → RequestOverflows 32 text → NeverHead text
never_few text over more head rest is_head =
    (let h = over more head rest is_head.reads in let f = is_head.few in absurd (omega arith))

pub few_fields : (text : List ℕ) (headers : List HeaderSpan) (count : ℕ) (fields : List Field)
    → AreFieldsAt text headers count fields → length fields ≤ length headers
few_fields text headers count fields at =
    let e : length (map (header_bytes text) (take count headers)) ≡ length (map name_and_value fields) = ap length at in
    let l : length (take count headers) ≡ length fields = simp length-map at e in
    grind (arith, common_steps, l)

pub head_found : (r0 r1 : Option (List ℕ)) (text held : List ℕ) (headers : List HeaderSpan) (spans : RequestSpans)
    → held ≡ text → Consumes r0 r1 text → length text ≤ 16_384 → length headers ≡ 32
    → IsRequestWithin held headers spans → IsRequestOf held headers spans → StopsAtHead text
    → HasHead r0 r1 text headers spans
head_found r0 r1 text held headers spans same read within room inside of stops =
    let P : List ℕ → Type 0 = λ t. HasHead r0 r1 t headers spans in
    subst P same (record {
      read = (let Q : List ℕ → Type 0 = λ t. Consumes r0 r1 t in subst Q (sym same) read);
      bounded = (let n : length held ≡ length text = ap length same in omega arith);
      head = of.0;
      rest = drop spans.len held;
      is_head = record {
        reads = of.1.reads;
        small = (let n : length held ≡ length text = ap length same in let f = inside.section.len_fits in let k =
            of.1.len in omega arith);
        few = (let h = few_fields held headers spans.headers of.0.fields of.1.fields in omega arith);
      };
      at = of.1;
      within = inside;
      stops = subst StopsAtHead (sym same) stops;
    })

-- the spans of a head within the limits
pub has_head : (text : List ℕ) (headers : List HeaderSpan) (spans : RequestSpans) → length headers ≡ 32
    → IsRequestWithin text headers spans → IsRequestOf text headers spans → spans.len ≤ 16_384
    → (head : RequestHead) × (rest : List ℕ) × IsHead text head rest
has_head text headers spans room inside of small = (
  of.0,
  drop spans.len text,
  record {
    reads = of.1.reads;
    small = (let k = of.1.len in omega arith);
    few = (let h = few_fields text headers spans.headers of.0.fields of.1.fields in omega arith);
  },
)

pub cut_back : (n : ℕ) (old more full new : List ℕ) → length old ≡ n → full ≡ old ++ more → new ≡ take n full
    → new ≡ old
cut_back n old more full new h e t = t ∙ ap (take n) e ∙ take_at old more n h
