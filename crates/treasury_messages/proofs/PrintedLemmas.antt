-- the text of messages, and of the first of them
use Rattle.std.proofs.Common.{◌≡◌, ◌∙◌, ◌+◌, ◌<◌, ℕ, List, [], ◌∷◌, ◌++◌, take, length, get_or, refl, sym, ap, subst}
use Rattle.std.proofs.Common.{append_assoc, append-nil, Result, Ok, Err, OnOk, OnErr}
use Rattle.std.proofs.lemmas.List.{take_more}
use Rattle.std.proofs.Math.Seq.{take-length}
use Rattle.treasury_messages.specs.Said.{Said}
use Rattle.treasury_messages.specs.Printed.{IsMessageLine, IsTextOf, IsFirstTextOf}

text_more : (ms : List Said) (m : Said) (text line : List ℕ) → IsTextOf ms text → IsMessageLine m line
    → IsTextOf (ms ++ m ∷ []) (text ++ line)
text_more [] m text line h k = (line, [], k, refl, ap (λ (t : List ℕ). t ++ line) h ∙ sym (append-nil line))
text_more (x ∷ ms) m text line h k = (
  h.0,
  h.1 ++ line,
  h.2,
  text_more ms m h.1 line h.3 k,
  ap (λ (t : List ℕ). t ++ line) h.4 ∙ append_assoc h.0 h.1 line,
)

-- one message more
pub first_more : (ms : List Said) (i : ℕ) (m : Said) (text line : List ℕ) → i < length ms → m ≡ get_or ms i m
    → IsTextOf (take i ms) text → IsMessageLine m line → IsTextOf (take (i + 1) ms) (text ++ line)
first_more ms i m text line few is h k =
    subst (λ (l : List Said). IsTextOf l (text ++ line))
    (ap (λ (x : Said). take i ms ++ x ∷ []) is ∙ sym (take_more ms i m few)) (text_more (take i ms) m text line h k)

-- all of them
pub first_all : (ms : List Said) (i : ℕ) (text : List ℕ) → i ≡ length ms → IsTextOf (take i ms) text → IsTextOf ms text
first_all ms i text e h =
    subst (λ (l : List Said). IsTextOf l text) (ap (λ (k : ℕ). take k ms) e ∙ take-length ms) h

-- what was appended to nothing, whether or not memory ran out
pub first_text : {T E : Type 0} (r : Result T E) (ms : List Said) (old new : List ℕ) → old ≡ []
    → OnOk r ((text : List ℕ) × IsTextOf ms text × (new ≡ old ++ text))
    → OnErr r ((text : List ℕ) × IsFirstTextOf ms text × (new ≡ old ++ text)) → IsFirstTextOf ms new
first_text (Ok v) ms old new e ok err = (
  length ms,
  subst (λ (l : List Said). IsTextOf l new) (sym (take-length ms))
      (subst (λ (t : List ℕ). IsTextOf ms t) (sym (ok.2 ∙ ap (λ (o : List ℕ). o ++ ok.0) e)) ok.1),
)
first_text (Err x) ms old new e ok err = (
  err.1.0,
  subst (λ (t : List ℕ). IsTextOf (take err.1.0 ms) t)
      (sym (err.2 ∙ ap (λ (o : List ℕ). o ++ err.0) e)) err.1.1,
)
