-- What is written with escapes.
use Rattle.std.proofs.Common.{◌≡◌, ◌&&◌, ℕ, List, Bool, true, false, Some, None, if◌then◌else◌, refl, ap, ◌∙◌}
use Rattle.std.proofs.Common.{sym, subst, IsUtf8}
use Rattle.std.specs.Str.{is_utf8}
use Rattle.std.proofs.lemmas.Str.{IsUtf8-from_is_utf8, is_utf8-from_IsUtf8}
use Rattle.percent_encoding.specs.Percent.{percent_decode}
use Rattle.http_request.specs.Query.{is_escaped, decoded}

pub decoded_some : (written bytes : List ℕ) → is_escaped written ≡ true → bytes ≡ percent_decode written
    → IsUtf8 bytes → Some bytes ≡ decoded written
decoded_some written bytes escaped same text =
    let good : is_utf8 (percent_decode written) ≡ true = is_utf8-from_IsUtf8 _ (subst IsUtf8 same text) in
    ap Some same
    ∙ sym (ap (λ (e : Bool). if e && is_utf8 (percent_decode written) then Some (percent_decode written) else None)
    escaped ∙ ap (λ (u : Bool). if u then Some (percent_decode written) else None) good)

pub decoded_unescaped : (written : List ℕ) → is_escaped written ≡ false → None ≡ decoded written
decoded_unescaped written none =
    sym (ap (λ (e : Bool). if e && is_utf8 (percent_decode written) then Some (percent_decode written) else None) none)

pub no_text : (written bytes : List ℕ) → bytes ≡ percent_decode written → ¬ (IsUtf8 bytes) → None ≡ decoded written
no_text written bytes same none = by_escape (is_escaped written)
    (by_text (is_utf8 (percent_decode written)) (λ e. none (subst IsUtf8 (sym same) (IsUtf8-from_is_utf8 _ e))))
  where
    by_text : (u : Bool) → (u ≡ true → ⊥) → u ≡ false
    by_text true not = absurd (not refl)
    by_text false not = refl

    by_escape : (e : Bool) → is_utf8 (percent_decode written) ≡ false
        → None ≡ (if e && is_utf8 (percent_decode written) then Some (percent_decode written) else None)
    by_escape true other = sym (ap (λ (u : Bool). if u then Some (percent_decode written) else None) other)
    by_escape false other = refl
