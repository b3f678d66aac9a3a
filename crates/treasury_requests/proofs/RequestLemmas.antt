-- What bytes spell that are UTF-8 or not.
use Rattle.std.proofs.Common.{◌≡◌, ℕ, Bool, true, false, List, Option, None, option_and_then, ap, refl}
use Rattle.std.proofs.lemmas.Str.{is_utf8-from_IsUtf8, IsUtf8-from_is_utf8}
use Rattle.std.specs.Prelude.{if◌then◌else◌}
use Rattle.std.specs.Str.{IsUtf8, is_utf8}
use Rattle.serde_json.specs.Read.{read}
use Rattle.treasury_requests.specs.Request.{request_of, spelled}
use Rattle.treasury_requests.specs.declared.request.Spelled.{Spelled}

pub spelled-utf8 : (bytes : List ℕ) → IsUtf8 bytes → spelled bytes ≡ option_and_then request_of (read bytes)
unfolding spelled
spelled-utf8 bytes text =
    ap (λ (t : Bool). let held : Option Spelled = (if t then option_and_then request_of (read bytes) else None) in held)
    (is_utf8-from_IsUtf8 bytes text)

spelled_if : (bytes : List ℕ) (t : Bool) → is_utf8 bytes ≡ t → (IsUtf8 bytes → ⊥)
    → (if t then option_and_then request_of (read bytes) else None) ≡ None
spelled_if bytes true e lacks = absurd (lacks (IsUtf8-from_is_utf8 bytes e))
spelled_if bytes false e lacks = refl

pub spelled-no_utf8 : (bytes : List ℕ) → (IsUtf8 bytes → ⊥) → spelled bytes ≡ None
unfolding spelled
spelled-no_utf8 bytes lacks = spelled_if bytes (is_utf8 bytes) refl lacks
