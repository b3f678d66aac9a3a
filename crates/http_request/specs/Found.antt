-- Mirrors code: what is found where a head is read.
use Rattle.std.specs.Prelude.{◌≡◌, ◌≤◌, ◌<◌, ◌⊎◌, ℕ, List, [], ◌∷◌, length, Option}
use Rattle.std.specs.Io.KnownBytes.{Consumes}
use Rattle.httparse.specs.Grammar.{RequestHead, HasNoRequest, MayBecomeRequest}
use Rattle.httparse.specs.Spans.{IsRequestAt, IsRequestWithin}
use Rattle.httparse.specs.declared.spans.HeaderSpan.{HeaderSpan}
use Rattle.httparse.specs.declared.spans.RequestSpans.{RequestSpans}
use Rattle.http_request.specs.Head.{IsHead, NeverHead, CanEnd}
use Rattle.http_request.specs.Call.{StopsAtHead}
use Rattle.http_request.specs.Spaces.{spaces}
use Rattle.http_request.specs.declared.fields.Values.{Values}
use Rattle.http_request.specs.declared.fields.Values.TheVariants as found

-- what was read is a head and perhaps more, and the spans are the head's
pub record HasHead (r0 r1 : Option (List ℕ)) (text : List ℕ) (headers : List HeaderSpan)
    (spans : RequestSpans) : Type 0 where
  pub read : Consumes r0 r1 text
  pub bounded : length text ≤ 16_384
  pub head : RequestHead
  pub rest : List ℕ
  pub is_head : IsHead text head rest
  pub at : IsRequestAt text headers spans head
  pub within : IsRequestWithin text headers spans
  pub stops : StopsAtHead text

-- what was read begins no head
pub record IsBad (r0 r1 : Option (List ℕ)) (text : List ℕ) : Type 0 where
  pub read : Consumes r0 r1 text
  pub bounded : length text ≤ 16_384
  pub never : NeverHead text
  pub stops : StopsAtHead text

-- the input ended before its head did, which some bytes could still have ended; or inside its target, with one space so
-- far
pub record EndsEarly (r0 r1 : Option (List ℕ)) (text : List ℕ) : Type 0 where
  pub read : Consumes r0 r1 text
  pub bounded : length text ≤ 16_384
  pub none : HasNoRequest text
  pub may : CanEnd text ⊎ ((spaces text ≡ 1) × MayBecomeRequest text)

-- the values that a name has
abbrev pub AreValues : Values → List (List ℕ) → Type 0
AreValues found.None values = values ≡ []
AreValues (found.One value) values = values ≡ value.now ∷ []
AreValues found.More values = 1 < length values
