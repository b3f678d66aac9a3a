-- Mirrors code: how a call is read, part by part.
use Rattle.std.specs.Prelude.{◌≡◌, ℕ, List, Option, Some, None}
use Rattle.http_request.specs.Body.{HasBody, LacksBody}
use Rattle.treasury_requests.specs.declared.words.Word.{Word}
use Rattle.treasury_requests.specs.declared.given.Given.{Given}
use Rattle.http_request.specs.declared.call.Call.{Call}
use Rattle.http_request.specs.declared.call.Call.TheVariants.{Unreadable, Command, Report}

-- what is called for of a report, by what is given
abbrev pub report_by : Word → Option (List Given) → Call
report_by w None = Unreadable
report_by w (Some given) = Report w given

-- what a body calls for of that size, if it has one, which these bytes begin
abbrev pub CallsBy : Option (List ℕ) → Option ℕ → Option (List ℕ) → Option (List ℕ) → List ℕ → Call → Type 0
CallsBy branch None r0 r1 begun call = (r1 ≡ r0) × (call ≡ Unreadable)
CallsBy branch (Some size) r0 r1 begun call =
    (body : List ℕ) × HasBody size r0 r1 begun body × (call ≡ Command branch body)

-- the input ended before the body did
abbrev pub LacksBytes : Option ℕ → Option (List ℕ) → Option (List ℕ) → List ℕ → Type 0
LacksBytes None r0 r1 begun = ⊥
LacksBytes (Some size) r0 r1 begun = LacksBody size r0 r1 begun
