-- What the bytes of a connection call for (own rule; docs/FORMATS.md, "HTTP").
use Rattle.std.specs.Prelude.{◌≡◌, ◌⊎◌, ◌≤◌, ◌<◌, ◌+◌, ⊤, ℕ, Bool, true, false, List, ◌++◌, length, take, map}
use Rattle.std.specs.Prelude.{Option, Some, None}
use Rattle.std.specs.Io.KnownBytes.{Consumes}
use Rattle.httparse.specs.Grammar.{RequestHead, HasNoRequest, MayBecomeRequest}
use Rattle.httparse.specs.Spans.{name_and_value}
use Rattle.http_request.specs.Head.{IsHead, NeverHead, CanEnd}
use Rattle.http_request.specs.Spaces.{spaces}
use Rattle.http_request.specs.Path.{path_of}
use Rattle.http_request.specs.Routes.{route_of}
use Rattle.http_request.specs.Query.{query_of, with_query}
use Rattle.http_request.specs.declared.routes.Route.{Route}
use Rattle.http_request.specs.declared.routes.Route.TheVariants as to
use Rattle.treasury_requests.specs.declared.words.Word.{Word}
use Rattle.treasury_requests.specs.declared.given.Given.{Given}
use Rattle.http_request.specs.Length.{body_length}
use Rattle.http_request.specs.Foreign.{is_foreign}
use Rattle.http_request.specs.Accept.{form_of}
use Rattle.http_request.specs.declared.call.Form.{Form}
use Rattle.http_request.specs.declared.call.Form.TheVariants as form
use Rattle.http_request.specs.declared.call.Received.{Received}
use Rattle.http_request.specs.declared.call.Call.{Call}
use Rattle.http_request.specs.declared.call.Call.TheVariants.{Unreadable, Foreign, Nowhere, Command, Report}

-- how long the body of a command is
abbrev pub body_length_of : RequestHead → Option ℕ
body_length_of head = body_length (map name_and_value head.fields)

-- it is foreign, by its fields
abbrev pub is_foreign_head : RequestHead → Bool
is_foreign_head head = is_foreign (map name_and_value head.fields)

-- the bytes begin with a head within the limits, which is not foreign and leads there
pub record Leads (seen : List ℕ) (head : RequestHead) (rest : List ℕ) (route : Option Route) : Type 0 where
  pub is_head : IsHead seen head rest
  pub own : is_foreign_head head ≡ false
  pub leads : route_of head.method (path_of head.target) ≡ route

-- what is given of a report, by its path and its query
abbrev pub given_at : RequestHead → Word → List Given → Option (List Given)
given_at head w path = with_query w path (query_of head.target)

-- What the bytes call for. Nothing where they begin no head, where the length of a command's body is not stated as it
-- has to be, or where the query for a report does not give what it has to. A head that is foreign calls for nothing
-- else, whatever it asks for. A command has its whole body, and what stands after it is not looked at.
abbrev pub Calls : List ℕ → Call → Type 0
Calls seen Unreadable =
    NeverHead seen
    ⊎ ((head : RequestHead) × (rest : List ℕ) × (branch : Option (List ℕ))
    × Leads seen head rest (Some (to.Commands branch)) × (body_length_of head ≡ None))
    ⊎ ((head : RequestHead) × (rest : List ℕ) × (w : Word) × (path : List Given)
    × Leads seen head rest (Some (to.Report w path)) × (given_at head w path ≡ None))
Calls seen Foreign = (head : RequestHead) × (rest : List ℕ) × IsHead seen head rest × (is_foreign_head head ≡ true)
Calls seen Nowhere = (head : RequestHead) × (rest : List ℕ) × Leads seen head rest None
Calls seen (Command branch body) =
    (head : RequestHead) × (rest : List ℕ) × (n : ℕ) × Leads seen head rest (Some (to.Commands branch))
    × (body_length_of head ≡ Some n)
    × (n ≤ length rest) × (body ≡ take n rest)
Calls seen (Report w given) =
    (head : RequestHead) × (rest : List ℕ) × (path : List Given) × Leads seen head rest (Some (to.Report w path))
    × (given_at head w path ≡ Some given)

-- the most bytes that are read of a connection: those of a head, and those of a body
abbrev pub most_read : ℕ
most_read = 16_384 + 8_388_608

-- The last of several parts ends the bytes, of at most 1,024 of them, and those before it have no head: so nothing was
-- read once there was a head.
pub record StopsAtHead (seen : List ℕ) : Type 0 where
  pub before : List ℕ
  pub last : List ℕ
  pub split : seen ≡ before ++ last
  pub none : HasNoRequest before
  pub short : length last ≤ 1_024

-- where no command is called for, nothing is read after the part that ends its head
abbrev pub StopsFor : List ℕ → Call → Type 0
StopsFor seen (Command branch body) = ⊤
StopsFor seen call = StopsAtHead seen

-- the form in which a reply is asked for: that of the head, or text where the bytes begin none
abbrev pub AsksIn : List ℕ → Form → Type 0
AsksIn seen asked =
    ((head : RequestHead) × (rest : List ℕ) × IsHead seen head rest
    × (asked ≡ form_of (map name_and_value head.fields)))
    ⊎ (NeverHead seen × (asked ≡ form.Text))

-- what was read calls for this, and asks for its reply in this form
pub record ReadsCall (r0 r1 : Option (List ℕ)) (received : Received) : Type 0 where
  pub seen : List ℕ
  pub read : Consumes r0 r1 seen
  pub bounded : length seen ≤ most_read
  pub calls : Calls seen received.call
  pub asks : AsksIn seen received.form
  pub stops : StopsFor seen received.call

-- The bytes are a first part of a request: of its head, which some bytes could still end within the limits (inside its
-- target that is not asked), or of its body.
abbrev pub IsCutOff : List ℕ → Type 0
IsCutOff seen =
    (HasNoRequest seen × (CanEnd seen ⊎ ((spaces seen ≡ 1) × MayBecomeRequest seen)))
    ⊎ ((head : RequestHead) × (rest : List ℕ) × (branch : Option (List ℕ)) × (n : ℕ)
    × Leads seen head rest (Some (to.Commands branch)) × (body_length_of head ≡ Some n) × (length rest < n))

-- a first part of a request was read
pub record IsStopped (r0 r1 : Option (List ℕ)) : Type 0 where
  pub seen : List ℕ
  pub read : Consumes r0 r1 seen
  pub bounded : length seen ≤ most_read
  pub cut : IsCutOff seen
