-- Mirrors code: how a call is answered, part by part.
use Rattle.std.specs.Prelude.{◌≡◌, ◌<◌, ◌-◌, ◌⊎◌, ⊤, ℕ, true, List, [], ◌∷◌, ◌++◌, length, take, Option, Some, None}
use Rattle.std.specs.Prelude.{Err, IsTrue, codes, decimal, if◌then◌else◌, option_and_then}
use Rattle.std.specs.Str.{is_utf8}
use Rattle.treasury_messages.specs.Sentence.{sentence_said}
use Rattle.treasury_messages.specs.Printed.{IsFirstTextOf}
use Rattle.treasury_messages.specs.Unasked.{IsToldUnasked}
use Rattle.money_core.specs.declared.style.Style.{Style}
use Rattle.money_core.specs.declared.cause.Cause.{Cause}
use Rattle.money_core.specs.declared.cause.Cause.TheVariants.{OutOfMemory, Request as NoRequest}
use Rattle.book_core.specs.declared.refusal.Refusal.{Refusal}
use Rattle.book_core.specs.declared.refusal.Refusal.TheVariants.{Plain}
use Rattle.sqlite.specs.Store.{Ghosts}
use Rattle.treasury_state.specs.Federation.{Federation}
use Rattle.treasury_tables.specs.Kept.{ShutsByFault}
use Rattle.treasury_store.specs.Treasury.{Treasury}
use Rattle.treasury_requests.specs.declared.request.Spelled.{Spelled}
use Rattle.treasury_requests.specs.Request.{HasDayNumbers}
use Rattle.treasury_api.specs.Answer.{answer_text}
use Rattle.treasury_api.specs.declared.web.status.Status.{Status}
use Rattle.treasury_api.specs.declared.web.status.Status.TheVariants.{Done, BadRequest, Forbidden, NotFound, Conflict}
use Rattle.treasury_api.specs.declared.web.status.Status.TheVariants.{Unprocessable, Internal, Unavailable}
use Rattle.treasury_api.specs.WebReply.{cause_of}
use Rattle.treasury_api.specs.Left.{LeavesRequest}
use Rattle.treasury_api.specs.JsonReply.{done_json, refused_json}
use Rattle.treasury_api.specs.Beside.{IsJsonTold}
use Rattle.treasury_api.specs.Asked.{entries_asked}
use Rattle.treasury_api.specs.Web.{asked_by, IsRefusal44, IsNoAnswer, IsOpenButFailed}
use Rattle.treasury_api.specs.BranchCommand.{is_command_of}
use Rattle.http_request.specs.declared.call.Call.{Call}
use Rattle.http_request.specs.declared.call.Form.{Form}
use Rattle.treasury_api.specs.declared.web.answering.Sought.{Sought}
use Rattle.treasury_api.specs.declared.web.answering.Sought.TheVariants as sought

-- What a request leaves that is replied to with a status: the rows of the state before it, or of the one after it. A
-- database that was open is open, or the reply is 503; only a fault of the disk shuts it, and after a call of the
-- database that failed nothing changes.
pub record LeavesReplied {S : Type 0} (g : Ghosts S) (old : Treasury S) (request : Spelled) (status : ℕ)
    (new : Treasury S) : Type 0 where
  pub left : LeavesRequest g old new request
  pub open_but : IsOpenButFailed g old status new
  pub shuts : ShutsByFault g old.store.conn new.store.conn
  pub closed : IsTrue old.store.failed → new ≡ old

-- the code of a status
abbrev pub code_of : Status → ℕ
code_of Done = 200
code_of BadRequest = 400
code_of Forbidden = 403
code_of NotFound = 404
code_of Conflict = 409
code_of Unprocessable = 422
code_of Internal = 500
code_of Unavailable = 503

-- nothing is asked for, and that is told by 44, in whatever form
abbrev pub IsUnsought : Call → Type 0
IsUnsought call =
    (asked_by call ≡ None)
    × ((form : Form) (body : List ℕ) → IsRefusal44 form body → IsNoAnswer form call 400 body)

-- nothing is asked for, and that is told by this status and text, in whatever form
abbrev pub IsToldByStatus : Call → ℕ → List ℕ → Type 0
IsToldByStatus call status body = (asked_by call ≡ None) × ((form : Form) → IsNoAnswer form call status body)

-- what a call asks: its request, or nothing, and then how that is told
abbrev pub IsSought : Call → Sought → Type 0
IsSought call (sought.Request request) = asked_by call ≡ Some request
IsSought call sought.Forbidden = IsToldByStatus call 403 (codes "forbidden\n")
IsSought call sought.Nowhere = IsToldByStatus call 404 (codes "not found\n")
IsSought call (sought.Misspelled body) = IsUnsought call
IsSought call sought.NoRequest = IsUnsought call

-- the request, where it may be asked for by the route of that branch
abbrev pub sought_of : Option (List ℕ) → Spelled → Sought
sought_of None request = sought.Request request
sought_of (Some branch) request =
    if is_command_of branch request.request then sought.Request request else sought.Forbidden

-- the days of its request, if there is one
abbrev pub SeeksDays : Sought → Type 0
SeeksDays (sought.Request spelled) = HasDayNumbers spelled.request
SeeksDays _ = ⊤

-- the line of a refusal, or that of 40 in place of one that is not plain; and whose it is
abbrev pub IsLineBy : List Style → Refusal → Cause → List ℕ → Type 0
IsLineBy styles (Plain because) cause text = (text ≡ answer_text [] (Err (Plain because))) × (cause ≡ because)
IsLineBy styles refusal cause text =
    ((text ≡ answer_text [] (Err (Plain OutOfMemory))) × (cause ≡ OutOfMemory))
    ⊎ ((text ≡ answer_text styles (Err refusal)) × (cause ≡ cause_of refusal))

-- the same on a treasury: under the commodities of the state in memory
abbrev pub IsToldBy : {S : Type 0} → Treasury S → Refusal → Cause → List ℕ → Type 0
IsToldBy t (Plain because) cause text = (text ≡ answer_text [] (Err (Plain because))) × (cause ≡ because)
IsToldBy t refusal cause text = (s : Federation) × ((t.held ≡ Some s) × IsLineBy s.styles refusal cause text)

-- how many entries the branch has that a dry run is on, as far as the state is in memory
abbrev pub entries_told : Option Federation → Spelled → Option ℕ
entries_told held request =
    if request.terms.is_dry_run then option_and_then (λ f. entries_asked f request.request) held else None

-- something in UTF-8 is noted, or told
abbrev pub IsJsonDone : List ℕ → Option ℕ → List ℕ → Type 0
IsJsonDone line entries body = (noted : List ℕ) × (is_utf8 noted ≡ true) × (body ≡ done_json line noted entries)

-- the object of a refusal, with something in UTF-8 told
abbrev pub IsJsonRefused : List ℕ → Cause → Option ℕ → List ℕ → Type 0
IsJsonRefused line cause entries body =
    (told : List ℕ) × (is_utf8 told ≡ true) × (body ≡ refused_json line cause told entries)

-- what is told of a call that is no request: of a body, which fault it has first; of a call without one, the sentence
abbrev pub IsToldOfBody : Option (List ℕ) → List ℕ → Type 0
IsToldOfBody None told = IsFirstTextOf (sentence_said NoRequest ∷ []) told
IsToldOfBody (Some bytes) told = IsToldUnasked bytes told

-- the object of 44, in which that is told, or nothing
abbrev pub IsUnaskedJson : Option (List ℕ) → List ℕ → Type 0
IsUnaskedJson bytes body =
    (told : List ℕ) × IsToldOfBody bytes told × IsJsonTold (codes "refused 44 Request") NoRequest told None body

-- the object of a refusal of that text, or that of 40 in place of one whose text is longer than a plain one; and whose
-- it is
abbrev pub IsJsonRefusal : List ℕ → Cause → Option ℕ → Cause → List ℕ → Type 0
IsJsonRefusal text because entries cause body =
    (IsJsonRefused (take (length text - 1) text) because entries body × (cause ≡ because))
    ⊎ ((64 < length text) × IsJsonRefused (codes "refused 40 OutOfMemory") OutOfMemory None body
    × (cause ≡ OutOfMemory))

-- the same with what is told: that, or nothing; nothing of 40 in its place
abbrev pub IsJsonToldOf : List ℕ → Cause → List ℕ → Option ℕ → Cause → List ℕ → Type 0
IsJsonToldOf text because told entries cause body =
    (IsJsonTold (take (length text - 1) text) because told entries body × (cause ≡ because))
    ⊎ ((64 < length text) × IsJsonTold (codes "refused 40 OutOfMemory") OutOfMemory [] None body
    × (cause ≡ OutOfMemory))
