-- HTTP over a treasury: what a call asks, what it is answered, and how a connection ends (own rules; docs/FORMATS.md,
-- "HTTP"). What the bytes of a connection call for, `http_request` says.
use mathlib.Core.Logic.{inl, inr}
use Rattle.std.specs.Prelude.{◌≡◌, ◌<◌, ◌⊎◌, ℕ, true, false, List, [], ◌∷◌, ◌++◌, take, length, Option, Some, None}
use Rattle.std.specs.Prelude.{Result, Ok, Err, MatchOption, MatchResult, IsTrue, codes, ⊤, if◌then◌else◌}
use Rattle.std.specs.List.{AllByRecursion}
use Rattle.std.specs.Io.KnownBytes.{Appends}
use Rattle.sqlite.specs.Store.{Ghosts}
use Rattle.sqlite.specs.Held.{state}
use Rattle.http_request.specs.declared.call.Call.{Call}
use Rattle.http_request.specs.declared.call.Call.TheVariants.{Unreadable, Foreign, Nowhere, Command, Report}
use Rattle.http_request.specs.declared.call.Form.{Form}
use Rattle.http_request.specs.declared.call.Form.TheVariants as form
use Rattle.http_request.specs.declared.call.Received.{Received}
use Rattle.http_request.specs.Call.{ReadsCall, IsStopped}
use Rattle.money_core.specs.declared.cause.Cause.{Cause}
use Rattle.money_core.specs.declared.cause.Cause.TheVariants.{OutOfMemory, ReadFault, WriteFault, Request as NoRequest}
use Rattle.money_core.specs.declared.cause.Cause.TheVariants.{Store as Failed}
use Rattle.book_core.specs.declared.refusal.Refusal.{Refusal}
use Rattle.book_core.specs.declared.refusal.Refusal.TheVariants.{Plain}
use Rattle.treasury_state.specs.Federation.{Federation}
use Rattle.treasury_core.specs.declared.command.Answer.{Answer}
use Rattle.treasury_core.specs.Run.{Turn}
use Rattle.treasury_tables.specs.Kept.{ShutsByFault, IsFaithful}
use Rattle.treasury_store.specs.Treasury.{Treasury, IsTreasuryOf}
use Rattle.treasury_requests.specs.declared.request.Spelled.{Spelled}
use Rattle.treasury_requests.specs.declared.request.Request.{Request}
use Rattle.treasury_requests.specs.Request.{request_by, is_report, spelled, in_earnest}
use Rattle.treasury_requests.specs.Given.{text_given}
use Rattle.treasury_api.specs.declared.asking.Asked.{Asked}
use Rattle.treasury_api.specs.Asked.{entries_asked}
use Rattle.treasury_api.specs.declared.asking.Asked.TheVariants as meant
use Rattle.treasury_api.specs.Report.{report_json}
use Rattle.treasury_api.specs.Answer.{answer_text}
use Rattle.treasury_api.specs.Step.{Standing}
use Rattle.treasury_api.specs.Left.{LeavesAsked, LeavesRequest}
use Rattle.treasury_api.specs.Replied.{standing, OfAnyState}
use Rattle.treasury_api.specs.OneRequest.{AnswersAs, request_text, command_of}
use Rattle.treasury_api.specs.WebReply.{status_of, form_of_reply, whole_reply}
use Rattle.treasury_api.specs.JsonReply.{IsJsonOf}
use Rattle.treasury_api.specs.BranchCommand.{is_command_of, IsCommandOf}

-- the request; but none where only commands of a branch are called for, and it is none of them
abbrev pub only_of : Option (List ℕ) → Option Spelled → Option Spelled
only_of None request = request
only_of (Some branch) None = None
only_of (Some branch) (Some request) = if is_command_of branch request.request then Some request else None

-- the request, if it is for a report
abbrev pub report_only : Option Request → Option Spelled
report_only None = None
report_only (Some request) = if is_report request then Some (in_earnest request) else None

-- the request that is called for; none where nothing is, as by a date that is none
abbrev pub asked_by : Call → Option Spelled
asked_by Unreadable = None
asked_by Foreign = None
asked_by Nowhere = None
asked_by (Command branch body) = only_of branch (spelled body)
asked_by (Report w given) = report_only (request_by w (text_given given))

-- 403, as it is replied to what is foreign, or is a request but no command of the branch
abbrev pub IsForbidden : ℕ → List ℕ → Type 0
IsForbidden status body = (status ≡ 403) × (body ≡ codes "forbidden\n")

-- the line of 44, or its object
abbrev pub IsRefusal44 : Form → List ℕ → Type 0
IsRefusal44 form.Text body = body ≡ answer_text [] (Err (Plain NoRequest))
IsRefusal44 form.Json body = IsJsonOf None [] (Err (Plain NoRequest)) body

-- 44, as it is replied to what is no request
abbrev pub IsNoRequest : Form → ℕ → List ℕ → Type 0
IsNoRequest form status body = (status ≡ 400) × IsRefusal44 form body

-- the reply to a call that asks nothing: 403 where it is foreign, or a request that is no command of its branch; 404
-- where it has no route; else 44
abbrev pub IsNoAnswer : Form → Call → ℕ → List ℕ → Type 0
IsNoAnswer form Foreign status body = IsForbidden status body
IsNoAnswer form Nowhere status body = (status ≡ 404) × (body ≡ codes "not found\n")
IsNoAnswer form (Command branch text) status body =
    MatchOption (spelled text) (IsNoRequest form status body) (λ request. IsForbidden status body)
IsNoAnswer form call status body = IsNoRequest form status body

-- of how many entries it is told: of none, or in a dry run of those that its branch has
abbrev pub TellsEntries : Federation → Spelled → Option ℕ → Type 0
TellsEntries f request entries =
    (entries ≡ None) ⊎ ((request.terms.is_dry_run ≡ true) × (entries ≡ entries_asked f request.request))

-- the object of the reply to a request
abbrev pub IsJsonTo : Spelled → Federation → Result Answer Refusal → List ℕ → Type 0
IsJsonTo request f reply body =
    (entries : Option ℕ) × (TellsEntries f request entries × IsJsonOf entries f.styles reply body)

-- the body of a reply in a form: its text; or the object of a report, or that of the reply
abbrev pub IsBodyIn : Form → List ℕ → Spelled → Federation → Result Asked Refusal → Result Answer Refusal → Type 0
IsBodyIn form.Text body request f asked reply = body ≡ request_text f asked reply
IsBodyIn form.Json body request f (Ok (meant.Report report)) (Ok answer) = body ≡ report_json f report
IsBodyIn form.Json body request f (Ok (meant.Report report)) (Err refusal) = IsJsonTo request f (Err refusal) body
IsBodyIn form.Json body request f (Ok (meant.Command c)) reply = IsJsonTo request f reply body
IsBodyIn form.Json body request f (Ok (meant.DryRun c)) reply = IsJsonTo request f reply body
IsBodyIn form.Json body request f (Err refused) reply = IsJsonTo request f reply body

-- A call is answered in a form, and leads on: its request as any is, by a reply that gives the status.
abbrev pub AnswersCall : Standing → Form → Call → ℕ → List ℕ → Standing → Type 0
AnswersCall s form call status body t =
    ((asked_by call ≡ None) × IsNoAnswer form call status body × (t ≡ s))
    ⊎ ((request : Spelled) × (asked_by call ≡ Some request)
    × ((reply : Result Answer Refusal)
    × (AnswersAs s request (IsBodyIn form body request s.now) reply t × (status ≡ status_of reply))))

-- a database that was open is open after each reply, or the reply is 503 and the store has failed
abbrev pub IsOpenButFailed : {S : Type 0} → Ghosts S → Treasury S → ℕ → Treasury S → Type 0
IsOpenButFailed g old status new =
    IsFaithful g new.store.conn → IsTrue (state g old.store.conn).is_open
    → IsTrue (state g new.store.conn).is_open ⊎ ((status ≡ 503) × IsTrue new.store.failed)

-- What a call makes of a treasury: of whichever state it is, while the disk returns what was written, the call is
-- answered, and the treasury is of the state where that leads. Whatever is left, also after 41, are the rows of the
-- state before its request, or of the one after it; a call that asks nothing changes nothing. Only a fault of the disk
-- shuts the database, and after a call of the database that failed nothing changes.
pub record AnswersOn {S : Type 0} (g : Ghosts S) (old : Treasury S) (form : Form) (call : Call) (status : ℕ)
    (body : List ℕ) (new : Treasury S) : Type 0 where
  pub clean : IsFaithful g new.store.conn → IsFaithful g old.store.conn
  pub answers : OfAnyState g old new (λ f. (end : Federation) × (IsTreasuryOf g new end
      × AnswersCall (standing old f) form call status body (standing new end)))
  pub left : MatchOption (asked_by call) (new ≡ old) (LeavesRequest g old new)
  pub open_but : IsOpenButFailed g old status new
  pub shuts : ShutsByFault g old.store.conn new.store.conn
  pub closed : IsTrue old.store.failed → new ≡ old

-- what a reader gave calls for something, and that is answered, in the form that it asks for
pub record AnswersRead {S : Type 0} (g : Ghosts S) (r0 r1 : Option (List ℕ)) (old : Treasury S) (form : Form)
    (status : ℕ) (body : List ℕ) (new : Treasury S) : Type 0 where
  pub received : Received
  pub reads : ReadsCall r0 r1 received
  pub answers : AnswersOn g old received.form received.call status body new
  pub form_is : form ≡ form_of_reply received.form status

-- `Ok`: the whole reply is written
pub record IsServed {S : Type 0} (g : Ghosts S) (r0 r1 w0 w1 : Option (List ℕ)) (old new : Treasury S) : Type 0 where
  pub form : Form
  pub status : ℕ
  pub body : List ℕ
  pub answered : AnswersRead g r0 r1 old form status body new
  pub written : Appends w0 w1 (whole_reply form status body)

-- 46: a first part of the reply is written, and not all of it; what was asked stands
pub record IsTorn {S : Type 0} (g : Ghosts S) (r0 r1 w0 w1 : Option (List ℕ)) (old new : Treasury S) : Type 0 where
  pub form : Form
  pub status : ℕ
  pub body : List ℕ
  pub taken : ℕ
  pub part : taken < length (whole_reply form status body)
  pub answered : AnswersRead g r0 r1 old form status body new
  pub written : Appends w0 w1 (take taken (whole_reply form status body))

-- how a connection ends that is refused by this cause: by 40 and 45 nothing is written, and nothing has changed
abbrev pub FailsCallBy : {S W : Type 0} → Cause → Ghosts S → Option (List ℕ) → Option (List ℕ) → (W → Option (List ℕ))
    → W → W → Treasury S → Treasury S → Type 0
FailsCallBy OutOfMemory g r0 r1 contents w0 w1 old new = (w1 ≡ w0) × (new ≡ old)
FailsCallBy ReadFault g r0 r1 contents w0 w1 old new = IsStopped r0 r1 × (w1 ≡ w0) × (new ≡ old)
FailsCallBy WriteFault g r0 r1 contents w0 w1 old new = IsTorn g r0 r1 (contents w0) (contents w1) old new
FailsCallBy _ g r0 r1 contents w0 w1 old new = ⊥

-- how a connection ends, by its result; `remaining` and `contents` are what a reader has left and what a writer holds,
-- where they are known
abbrev pub ServesOne : {T S R W : Type 0} → Result T Cause → Ghosts S → (R → Option (List ℕ)) → R → R
    → (W → Option (List ℕ)) → W → W → Treasury S → Treasury S → Type 0
ServesOne result g remaining r0 r1 contents w0 w1 old new = MatchResult result
    (λ _. IsServed g (remaining r0) (remaining r1) (contents w0) (contents w1) old new)
    (λ cause. FailsCallBy cause g (remaining r0) (remaining r1) contents w0 w1 old new)

-- ---- connections one after another

-- a connection that was answered: what it called for, in which form, and the reply
pub record AnsweredCall : Type 0 where
  pub form : Form
  pub call : Call
  pub status : ℕ
  pub body : List ℕ

-- each is answered by the state that the one before it left; those that are not answered, by 40 or 45, change nothing
abbrev pub AreServed : Standing → List AnsweredCall → Standing → Type 0
AreServed s [] end = end ≡ s
AreServed s (c ∷ cs) end = (mid : Standing) × AnswersCall s c.form c.call c.status c.body mid × AreServed mid cs end

-- the commands among calls that are answered so, with their replies, in order
abbrev pub turns_of_calls : (s : Standing) (calls : List AnsweredCall) (end : Standing) → AreServed s calls end
    → List Turn
turns_of_calls s [] end served = []
turns_of_calls s (c ∷ cs) end (mid, inl nothing, rest) = turns_of_calls mid cs end rest
turns_of_calls s (c ∷ cs) end (mid, inr (request, asked, (reply, (answers, told))), rest) =
    command_of answers ++ turns_of_calls mid cs end rest

-- One of the calls that are answered so is answered 41, and this holds of the state before it and of what it asks.
abbrev pub OneFails : (Federation → Result Asked Refusal → Type 0) → (s : Standing) (calls : List AnsweredCall)
    (end : Standing) → AreServed s calls end → Type 0
OneFails Holds s [] end served = ⊥
OneFails Holds s (c ∷ cs) end (mid, inl nothing, rest) = OneFails Holds mid cs end rest
OneFails Holds s (c ∷ cs) end (mid, inr (request, asked, (reply, (answers, told))), rest) =
    ((reply ≡ Err (Plain Failed)) × Holds s.now answers.asked) ⊎ OneFails Holds mid cs end rest

-- What calls leave of an open treasury on which no call of the database has failed: it still is so; or it has failed at
-- one of them, and whatever is left are the rows of the state before that one, or of the one where what it asks leads.
abbrev pub LeavesCalls : {S : Type 0} → Ghosts S → Treasury S → Treasury S → (s : Standing) (calls : List AnsweredCall)
    (end : Standing) → AreServed s calls end → Type 0
LeavesCalls g old new s calls end served =
    IsTrue (state g old.store.conn).is_open → old.store.failed ≡ false
    → (IsTrue (state g new.store.conn).is_open × (new.store.failed ≡ false))
    ⊎ (IsTrue new.store.failed × OneFails (LeavesAsked g new.store.conn) s calls end served)

-- by this call no command is asked for, or only one of the branch of that name
abbrev pub CommandsOnly : List ℕ → Call → Type 0
CommandsOnly name (Command None body) = ⊥
CommandsOnly name (Command (Some branch) body) = branch ≡ name
CommandsOnly name call = ⊤

-- each of the turns is a command of that branch
abbrev pub AreCommandsOf : List ℕ → List Turn → Type 0
AreCommandsOf name turns = AllByRecursion (λ (turn : Turn). IsCommandOf name turn.command) turns

-- What connections make of a treasury, of which these calls were answered: of whichever state it was, while the disk
-- returned what was written, it is of the state where they lead, and they leave what they may. After a call of the
-- database that failed nothing changes.
pub record HasServed {S : Type 0} (g : Ghosts S) (old new : Treasury S) : Type 0 where
  pub calls : List AnsweredCall
  pub clean : IsFaithful g new.store.conn → IsFaithful g old.store.conn
  pub served : OfAnyState g old new (λ f. (end : Federation) × (IsTreasuryOf g new end
      × ((answered : AreServed (standing old f) calls (standing new end))
      × LeavesCalls g old new (standing old f) calls (standing new end) answered)))
  pub closed : IsTrue old.store.failed → new ≡ old
