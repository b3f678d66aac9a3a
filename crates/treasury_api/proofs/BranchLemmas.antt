-- What is asked for by the route of a branch is of that branch.
use Rattle.std.proofs.Common.{◌≡◌, ◌⊎◌, ◌∷◌, ℕ, ℤ, List, [], Bool, true, false, Option, Some, None, Result, Ok}
use Rattle.std.proofs.Common.{Err, if◌then◌else◌, refl, subst, inl, inr, option_map, MatchOption, ◌∙◌, ap, sym, codes}
use Rattle.std.specs.List.{AllByRecursion}
use Rattle.http_request.specs.declared.call.Call.{Call}
use Rattle.http_request.specs.declared.call.Form.{Form}
use Rattle.http_request.specs.declared.call.Call.TheVariants.{Unreadable, Foreign, Nowhere}
use Rattle.http_request.specs.declared.call.Call.TheVariants.{Command as CalledCommand, Report as CalledReport}
use Rattle.money_core.specs.declared.cause.Cause.{Cause}
use Rattle.money_core.specs.declared.day.Day.{Day}
use Rattle.money_core.specs.declared.style.Style.{Style}
use Rattle.money_core.specs.declared.unit.Unit.{Unit}
use Rattle.money_core.specs.Reading.{amount}
use Rattle.money_core.proofs.ListLemmas.{all-append}
use Rattle.money_core.proofs.BytesLemmas.{same_bytes}
use Rattle.book_core.specs.declared.refusal.Refusal.{Refusal}
use Rattle.treasury_core.specs.declared.command.Answer.{Answer}
use Rattle.treasury_core.specs.declared.command.Command.{Command as AnyCommand}
use Rattle.treasury_core.specs.Run.{Turn}
use Rattle.treasury_store.specs.Treasury.{is_failure}
use Rattle.treasury_requests.specs.declared.request.WrittenPart.{WrittenPart}
use Rattle.treasury_requests.specs.declared.request.Spelled.{Spelled}
use Rattle.treasury_requests.specs.declared.request.Request.{Request}
use Rattle.treasury_state.specs.Federation.{Federation}
use Rattle.treasury_requests.specs.declared.request.Request.TheVariants as asking
use Rattle.treasury_requests.specs.Request.{request_by, spelled, in_earnest, is_report, HasDayNumbers}
use Rattle.treasury_requests.specs.Given.{text_given}
use Rattle.treasury_api.specs.declared.asking.Asked.{Asked}
use Rattle.treasury_api.specs.declared.asking.Asked.TheVariants.{Command, DryRun, Report}
use Rattle.treasury_api.specs.declared.web.answering.Sought.TheVariants as sought
use Rattle.treasury_api.specs.Asked.{asked_by_amount, asked_by_part, asked_by_receipt, RequestAsks, AsksOf}
use Rattle.treasury_api.specs.Step.{Standing}
use Rattle.treasury_api.specs.History.{command_if}
use Rattle.treasury_api.specs.OneRequest.{AnswersAs, command_of}
use Rattle.treasury_api.specs.BranchCommand.{is_command_of, IsCommandOf}
use Rattle.treasury_api.specs.Web.{only_of, report_only, asked_by, IsBodyIn, AnsweredCall, AreServed, turns_of_calls}
use Rattle.treasury_api.specs.Web.{CommandsOnly, AreCommandsOf, IsNoRequest, IsForbidden}
use Rattle.treasury_api.specs.WebServing.{sought_of, IsSought, SeeksDays}
use Rattle.treasury_api.proofs.SpelledLemmas.{spelled_command}

-- ---- a body that is read

pub sought_days : (branch : Option (List ℕ)) (request : Spelled) → HasDayNumbers request.request
    → SeeksDays (sought_of branch request)
sought_days None request days = days
sought_days (Some name) request days = by_own (is_command_of name request.request)
  where
    by_own : (own : Bool) → SeeksDays (if own then sought.Request request else sought.Forbidden)
    by_own true = days
    by_own false = tt

-- what the request of a body is by a route, where the body spells it
pub sought_body : (branch : Option (List ℕ)) (body : List ℕ) (request : Spelled) → spelled body ≡ Some request
    → IsSought (CalledCommand branch body) (sought_of branch request)
sought_body None body request e = e
sought_body (Some name) body request e = by_own (is_command_of name request.request) refl
  where
    asked_if : (own : Bool) → is_command_of name request.request ≡ own
        → only_of (Some name) (spelled body) ≡ (if own then Some request else None)
    asked_if own is = ap (only_of (Some name)) e ∙ ap (λ (b : Bool). if b then Some request else None) is

    by_own : (own : Bool) → is_command_of name request.request ≡ own
        → IsSought (CalledCommand (Some name) body) (if own then sought.Request request else sought.Forbidden)
    by_own true is = asked_if true is
    by_own false is =
        let said = codes "forbidden\n" in
        let forbidden : IsForbidden 403 said = (refl, refl) in
        let told = λ (form : Form) (read : Option Spelled).
        MatchOption read (IsNoRequest form 403 said) (λ r. IsForbidden 403 said) in
        (asked_if false is, λ form. subst (told form) (sym e) forbidden)

-- ---- a command that is asked for

same_command : (c d : AnyCommand) → ◌≡◌ {A = Result Asked Refusal} (Ok (Command c)) (Ok (Command d)) → d ≡ c
same_command c d e = cc

amount_own : (name id from to account : List ℕ) (day : Day) (m : Result (Unit × ℤ) Cause) (c : AnyCommand)
    → from ≡ name → Ok (Command c) ≡ asked_by_amount id from to day account m → IsCommandOf name c
amount_own name id from to account day (Ok (unit, qty)) c own e = subst (IsCommandOf name) (same_command c _ e) own
amount_own name id from to account day (Err cause) c own e = absurd cc

part_own : (name id branch account key : List ℕ) (day : Day) (m : Result (Unit × ℤ) Cause) (c : AnyCommand)
    → branch ≡ name → Ok (Command c) ≡ asked_by_part id branch day account key m → IsCommandOf name c
part_own name id branch account key day (Ok (unit, qty)) c own e = subst (IsCommandOf name) (same_command c _ e) own
part_own name id branch account key day (Err cause) c own e = absurd cc

receipt_own : (styles : List Style) (name id branch account : List ℕ) (day : Day) (part : Option WrittenPart)
    (c : AnyCommand)
    → branch ≡ name → Ok (Command c) ≡ asked_by_receipt styles id branch day account part → IsCommandOf name c
receipt_own styles name id branch account day None c own e = subst (IsCommandOf name) (same_command c _ e) own
receipt_own styles name id branch account day (Some part) c own e =
    part_own name id branch account part.key day (amount styles part.amount) c own e

-- a request that is a command of the branch asks for one
request_own : (styles : List Style) (name : List ℕ) (request : Request) (c : AnyCommand)
    → is_command_of name request ≡ true → RequestAsks styles request (Ok (Command c)) → IsCommandOf name c
request_own styles name (asking.Branch other) c own asks = absurd cc
request_own styles name (asking.Commodity sample) c own asks = absurd cc
request_own styles name (asking.Import branch journal) c own (inl (list, (reads, e))) =
    subst (IsCommandOf name) (same_command c _ e) (same_bytes branch name own)
request_own styles name (asking.Import branch journal) c own (inr (fault, (first, e))) = absurd cc
request_own styles name (asking.Dispatch id from to day text account) c own asks =
    amount_own name id from to account day (amount styles text) c (same_bytes from name own) asks
request_own styles name (asking.Receive id branch day account part) c own asks =
    receipt_own styles name id branch account day part c (same_bytes branch name own) asks
request_own styles name (asking.Lock branch day) c own asks =
    subst (IsCommandOf name) (same_command c _ asks) (same_bytes branch name own)
request_own styles name (asking.Close branch day accounts into) c own asks =
    subst (IsCommandOf name) (same_command c _ asks) (same_bytes branch name own)
request_own styles name (asking.Balance branch day) c own asks = absurd cc
request_own styles name (asking.Register branch account tag from) c own asks = absurd cc
request_own styles name (asking.Transit day) c own asks = absurd cc
request_own styles name (asking.Journal branch) c own asks = absurd cc
request_own styles name asking.Branches c own asks = absurd cc
request_own styles name asking.Commodities c own asks = absurd cc
request_own styles name (asking.Accounts branch) c own asks = absurd cc
request_own styles name (asking.Transfers day) c own asks = absurd cc

-- a report asks for none
report_none : (styles : List Style) (request : Request) (c : AnyCommand) → is_report request ≡ true
    → RequestAsks styles request (Ok (Command c)) → ⊥
report_none styles (asking.Branch other) c report asks = absurd cc
report_none styles (asking.Commodity sample) c report asks = absurd cc
report_none styles (asking.Import branch journal) c report asks = absurd cc
report_none styles (asking.Dispatch id from to day text account) c report asks = absurd cc
report_none styles (asking.Receive id branch day account part) c report asks = absurd cc
report_none styles (asking.Lock branch day) c report asks = absurd cc
report_none styles (asking.Close branch day accounts into) c report asks = absurd cc
report_none styles (asking.Balance branch day) c report asks = absurd cc
report_none styles (asking.Register branch account tag from) c report asks = absurd cc
report_none styles (asking.Transit day) c report asks = absurd cc
report_none styles (asking.Journal branch) c report asks = absurd cc
report_none styles asking.Branches c report asks = absurd cc
report_none styles asking.Commodities c report asks = absurd cc
report_none styles (asking.Accounts branch) c report asks = absurd cc
report_none styles (asking.Transfers day) c report asks = absurd cc

-- the request is a command of the branch, or a report
abbrev MayAsk : List ℕ → Request → Type 0
MayAsk name request = (is_command_of name request ≡ true) ⊎ (is_report request ≡ true)

command_own : (styles : List Style) (name : List ℕ) (request : Request) (c : AnyCommand) → MayAsk name request
    → RequestAsks styles request (Ok (Command c)) → IsCommandOf name c
command_own styles name request c (inl own) asks = request_own styles name request c own asks
command_own styles name request c (inr report) asks = absurd (report_none styles request c report asks)

-- the command of such a request, if one is performed
one_own : (failure : Bool) (name : List ℕ) (turn : Turn) → IsCommandOf name turn.command
    → AreCommandsOf name (if failure then [] else turn ∷ [])
one_own true name turn own = tt
one_own false name turn own = (own, tt)

if_own : (failed : Bool) (f : Federation) (name : List ℕ) (request : Spelled) (asked : Result Asked Refusal)
    (reply : Result Answer Refusal)
    → MayAsk name request.request → AsksOf failed f request asked → AreCommandsOf name (command_if asked reply)
if_own false f name request (Ok (Command c)) reply may asks =
    one_own (is_failure reply) name (record { command = c; reply = reply })
    (command_own f.styles name request.request c may (spelled_command f request c asks))
if_own true f name request (Ok (Command c)) reply may asks = absurd cc
if_own failed f name request (Ok (DryRun c)) reply may asks = tt
if_own failed f name request (Ok (Report report)) reply may asks = tt
if_own failed f name request (Err refusal) reply may asks = tt

-- ---- a call

-- the request of a body, by the route of a branch
body_own : (branch : List ℕ) (read : Option Spelled) (request : Spelled) → only_of (Some branch) read ≡ Some request
    → is_command_of branch request.request ≡ true
body_own branch None request e = absurd cc
body_own branch (Some one) request e = by_own (is_command_of branch one.request) refl e
  where
    by_own : (own : Bool) → is_command_of branch one.request ≡ own → (if own then Some one else None) ≡ Some request
        → is_command_of branch request.request ≡ true
    by_own true own e =
        let same : one ≡ request = cc in
        subst (λ (r : Spelled). is_command_of branch r.request ≡ true) same own
    by_own false own e = absurd cc

-- the request of a report, and of one through a day
report_is : (report : Request) (request : Spelled) → is_report report ≡ true → Some (in_earnest report) ≡ Some request
    → is_report request.request ≡ true
report_is report request is e =
    let same : in_earnest report ≡ request = cc in
    subst (λ (r : Spelled). is_report r.request ≡ true) same is

report_own : (o : Option Request) (request : Spelled) → report_only o ≡ Some request
    → is_report request.request ≡ true
report_own None request e = absurd cc
report_own (Some report) request e = by_test (is_report report) refl e
  where
    by_test : (v : Bool) → is_report report ≡ v → (if v then Some (in_earnest report) else None) ≡ Some request
        → is_report request.request ≡ true
    by_test true is e = report_is report request is e
    by_test false is e = absurd cc

asked_own : (name : List ℕ) (call : Call) (request : Spelled) → CommandsOnly name call → asked_by call ≡ Some request
    → MayAsk name request.request
asked_own name Unreadable request only e = absurd cc
asked_own name Foreign request only e = absurd cc
asked_own name Nowhere request only e = absurd cc
asked_own name (CalledCommand None body) request only e = absurd only
asked_own name (CalledCommand (Some branch) body) request only e =
    inl (subst (λ (b : List ℕ). is_command_of b request.request ≡ true) only
    (body_own branch (spelled body) request e))
asked_own name (CalledReport w given) request only e = inr (report_own (request_by w (text_given given)) request e)

-- ---- calls one after another

turn_own : (name : List ℕ) (s : Standing) (request : Spelled)
    (Says : Result Asked Refusal → Result Answer Refusal → Type 0) (reply : Result Answer Refusal) (t : Standing)
    → MayAsk name request.request → (answers : AnswersAs s request Says reply t)
    → AreCommandsOf name (command_of answers)
turn_own name s request Says reply t may answers =
    if_own s.failed s.now name request answers.asked reply may answers.asks

pub calls_own : (name : List ℕ) (start : Standing) (calls : List AnsweredCall) (end : Standing)
    → AllByRecursion (λ (answered : AnsweredCall). CommandsOnly name answered.call) calls
    → (served : AreServed start calls end) → AreCommandsOf name (turns_of_calls start calls end served)
calls_own name start [] end only served = tt
calls_own name start (c ∷ cs) end (first, others) (mid, inl nothing, rest) = calls_own name mid cs end others rest
calls_own name start (c ∷ cs) end (first, others) (mid, inr (request, asked, (reply, (answers, told))), rest) =
    all-append (λ (turn : Turn). IsCommandOf name turn.command) _ _
    (turn_own name start request (IsBodyIn c.form c.body request start.now) reply mid
    (asked_own name c.call request first asked) answers)
    (calls_own name mid cs end others rest)
