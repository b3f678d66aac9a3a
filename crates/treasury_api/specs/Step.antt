-- What is answered to a line, and where a run stands after it (own rules; docs/RULES.md, "Orders"): a command's step is
-- that of the machine of commands.
use Rattle.std.specs.Prelude.{◌≡◌, ◌⊎◌, ℕ, Bool, false, not, ◌||◌, if◌then◌else◌, List, [], ◌++◌, IsSome, Result}
use Rattle.std.specs.Prelude.{Ok, Err}
use Rattle.money_core.specs.declared.cause.Cause.TheVariants.{UnknownBranch, OutOfMemory, Store as Failed}
use Rattle.book_core.specs.declared.refusal.Refusal.{Refusal}
use Rattle.book_core.specs.declared.refusal.Refusal.TheVariants.{Plain}
use Rattle.treasury_state.specs.Federation.{Federation}
use Rattle.treasury_core.specs.declared.command.Answer.{Answer}
use Rattle.treasury_core.specs.declared.command.Answer.TheVariants.{Done}
use Rattle.treasury_core.specs.Step.{reply as command_reply, after as after_command}
use Rattle.treasury_store.specs.Store.{empty_state}
use Rattle.treasury_store.specs.Treasury.{is_failure}
use Rattle.treasury_api.specs.declared.asking.Asked.{Asked}
use Rattle.treasury_api.specs.declared.asking.Asked.TheVariants.{Command, DryRun, Report}
use Rattle.treasury_requests.specs.declared.request.Request.{Request}
use Rattle.treasury_requests.specs.Request.{spelled}
use Rattle.treasury_api.specs.Asked.{Asks}
use Rattle.treasury_api.specs.Answer.{answer_text}
use Rattle.treasury_api.specs.Report.{report_text, has_its_branch}

-- a report, whose branch has to be there
abbrev pub report_reply : Federation → Request → Result Answer Refusal
report_reply f report = if not (has_its_branch f report) then Err (Plain UnknownBranch) else Ok Done

-- the reply to what is asked; a dry run is replied to as its command is
abbrev pub reply_to : Federation → Result Asked Refusal → Result Answer Refusal
reply_to f (Ok (Command c)) = command_reply f c
reply_to f (Ok (DryRun c)) = command_reply f c
reply_to f (Ok (Report report)) = report_reply f report
reply_to f (Err refusal) = Err refusal

-- the state after the reply: only a command that is performed changes it
abbrev pub after_asked : Federation → Result Asked Refusal → Result Answer Refusal → Federation
after_asked f (Ok (Command c)) r = after_command f c r
after_asked f (Ok (DryRun c)) r = f
after_asked f (Ok (Report report)) r = f
after_asked f (Err refusal) r = f

-- the lines of the report that is asked for
abbrev pub report_lines : Federation → Result Asked Refusal → List ℕ
report_lines f (Ok (Command c)) = []
report_lines f (Ok (DryRun c)) = []
report_lines f (Ok (Report report)) = report_text f report
report_lines f (Err refusal) = []

-- the text of a reply: the lines of a report where it is no refusal, then the line of the reply
abbrev pub reply_text : Federation → Result Asked Refusal → Result Answer Refusal → List ℕ
reply_text f asked (Ok answer) = report_lines f asked ++ answer_text f.styles (Ok answer)
reply_text f asked (Err refusal) = answer_text f.styles (Err refusal)

-- where a run stands: the state that the tables hold, and whether a call of the database has failed
pub record Standing : Type 0 where
  pub now : Federation
  pub failed : Bool

-- the same before the first line, over a federation that has nothing yet
abbrev pub at_first : Standing
at_first = record { now = empty_state; failed = false }

-- where a run stands after the reply: 41 closes the database for good
abbrev pub next : Standing → Result Asked Refusal → Result Answer Refusal → Standing
next s asked r = record { now = after_asked s.now asked r; failed = s.failed || is_failure r }

-- what may be replied: what the step says, 40, or 41 while no call of the database has failed
abbrev pub MayReplyAsked : Standing → Result Asked Refusal → Result Answer Refusal → Type 0
MayReplyAsked s asked r =
    (r ≡ reply_to s.now asked) ⊎ ((r ≡ Err (Plain OutOfMemory)) ⊎ ((s.failed ≡ false) × (r ≡ Err (Plain Failed))))

-- the same of a line: only a request is replied to by 41
abbrev pub RepliesToLine : Standing → List ℕ → Result Asked Refusal → Result Answer Refusal → Type 0
RepliesToLine s line asked r = MayReplyAsked s asked r × (r ≡ Err (Plain Failed) → IsSome (spelled line))

-- a line is answered with a text, and leads on: by what it asks, what is replied to that, and what the reply leaves
pub record Answers (s : Standing) (line answer : List ℕ) (t : Standing) : Type 0 where
  pub asked : Result Asked Refusal
  pub reply : Result Answer Refusal
  pub asks : Asks s.failed s.now line asked
  pub replies : RepliesToLine s line asked reply
  pub text : answer ≡ reply_text s.now asked reply
  pub left : t ≡ next s asked reply
