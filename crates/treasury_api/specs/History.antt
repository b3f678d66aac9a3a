-- What a run did, told from what was asked and replied: its commands are a run of the machine of commands, and refusals
-- and repeats leave the state (own rules; docs/RULES.md, "Books", "Orders").
use Rattle.std.specs.Prelude.{◌≡◌, ◌⊎◌, ⊤, ℕ, if◌then◌else◌, Result, Ok, Err, List, [], ◌∷◌, ◌++◌, map, codes}
use Rattle.book_core.specs.declared.refusal.Refusal.{Refusal}
use Rattle.treasury_state.specs.Federation.{Federation}
use Rattle.treasury_core.specs.declared.command.Answer.{Answer}
use Rattle.treasury_core.specs.Run.{Turn as CommandTurn, IsRun as IsCommandRun, state_after}
use Rattle.treasury_laws.specs.Headline.{KeepsBooks}
use Rattle.treasury_laws.specs.History.{IsRefusedOrRepeated}
use Rattle.treasury_store.specs.Treasury.{is_failure}
use Rattle.treasury_api.specs.declared.asking.Asked.{Asked}
use Rattle.treasury_api.specs.declared.asking.Asked.TheVariants.{Command, DryRun, Report}
use Rattle.treasury_api.specs.Asked.{Asks}
use Rattle.treasury_api.specs.Step.{Standing, Answers, next, reply_text, RepliesToLine}
use Rattle.treasury_api.specs.Transcript.{requests_in}

-- a request: its line, what it asks, and what was replied
pub record LineTurn : Type 0 where
  pub line : List ℕ
  pub asked : Result Asked Refusal
  pub reply : Result Answer Refusal

-- the turn of a line that is answered so
abbrev pub turn_of : {s : Standing} {line answer : List ℕ} {t : Standing} → Answers s line answer t → LineTurn
turn_of {line = line} a = record { line = line; asked = a.asked; reply = a.reply }

-- where a run stands after a turn
abbrev pub after_line_turn : Standing → LineTurn → Standing
after_line_turn s t = next s t.asked t.reply

-- the turns follow one another: each asks what its line does, and is replied as the step says, by 40, or by 41
abbrev pub AreTurns : Standing → List LineTurn → Type 0
AreTurns s [] = ⊤
AreTurns s (t ∷ ts) =
    Asks s.failed s.now t.line t.asked × RepliesToLine s t.line t.asked t.reply
    × AreTurns (after_line_turn s t) ts

-- where a run stands at their end
abbrev pub standing_after : Standing → List LineTurn → Standing
standing_after s [] = s
standing_after s (t ∷ ts) = standing_after (after_line_turn s t) ts

-- the texts of their replies, one after the other
abbrev pub texts_of : Standing → List LineTurn → List ℕ
texts_of s [] = []
texts_of s (t ∷ ts) = reply_text s.now t.asked t.reply ++ texts_of (after_line_turn s t) ts

-- the turns of a transcript: the input's requests, and the output that answers them
pub record IsRunOfLines (start : Standing) (input output : List ℕ) (end : Standing) (turns : List LineTurn) : Type 0
  where
    pub requests : map (λ (t : LineTurn). t.line) turns ≡ requests_in input
    pub follow : AreTurns start turns
    pub written : output ≡ texts_of start turns
    pub left : end ≡ standing_after start turns

-- the command that is asked for, with its reply; none where it is answered 41, or where a dry run or a report is asked
-- for, or nothing
abbrev pub command_if : Result Asked Refusal → Result Answer Refusal → List CommandTurn
command_if (Ok (Command c)) r = if is_failure r then [] else record { command = c; reply = r } ∷ []
command_if (Ok (DryRun c)) r = []
command_if (Ok (Report report)) r = []
command_if (Err refusal) r = []

-- the commands of turns with their replies, in order
abbrev pub commands_of : List LineTurn → List CommandTurn
commands_of [] = []
commands_of (t ∷ ts) = command_if t.asked t.reply ++ commands_of ts

-- Commands keep the books up to a state: they are a run of the machine of commands, which leads there, and of which the
-- headline holds.
abbrev pub KeepBooksTo : Federation → List CommandTurn → Federation → Type 0
KeepBooksTo f turns end = IsCommandRun f turns × (end ≡ state_after f turns) × KeepsBooks f turns

-- each turn whose reply is a refusal or `repeated` leaves the state
abbrev pub RefusalsLeaveStanding : Standing → List LineTurn → Type 0
RefusalsLeaveStanding s [] = ⊤
RefusalsLeaveStanding s (t ∷ ts) =
    (IsRefusedOrRepeated t.reply → (after_line_turn s t).now ≡ s.now) × RefusalsLeaveStanding (after_line_turn s t) ts

-- the line of a refusal, or of `repeated`
abbrev pub IsRefusalOrRepeat : List ℕ → Type 0
IsRefusalOrRepeat text = ((rest : List ℕ) × (text ≡ codes "refused " ++ rest)) ⊎ (text ≡ codes "repeated\n")

-- each turn whose text is the line of a refusal, or of `repeated`, leaves the state
abbrev pub RefusedLinesLeave : Standing → List LineTurn → Type 0
RefusedLinesLeave s [] = ⊤
RefusedLinesLeave s (t ∷ ts) =
    (IsRefusalOrRepeat (reply_text s.now t.asked t.reply) → (after_line_turn s t).now ≡ s.now)
    × RefusedLinesLeave (after_line_turn s t) ts
