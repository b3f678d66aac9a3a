-- What a run did and what it left, from whichever state it began on (own rules; docs/RULES.md, "Books", "Runs").
use Rattle.std.specs.Prelude.{◌≡◌, ◌⊎◌, ℕ, List, [], ◌∷◌, ◌++◌, Option, Result, MatchResult}
use Rattle.sqlite.specs.Store.{Ghosts}
use Rattle.money_core.specs.declared.cause.Cause.{Cause}
use Rattle.money_core.specs.declared.cause.Cause.TheVariants.{OutOfMemory, ReadFault, WriteFault}
use Rattle.treasury_core.specs.Run.{IsRun as IsCommandRun, state_after}
use Rattle.treasury_laws.specs.Headline.{KeepsBooks}
use Rattle.treasury_state.specs.Federation.{Federation}
use Rattle.treasury_store.specs.Treasury.{Treasury, IsTreasuryOf}
use Rattle.treasury_api.specs.RunEnd.{most_input, Finished, EndsBy}
use Rattle.treasury_api.specs.Step.{Standing, Answers}
use Rattle.treasury_api.specs.History.{LineTurn, turn_of, IsRunOfLines, commands_of, RefusalsLeaveStanding}
use Rattle.treasury_api.specs.History.{RefusedLinesLeave}
use Rattle.treasury_api.specs.Replied.{standing, OfAnyState}
use Rattle.treasury_api.specs.Left.{LeavesRun}

-- All of the input is answered, at most 64 MiB of it: by turns, one for each request. Their commands are a run of the
-- machine of commands, which leads to the state at the end, and of which the headline holds. Each reply that is a
-- refusal or `repeated`, and each whose text is the line of one, left the state as it was.
pub record AnswersAll {R W : Type 0} (remaining : R → Option (List ℕ)) (r0 r1 : R)
    (contents : W → Option (List ℕ)) (w0 w1 : W) (start end : Standing) : Type 0 where
  pub turns : List LineTurn
  pub finished : Finished Answers most_input (remaining r0) (remaining r1) (contents w0) (contents w1) start end
  pub run : IsRunOfLines start finished.seen finished.written end turns
  pub commands : IsCommandRun start.now (commands_of turns)
  pub left : end.now ≡ state_after start.now (commands_of turns)
  pub headline : KeepsBooks start.now (commands_of turns)
  pub refusals : RefusalsLeaveStanding start turns
  pub lines : RefusedLinesLeave start turns

-- The turns of a run that is cut off are those of the complete lines that were answered; where a write failed, also
-- that of the request after them, whose answer is torn.
abbrev pub AreTurnsOf : (cause : Cause) (r0 r1 w0 w1 : Option (List ℕ)) (start end : Standing)
    → EndsBy cause Answers most_input r0 r1 w0 w1 start end → List LineTurn → Type 0
AreTurnsOf OutOfMemory r0 r1 w0 w1 start end ends turns =
    IsRunOfLines start ends.stops.whole ends.stops.written end turns
AreTurnsOf ReadFault r0 r1 w0 w1 start end ends turns =
    IsRunOfLines start ends.answered.whole ends.answered.written end turns
AreTurnsOf WriteFault r0 r1 w0 w1 start end ends turns =
    (front : List LineTurn) × IsRunOfLines start ends.stops.whole ends.stops.written ends.stops.mid front
    × (turns ≡ front ++ turn_of ends.stops.last ∷ [])
AreTurnsOf _ r0 r1 w0 w1 start end ends turns = ⊥

-- A run is cut off by this cause: memory, its input or its output. It ends by turns too, those of what was answered,
-- and of their commands the headline holds.
pub record IsCutOffBy {R W : Type 0} (cause : Cause) (remaining : R → Option (List ℕ)) (r0 r1 : R)
    (contents : W → Option (List ℕ)) (w0 w1 : W) (start end : Standing) : Type 0 where
  pub ends : EndsBy cause Answers most_input (remaining r0) (remaining r1) (contents w0) (contents w1) start end
  pub turns : List LineTurn
  pub run : AreTurnsOf cause (remaining r0) (remaining r1) (contents w0) (contents w1) start end ends turns
  pub commands : IsCommandRun start.now (commands_of turns)
  pub left : end.now ≡ state_after start.now (commands_of turns)
  pub headline : KeepsBooks start.now (commands_of turns)
  pub refusals : RefusalsLeaveStanding start turns

-- A run on a treasury of a state, by its result: all is answered, or it is cut off; and it leaves of the tables what
-- its turns say.
abbrev pub Runs : {T S R W : Type 0} → Ghosts S → Treasury S → Treasury S → Result T Cause → (R → Option (List ℕ)) → R
    → R
    → (W → Option (List ℕ)) → W → W → Standing → Standing → Type 0
Runs g old new result remaining r0 r1 contents w0 w1 start end = MatchResult result
    (λ _. (run : AnswersAll remaining r0 r1 contents w0 w1 start end) × LeavesRun g old new start run.turns end)
    (λ cause. (run : IsCutOffBy cause remaining r0 r1 contents w0 w1 start end)
    × LeavesRun g old new start run.turns end)

-- the same of whichever state the treasury is: the run leads to a state, of which the treasury then is
abbrev pub RunsOn : {T S R W : Type 0} → Ghosts S → Treasury S → Treasury S → Result T Cause → (R → Option (List ℕ))
    → R → R → (W → Option (List ℕ)) → W → W → Type 0
RunsOn g old new result remaining r0 r1 contents w0 w1 =
    OfAnyState g old new (λ f. (end : Federation) × (IsTreasuryOf g new end
    × Runs g old new result remaining r0 r1 contents w0 w1 (standing old f) (standing new end)))

-- what cuts off a run: memory, its input or its output
abbrev pub CutsOff : Cause → Type 0
CutsOff cause = (cause ≡ OutOfMemory) ⊎ ((cause ≡ ReadFault) ⊎ (cause ≡ WriteFault))
