-- Values worked out by hand, so that a wrong definition of a reply or of a history does not check.
use Rattle.std.proofs.Common.{◌≡◌, refl, inl, inr, ℕ, true, List, [], ◌∷◌, Result, Ok, Err}
use Rattle.std.specs.Prelude.{codes}
use Rattle.money_core.specs.declared.day.Day.{Day}
use Rattle.money_core.specs.declared.cause.Cause.TheVariants.{UnknownBranch, Amount, Closed, Store as Failed}
use Rattle.book_core.specs.declared.refusal.Refusal.{Refusal}
use Rattle.book_core.specs.declared.refusal.Refusal.TheVariants.{Plain, Text, ClaimFailed}
use Rattle.treasury_state.specs.Federation.{Federation}
use Rattle.treasury_state.specs.Joined.{new_branch}
use Rattle.treasury_core.specs.declared.command.Answer.TheVariants.{Done, Repeated}
use Rattle.treasury_core.specs.declared.command.Command.TheVariants as cmd
use Rattle.treasury_core.specs.Step.{done}
use Rattle.treasury_store.specs.Store.{empty_state}
use Rattle.treasury_api.specs.declared.asking.Asked.{Asked}
use Rattle.treasury_api.specs.declared.asking.Asked.TheVariants.{Command, Report}
use Rattle.treasury_requests.specs.declared.request.Request.TheVariants.{Balance}
use Rattle.treasury_api.specs.Answer.{answer_text}
use Rattle.treasury_api.specs.Step.{at_first, reply_to, reply_text}
use Rattle.treasury_api.specs.History.{LineTurn, standing_after, commands_of, IsRefusalOrRepeat}

-- Of six turns the first makes a branch, and the others leave the state. Three of them are commands, of which the last
-- is answered 41: it is left out, and the run is failed, so that what comes after it is answered 42.
abbrev turns : Day → List LineTurn
turns day =
    record { line = codes "a"; asked = Ok (Command (cmd.Branch (codes "north"))); reply = Ok Done }
    ∷ record { line = codes "b"; asked = Err (Plain Amount); reply = Err (Plain Amount) }
    ∷ record { line = codes "c"; asked = Ok (Report (Balance (codes "north") day)); reply = Ok Done }
    ∷ record {
      line = codes "d";
      asked = Ok (Command (cmd.Lock (codes "south") day));
      reply = Err (Plain UnknownBranch);
    }
    ∷ record { line = codes "e"; asked = Ok (Command (cmd.Lock (codes "north") day)); reply = Err (Plain Failed) }
    ∷ record { line = codes "f"; asked = Err (Plain Closed); reply = Err (Plain Closed) } ∷ []

pub run : (day : Day)
    → (standing_after at_first (turns day) ≡ record
    { now = record { styles = []; branches = new_branch (codes "north") ∷ []; transfers = [] }; failed = true })
    × (commands_of (turns day)
    ≡ record { command = cmd.Branch (codes "north"); reply = Ok Done }
    ∷ record { command = cmd.Lock (codes "south") day; reply = Err (Plain UnknownBranch) } ∷ [])
unfolding done
run day = (refl, refl)

-- a report on a branch that is not there
pub nowhere : (day : Day) → reply_to empty_state (Ok (Report (Balance (codes "north") day)))
    ≡ Err (Plain UnknownBranch)
nowhere day = refl

-- whatever is asked, every refusal and `repeated` are answered with the lines that leave the state
pub told_refusal : (f : Federation) (asked : Result Asked Refusal) (refusal : Refusal)
    → IsRefusalOrRepeat (reply_text f asked (Err refusal))
unfolding answer_text
told_refusal f asked (Plain cause) = inl (_, refl)
told_refusal f asked (Text fault) = inl (_, refl)
told_refusal f asked (ClaimFailed failure) = inl (_, refl)

pub told_repeat : (f : Federation) (name : List ℕ)
    → IsRefusalOrRepeat (reply_text f (Ok (Command (cmd.Branch name))) (Ok Repeated))
unfolding answer_text
told_repeat f name = inr refl
