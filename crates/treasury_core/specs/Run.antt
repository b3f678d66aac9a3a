-- Runs: commands with their replies, one after another (own rules).
use Rattle.std.specs.Prelude.{◌≡◌, ◌⊎◌, List, [], ◌∷◌, ⊤, Result, Err}
use Rattle.money_core.specs.declared.cause.Cause.TheVariants.{OutOfMemory}
use Rattle.book_core.specs.declared.refusal.Refusal.{Refusal}
use Rattle.book_core.specs.declared.refusal.Refusal.TheVariants.{Plain}
use Rattle.treasury_state.specs.Federation.{Federation}
use Rattle.treasury_core.specs.declared.command.Answer.{Answer}
use Rattle.treasury_core.specs.declared.command.Command.{Command}
use Rattle.treasury_core.specs.Fits.{Fits}
use Rattle.treasury_core.specs.Step.{reply, after}

-- a command and its reply
pub record Turn : Type 0 where
  pub command : Command
  pub reply : Result Answer Refusal

-- the reply is the step's, or 40
abbrev pub Replies : Federation → Command → Result Answer Refusal → Type 0
Replies f c r = (r ≡ reply f c) ⊎ (r ≡ Err (Plain OutOfMemory))

-- the state after a turn
abbrev pub after_turn : Federation → Turn → Federation
after_turn f t = after f t.command t.reply

-- commands that fit are replied to in turn, each in the state that the ones before left
abbrev pub IsRun : Federation → List Turn → Type 0
IsRun f [] = ⊤
IsRun f (t ∷ ts) = Fits f.styles t.command × Replies f t.command t.reply × IsRun (after_turn f t) ts

-- the state that they leave
abbrev pub state_after : Federation → List Turn → Federation
state_after f [] = f
state_after f (t ∷ ts) = state_after (after_turn f t) ts
